-- Kinds and arguments where one more construct may open.
use Rattle.std.proofs.Common.{◌≡◌, ◌<◌, ◌≤◌, ◌-◌, ◌+◌, ◌++◌, Ok, Err, append_assoc, append-nil, ℕ, zero, suc, List, [], ◌∷◌, length, get_or, drop, refl, ap, sym, ◌∙◌, arith}
use Rattle.attr_blobs.specs.declared.kind.ParamKind.{ParamKind, out-ParamKind}
use Rattle.attr_blobs.specs.declared.value.EnumSize.{EnumSize}
use Rattle.attr_blobs.specs.declared.value.Arg.{Arg}
use Rattle.attr_blobs.specs.declared.error.Unread.{Unread}
use Rattle.attr_blobs.specs.declared.error.Unread.TheVariants as unread
use Rattle.attr_blobs.specs.Answers.{Fails}
use Rattle.attr_blobs.specs.Texts.{Read, Reader, ◌>>=◌}
use Rattle.attr_blobs.specs.Values.{kind_at, kind_by, arg_at, arg_by, args_at, fixed_at, nameds_at, levels}
use Rattle.attr_blobs.specs.declared.value.NamedArg.{NamedArg}
use Rattle.std.proofs.Math.ListN.{drop_of_length-le}
use Rattle.attr_blobs.proofs.Sizes.{at_drop}
use Rattle.attr_blobs.proofs.Names.{from, from_is}

pub kind_opened : (enums : List EnumSize) (room : ℕ) (bytes : List ℕ) → 0 < room → 1 ≤ length bytes →
    kind_at enums room bytes ≡ kind_by enums (kind_at enums (room - 1)) (get_or bytes 0 0) (from 1 bytes)
unfolding kind_at
kind_opened enums zero bytes h l = absurd (omega arith)
kind_opened enums (suc room) [] h l = absurd (omega arith)
kind_opened enums (suc room) (b ∷ bytes) h l =
    let below : suc room - 1 ≡ room = omega arith in
    rw (below, from_is 1 (b ∷ bytes)) refl

pub arg_opened : (enums : List EnumSize) (room : ℕ) (kind : ParamKind) (bytes : List ℕ) → 0 < room →
    arg_at enums room kind bytes ≡ arg_by enums (room - 1) (arg_at enums (room - 1)) (out-ParamKind kind) bytes
unfolding arg_at
arg_opened enums zero kind bytes h = absurd (omega arith)
arg_opened enums (suc room) kind bytes h = let below : suc room - 1 ≡ room = omega arith in rw below refl

-- what was read before, and what is still read
abbrev pub with_front : List Arg → Read (List Arg × List ℕ) → Read (List Arg × List ℕ)
with_front front read = read >>= λ x. Ok (front ++ x.0, x.1)

regroup : (front : List Arg) (n : Arg) (read : Read (List Arg × List ℕ)) → with_front front (read >>= λ x. Ok (n ∷ x.0, x.1)) ≡ with_front (front ++ n ∷ []) read
regroup front n (Ok x) = ap (λ (ns : List Arg). Ok (ns, x.1)) (simp append_assoc)
regroup front n (Err f) = refl

pub goes_on : (one : Reader Arg) (front : List Arg) (count i : ℕ) (bytes : List ℕ) (n : Arg) (after : List ℕ) (total : Read (List Arg × List ℕ)) → i < count → one bytes ≡ Ok (n, after)
    → with_front front (args_at one (count - i) bytes) ≡ total → with_front (front ++ n ∷ []) (args_at one (count - (i + 1)) after) ≡ total
unfolding args_at
goes_on one front count i bytes n after total lt h so_far =
    let k : count - i ≡ suc (count - (i + 1)) = omega arith in
    let step : with_front front (args_at one (count - i) bytes) ≡ with_front (front ++ n ∷ []) (args_at one (count - (i + 1)) after) = rw (k, h) (regroup front n (args_at one (count - (i + 1)) after)) in
    sym step ∙ so_far

pub ends : (one : Reader Arg) (e : Unread) (front : List Arg) (count i : ℕ) (bytes : List ℕ) (total : Read (List Arg × List ℕ)) → i < count → Fails e (one bytes)
    → with_front front (args_at one (count - i) bytes) ≡ total → Fails e total
unfolding args_at
ends one unread.Exhausted front count i bytes total lt h so_far = tt
ends one (unread.Bad left) front count i bytes total lt h so_far =
    let k : count - i ≡ suc (count - (i + 1)) = omega arith in
    let step : with_front front (args_at one (count - i) bytes) ≡ Err left = rw (k, h) refl in
    sym so_far ∙ step

pub is_done : (one : Reader Arg) (front : List Arg) (count i : ℕ) (bytes : List ℕ) (total : Read (List Arg × List ℕ)) → count ≤ i → with_front front (args_at one (count - i) bytes) ≡ total → total ≡ Ok (front, bytes)
unfolding args_at
is_done one front count i bytes total le so_far =
    let k : count - i ≡ 0 = omega arith in
    let step : with_front front (args_at one (count - i) bytes) ≡ Ok (front, bytes) = rw k (ap (λ (ns : List Arg). Ok (ns, bytes)) (append-nil front)) in
    sym so_far ∙ step

-- the same of named arguments
abbrev pub with_named : List NamedArg → Read (List NamedArg × List ℕ) → Read (List NamedArg × List ℕ)
with_named front read = read >>= λ x. Ok (front ++ x.0, x.1)

regroup_named : (front : List NamedArg) (n : NamedArg) (read : Read (List NamedArg × List ℕ)) → with_named front (read >>= λ x. Ok (n ∷ x.0, x.1)) ≡ with_named (front ++ n ∷ []) read
regroup_named front n (Ok x) = ap (λ (ns : List NamedArg). Ok (ns, x.1)) (simp append_assoc)
regroup_named front n (Err f) = refl

pub named_goes_on : (one : Reader NamedArg) (front : List NamedArg) (count i : ℕ) (bytes : List ℕ) (n : NamedArg) (after : List ℕ) (total : Read (List NamedArg × List ℕ)) → i < count → one bytes ≡ Ok (n, after)
    → with_named front (nameds_at one (count - i) bytes) ≡ total → with_named (front ++ n ∷ []) (nameds_at one (count - (i + 1)) after) ≡ total
unfolding nameds_at
named_goes_on one front count i bytes n after total lt h so_far =
    let k : count - i ≡ suc (count - (i + 1)) = omega arith in
    let step : with_named front (nameds_at one (count - i) bytes) ≡ with_named (front ++ n ∷ []) (nameds_at one (count - (i + 1)) after) = rw (k, h) (regroup_named front n (nameds_at one (count - (i + 1)) after)) in
    sym step ∙ so_far

pub named_ends : (one : Reader NamedArg) (e : Unread) (front : List NamedArg) (count i : ℕ) (bytes : List ℕ) (total : Read (List NamedArg × List ℕ)) → i < count → Fails e (one bytes)
    → with_named front (nameds_at one (count - i) bytes) ≡ total → Fails e total
unfolding nameds_at
named_ends one unread.Exhausted front count i bytes total lt h so_far = tt
named_ends one (unread.Bad left) front count i bytes total lt h so_far =
    let k : count - i ≡ suc (count - (i + 1)) = omega arith in
    let step : with_named front (nameds_at one (count - i) bytes) ≡ Err left = rw (k, h) refl in
    sym so_far ∙ step

pub named_is_done : (one : Reader NamedArg) (front : List NamedArg) (count i : ℕ) (bytes : List ℕ) (total : Read (List NamedArg × List ℕ)) → count ≤ i → with_named front (nameds_at one (count - i) bytes) ≡ total → total ≡ Ok (front, bytes)
unfolding nameds_at
named_is_done one front count i bytes total le so_far =
    let k : count - i ≡ 0 = omega arith in
    let step : with_named front (nameds_at one (count - i) bytes) ≡ Ok (front, bytes) = rw k (ap (λ (ns : List NamedArg). Ok (ns, bytes)) (append-nil front)) in
    sym so_far ∙ step

-- the same of arguments of given kinds
pub fixed_goes_on : (enums : List EnumSize) (front : List Arg) (kinds : List ParamKind) (i : ℕ) (kind : ParamKind) (bytes : List ℕ) (n : Arg) (after : List ℕ) (total : Read (List Arg × List ℕ)) → i < length kinds → kind ≡ get_or kinds i kind
    → arg_at enums levels kind bytes ≡ Ok (n, after) → with_front front (fixed_at enums (drop i kinds) bytes) ≡ total → with_front (front ++ n ∷ []) (fixed_at enums (drop (i + 1) kinds) after) ≡ total
unfolding fixed_at
fixed_goes_on enums front kinds i kind bytes n after total lt is h so_far =
    let k : drop i kinds ≡ kind ∷ drop (i + 1) kinds = at_drop kinds i kind lt is in
    let step : with_front front (fixed_at enums (drop i kinds) bytes) ≡ with_front (front ++ n ∷ []) (fixed_at enums (drop (i + 1) kinds) after) = rw (k, h) (regroup front n (fixed_at enums (drop (i + 1) kinds) after)) in
    sym step ∙ so_far

pub fixed_ends : (enums : List EnumSize) (e : Unread) (front : List Arg) (kinds : List ParamKind) (i : ℕ) (kind : ParamKind) (bytes : List ℕ) (total : Read (List Arg × List ℕ)) → i < length kinds → kind ≡ get_or kinds i kind
    → Fails e (arg_at enums levels kind bytes) → with_front front (fixed_at enums (drop i kinds) bytes) ≡ total → Fails e total
unfolding fixed_at
fixed_ends enums unread.Exhausted front kinds i kind bytes total lt is h so_far = tt
fixed_ends enums (unread.Bad left) front kinds i kind bytes total lt is h so_far =
    let k : drop i kinds ≡ kind ∷ drop (i + 1) kinds = at_drop kinds i kind lt is in
    let step : with_front front (fixed_at enums (drop i kinds) bytes) ≡ Err left = rw (k, h) refl in
    sym so_far ∙ step

pub fixed_is_done : (enums : List EnumSize) (front : List Arg) (kinds : List ParamKind) (i : ℕ) (bytes : List ℕ) (total : Read (List Arg × List ℕ)) → length kinds ≤ i → with_front front (fixed_at enums (drop i kinds) bytes) ≡ total → total ≡ Ok (front, bytes)
unfolding fixed_at
fixed_is_done enums front kinds i bytes total le so_far =
    let k : drop i kinds ≡ [] = drop_of_length-le kinds le in
    let step : with_front front (fixed_at enums (drop i kinds) bytes) ≡ Ok (front, bytes) = rw k (ap (λ (ns : List Arg). Ok (ns, bytes)) (append-nil front)) in
    sym so_far ∙ step
