-- Reading types one after another, as a loop does.
use Rattle.std.proofs.Common.{◌≡◌, ℕ, zero, suc, length, get_or, take, drop, ◌-◌, ◌+◌, ◌≤◌, ◌<◌, List, [], ◌∷◌, ◌++◌, Result, Ok, Err, refl, sym, ap, ◌∙◌, append_assoc, arith}
use Rattle.std.proofs.lemmas.List.{append-nil, take_all}
use Rattle.il_base.specs.declared.blob_grammar.element.Element.{Element}
use Rattle.il_base.specs.declared.sig.Sig.{Sig}
use Rattle.il_base.specs.blob_grammar.Reading.{Fault, Reader, ◌>>=◌, type_at, types_at, type_by}
use Rattle.il_base.specs.blob_grammar.Signatures.{element}
use Rattle.sig_blobs.specs.declared.error.Unread.{Unread}
use Rattle.sig_blobs.specs.declared.error.Unread.TheVariants as unread
use Rattle.sig_blobs.specs.Answers.{Fails}

-- what was read before, and what is still read
abbrev pub with_front : List Sig → Result (List Sig × List ℕ) Fault → Result (List Sig × List ℕ) Fault
with_front front read = read >>= λ x. Ok (front ++ x.0, x.1)

regroup : (front : List Sig) (n : Sig) (read : Result (List Sig × List ℕ) Fault) → with_front front (read >>= λ x. Ok (n ∷ x.0, x.1)) ≡ with_front (front ++ n ∷ []) read
regroup front n (Ok x) = ap (λ (ns : List Sig). Ok (ns, x.1)) (simp append_assoc)
regroup front n (Err f) = refl

pub goes_on : (one : Reader Sig) (front : List Sig) (count i : ℕ) (bytes : List ℕ) (n : Sig) (after : List ℕ) (total : Result (List Sig × List ℕ) Fault) → i < count → one bytes ≡ Ok (n, after)
    → with_front front (types_at one (count - i) bytes) ≡ total → with_front (front ++ n ∷ []) (types_at one (count - (i + 1)) after) ≡ total
unfolding types_at
goes_on one front count i bytes n after total lt h so_far =
    let k : count - i ≡ suc (count - (i + 1)) = omega arith in
    let step : with_front front (types_at one (count - i) bytes) ≡ with_front (front ++ n ∷ []) (types_at one (count - (i + 1)) after) = rw (k, h) (regroup front n (types_at one (count - (i + 1)) after)) in
    sym step ∙ so_far

pub ends : (one : Reader Sig) (e : Unread) (front : List Sig) (count i : ℕ) (bytes : List ℕ) (total : Result (List Sig × List ℕ) Fault) → i < count → Fails e (one bytes)
    → with_front front (types_at one (count - i) bytes) ≡ total → Fails e total
unfolding types_at
ends one unread.Exhausted front count i bytes total lt h so_far = tt
ends one (unread.Bad left what) front count i bytes total lt h so_far =
    let k : count - i ≡ suc (count - (i + 1)) = omega arith in
    let step : with_front front (types_at one (count - i) bytes) ≡ Err (left, what) = rw (k, h) refl in
    sym so_far ∙ step

pub is_done : (one : Reader Sig) (front : List Sig) (count i : ℕ) (bytes : List ℕ) (total : Result (List Sig × List ℕ) Fault) → count ≤ i → with_front front (types_at one (count - i) bytes) ≡ total → total ≡ Ok (front, bytes)
unfolding types_at
is_done one front count i bytes total le so_far =
    let k : count - i ≡ 0 = omega arith in
    let step : with_front front (types_at one (count - i) bytes) ≡ Ok (front, bytes) = rw k (ap (λ (ns : List Sig). Ok (ns, bytes)) (append-nil front)) in
    sym so_far ∙ step

-- a type at a depth that isn't the last
pub opened : (room : ℕ) (bytes : List ℕ) (first : Element) → 0 < room → 1 ≤ length bytes → first ≡ element (get_or bytes 0 0)
    → type_at room bytes ≡ type_by (type_at (room - 1)) first (get_or bytes 0 0) (take (length bytes - 1) (drop 1 bytes))
unfolding type_at
opened zero bytes first lt le same = absurd (omega arith)
opened (suc room) [] first lt le same = absurd (omega arith)
opened (suc room) (b ∷ bytes) first lt le same =
    let all : take (suc (length bytes) - 1) bytes ≡ bytes = take_all (suc (length bytes) - 1) bytes (omega arith) in
    let below : suc room - 1 ≡ room = omega arith in
    rw (same, all, below) refl
