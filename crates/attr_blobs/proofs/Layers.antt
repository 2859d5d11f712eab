-- The written bytes of kinds and arguments by their outermost construct.
use Rattle.std.proofs.Common.{Result, Ok, Err, OnOk, ◌≡◌, ℕ, List, [], ◌∷◌, ◌++◌, Option, Some, None, length, get_or, drop, map, min, refl, sym, ap, subst, ◌∙◌, ◌<◌, ◌≤◌, ◌+◌, append_assoc}
use Rattle.std.specs.List.{concat, flat_map}
use Rattle.std.proofs.lemmas.List.{length-map, append-nil}
use Rattle.std.proofs.lemmas.List.Concat.{flat_map-cons}
use Rattle.byteorder.specs.Endian.{little_bytes}
use Rattle.attr_blobs.specs.declared.kind.ParamKind.{ParamKind, fold-ParamKind, fold-roll-ParamKind}
use Rattle.attr_blobs.specs.declared.kind.ParamKind.TheOpen.{ParamKind-F}
use Rattle.attr_blobs.specs.declared.kind.ParamKind.TheVariants as k
use Rattle.attr_blobs.specs.declared.value.Arg.{Arg, fold-Arg, fold-roll-Arg}
use Rattle.attr_blobs.specs.declared.value.Arg.TheOpen.{Arg-F}
use Rattle.attr_blobs.specs.declared.value.Arg.TheVariants as a
use Rattle.attr_blobs.specs.Answers.{Extends}
use Rattle.attr_blobs.specs.Writing.{text_bytes, text_or_null_bytes, kind_layer, kind_bytes, arg_layer, arg_bytes, vector_bytes, number_bytes, element_of, fixed_bytes}
use Rattle.std.proofs.Math.ListN.{drop_of_length-le}
use Rattle.attr_blobs.proofs.Sizes.{at_drop}

pub extends_same : (old new : List ℕ) → new ≡ old → Extends old new
extends_same old new e = record { more = []; is_behind = e ∙ sym (append-nil old) }

pub extends_behind : (old front middle new : List ℕ) → middle ≡ old ++ front → Extends middle new → Extends old new
extends_behind old front middle new e h = record { more = front ++ h.more; is_behind = h.is_behind ∙ ap (λ (l : List ℕ). l ++ h.more) e ∙ append_assoc old front h.more }

pub kind_prim : (b : ℕ) → kind_bytes (k.Prim b) ≡ b ∷ []
unfolding kind_bytes
kind_prim b = ap (fold-ParamKind (List ℕ) kind_layer) (sym (k.rolls-Prim b)) ∙ fold-roll-ParamKind (List ℕ) kind_layer (ParamKind-F.Prim b)

pub kind_text : kind_bytes k.Text ≡ 14 ∷ []
unfolding kind_bytes
kind_text = ap (fold-ParamKind (List ℕ) kind_layer) (sym k.rolls-Text) ∙ fold-roll-ParamKind (List ℕ) kind_layer ParamKind-F.Text

pub kind_typ : kind_bytes k.Typ ≡ 80 ∷ []
unfolding kind_bytes
kind_typ = ap (fold-ParamKind (List ℕ) kind_layer) (sym k.rolls-Typ) ∙ fold-roll-ParamKind (List ℕ) kind_layer ParamKind-F.Typ

pub kind_boxed : kind_bytes k.Boxed ≡ 81 ∷ []
unfolding kind_bytes
kind_boxed = ap (fold-ParamKind (List ℕ) kind_layer) (sym k.rolls-Boxed) ∙ fold-roll-ParamKind (List ℕ) kind_layer ParamKind-F.Boxed

pub kind_enum : (name : List ℕ) (size : ℕ) → kind_bytes (k.Enum name size) ≡ 85 ∷ text_bytes name
unfolding kind_bytes
kind_enum name size = ap (fold-ParamKind (List ℕ) kind_layer) (sym (k.rolls-Enum name size)) ∙ fold-roll-ParamKind (List ℕ) kind_layer (ParamKind-F.Enum name size)

pub kind_list : (kind : ParamKind) → kind_bytes (k.List kind) ≡ 29 ∷ kind_bytes kind
unfolding kind_bytes
kind_list kind = ap (fold-ParamKind (List ℕ) kind_layer) (sym (k.rolls-List kind)) ∙ fold-roll-ParamKind (List ℕ) kind_layer (ParamKind-F.List kind)

-- how one argument is written
abbrev Way : Type 0
Way = ParamKind → List ℕ

at_kind : (f g : Way) (kind : ParamKind) → f ≡ g → f kind ≡ g kind
at_kind f g kind e = ap (λ (h : Way). h kind) e

pub arg_number : (n : ℕ) (kind : ParamKind) → arg_bytes (a.Number n) kind ≡ number_bytes kind n
unfolding arg_bytes
arg_number n kind = at_kind _ _ kind (ap (fold-Arg Way arg_layer) (sym (a.rolls-Number n)) ∙ fold-roll-Arg Way arg_layer (Arg-F.Number n))

pub arg_text : (t : Option (List ℕ)) (kind : ParamKind) → arg_bytes (a.Text t) kind ≡ text_or_null_bytes t
unfolding arg_bytes
arg_text t kind = at_kind _ _ kind (ap (fold-Arg Way arg_layer) (sym (a.rolls-Text t)) ∙ fold-roll-Arg Way arg_layer (Arg-F.Text t))

pub arg_typ : (t : Option (List ℕ)) (kind : ParamKind) → arg_bytes (a.Typ t) kind ≡ text_or_null_bytes t
unfolding arg_bytes
arg_typ t kind = at_kind _ _ kind (ap (fold-Arg Way arg_layer) (sym (a.rolls-Typ t)) ∙ fold-roll-Arg Way arg_layer (Arg-F.Typ t))

pub arg_boxed : (inner : ParamKind) (value : Arg) (kind : ParamKind) → arg_bytes (a.Boxed inner value) kind ≡ kind_bytes inner ++ arg_bytes value inner
unfolding arg_bytes
arg_boxed inner value kind = at_kind _ _ kind (ap (fold-Arg Way arg_layer) (sym (a.rolls-Boxed inner value)) ∙ fold-roll-Arg Way arg_layer (Arg-F.Boxed inner value))

joined : (xs : List Arg) (kind : ParamKind) → concat (map (λ (e : Way). e kind) (map (fold-Arg Way arg_layer) xs)) ≡ flat_map (λ x. fold-Arg Way arg_layer x kind) xs
joined [] kind = refl
joined (x ∷ xs) kind = ap (λ (l : List ℕ). fold-Arg Way arg_layer x kind ++ l) (joined xs kind) ∙ sym (flat_map-cons (λ x. fold-Arg Way arg_layer x kind) x xs)

pub arg_vector : (xs : Option (List Arg)) (kind : ParamKind) → arg_bytes (a.List xs) kind ≡ vector_bytes xs (element_of kind)
unfolding arg_bytes
arg_vector None kind = at_kind _ _ kind (ap (fold-Arg Way arg_layer) (sym (a.rolls-List None)) ∙ fold-roll-Arg Way arg_layer (Arg-F.List None))
arg_vector (Some xs) kind =
    at_kind _ _ kind (ap (fold-Arg Way arg_layer) (sym (a.rolls-List (Some xs))) ∙ fold-roll-Arg Way arg_layer (Arg-F.List (Some xs)))
    ∙ rw (length-map, length-map) (ap (λ (l : List ℕ). little_bytes 4 (min (length xs) 4294967294) ++ l) (joined xs (element_of kind)))

pub extends_more : (old middle more new : List ℕ) → Extends old middle → new ≡ middle ++ more → Extends old new
extends_more old middle more new h e = record { more = h.more ++ more; is_behind = e ∙ ap (λ (l : List ℕ). l ++ more) h.is_behind ∙ append_assoc old h.more more }

pub extends_on : (old middle new : List ℕ) → Extends old middle → Extends middle new → Extends old new
extends_on old middle new h k = extends_more old middle k.more new h k.is_behind

-- two pieces, one after the other
pub both : {E : Type 0} (r : Result Unit E) (out middle new a b : List ℕ) → middle ≡ out ++ a → OnOk r (new ≡ middle ++ b) → OnOk r (new ≡ out ++ (a ++ b))
both (Ok x) out middle new a b e h = h ∙ ap (λ (l : List ℕ). l ++ b) e ∙ append_assoc out a b
both (Err x) out middle new a b e h = h

-- arguments of given kinds, one by one
pub fixed_step : (kinds : List ParamKind) (args : List Arg) (i : ℕ) (kind : ParamKind) (arg : Arg) (out new all : List ℕ) → i < length kinds → kind ≡ get_or kinds i kind → i < length args → arg ≡ get_or args i arg →
    new ≡ out ++ arg_bytes arg kind → out ++ fixed_bytes (drop i kinds) (drop i args) ≡ all → new ++ fixed_bytes (drop (i + 1) kinds) (drop (i + 1) args) ≡ all
unfolding fixed_bytes
fixed_step kinds args i kind arg out new all h is l js n so =
    let rest : List ℕ = fixed_bytes (drop (i + 1) kinds) (drop (i + 1) args) in
    let k : drop i kinds ≡ kind ∷ drop (i + 1) kinds = at_drop kinds i kind h is in
    let m : drop i args ≡ arg ∷ drop (i + 1) args = at_drop args i arg l js in
    let x : out ++ fixed_bytes (kind ∷ drop (i + 1) kinds) (drop i args) ≡ all = subst (λ (v : List ParamKind). out ++ fixed_bytes v (drop i args) ≡ all) k so in
    let y : out ++ fixed_bytes (kind ∷ drop (i + 1) kinds) (arg ∷ drop (i + 1) args) ≡ all = subst (λ (v : List Arg). out ++ fixed_bytes (kind ∷ drop (i + 1) kinds) v ≡ all) m x in
    ap (λ (v : List ℕ). v ++ rest) n ∙ append_assoc out (arg_bytes arg kind) rest ∙ y

no_args : (kinds : List ParamKind) → fixed_bytes kinds [] ≡ []
unfolding fixed_bytes
no_args [] = refl
no_args (kind ∷ kinds) = refl

pub fixed_short : (kinds : List ParamKind) (args : List Arg) (i : ℕ) (out all : List ℕ) → length args ≤ i → out ++ fixed_bytes (drop i kinds) (drop i args) ≡ all → out ≡ all
fixed_short kinds args i out all h so =
    let x : out ++ fixed_bytes (drop i kinds) [] ≡ all = subst (λ (v : List Arg). out ++ fixed_bytes (drop i kinds) v ≡ all) (drop_of_length-le args h) so in
    sym (append-nil out) ∙ ap (λ (v : List ℕ). out ++ v) (sym (no_args (drop i kinds))) ∙ x

pub fixed_done : (kinds : List ParamKind) (args : List Arg) (i : ℕ) (out all : List ℕ) → length kinds ≤ i → out ++ fixed_bytes (drop i kinds) (drop i args) ≡ all → out ≡ all
unfolding fixed_bytes
fixed_done kinds args i out all h so =
    let x : out ++ fixed_bytes [] (drop i args) ≡ all = subst (λ (v : List ParamKind). out ++ fixed_bytes v (drop i args) ≡ all) (drop_of_length-le kinds h) so in
    sym (append-nil out) ∙ x
