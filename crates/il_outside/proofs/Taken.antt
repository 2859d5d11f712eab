-- What a sink holds after two pieces.
use Rattle.std.proofs.Common.{◌≡◌, ◌+◌, ◌-◌, ◌≤◌, ◌<◌, ℕ, List, ◌++◌, Option, Some, None, take, drop, length, sym, ◌∙◌, ap, subst, append_assoc, length-drop, arith}
use Rattle.std.proofs.Math.Seq.{take-add}
use Rattle.std.proofs.lemmas.List.{take_rest, take-append-drop, drop-drop}
use Rattle.std.specs.Io.KnownBytes.{Appends}

joined : (a b c : Option (List ℕ)) (bs : List ℕ) (i n : ℕ) → Appends a b (take i bs) → Appends b c (take n (drop i bs)) → Appends a c (take (i + n) bs)
joined None b c bs i n h k = tt
joined (Some x) None c bs i n h k = absurd h
joined (Some x) (Some y) None bs i n h k = absurd k
joined (Some x) (Some y) (Some z) bs i n h k = k ∙ ap (λ (v : List ℕ). v ++ take n (drop i bs)) h ∙ append_assoc x (take i bs) (take n (drop i bs)) ∙ ap (λ (v : List ℕ). x ++ v) (sym (take-add i n bs))

-- the slice from i on, as the code takes it
abbrev pub rest_from : ℕ → List ℕ → List ℕ
rest_from i bs = take (length bs - i) (drop i bs)

pub appended : (a b c : Option (List ℕ)) (bs : List ℕ) (i n : ℕ) → Appends a b (take i bs) → Appends b c (take n (rest_from i bs)) → Appends a c (take (i + n) bs)
appended a b c bs i n h k = joined a b c bs i n h (subst (λ (v : List ℕ). Appends b c (take n v)) (take_rest bs i) k)

pub rest_within : (bs : List ℕ) (i n : ℕ) → i < length bs → n ≤ length (rest_from i bs) → i + n ≤ length bs
rest_within bs i n h k =
    let d : n ≤ length (drop i bs) = subst (λ (v : List ℕ). n ≤ length v) (take_rest bs i) k in
    omega (arith, length-drop i bs)

-- what a source gave stands before what it has left
pub given : (bs buf : List ℕ) (i n : ℕ) → take n buf ≡ take n (drop i bs) → drop i bs ≡ take n buf ++ drop (i + n) bs
given bs buf i n e = sym (ap (λ (v : List ℕ). v ++ drop (i + n) bs) e ∙ ap (λ (v : List ℕ). take n (drop i bs) ++ v) (sym (drop-drop n i bs)) ∙ take-append-drop n (drop i bs))
