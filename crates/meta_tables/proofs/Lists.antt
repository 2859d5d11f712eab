-- Lists that are taken whole.
use Rattle.std.proofs.Common.{◌≡◌, ℕ, zero, suc, ◌+◌, ◌<◌, ◌≤◌, Bool, true, false, cond, List, [], ◌∷◌, length, take, drop, get_or, refl, sym, ap, ◌∙◌, arith, add-one, drop-cons}
use Rattle.std.proofs.lemmas.Bool.{ne_eqb}
use Rattle.il_base.specs.cli_format.Streams.{zeros}

pub take_whole : {A : Type 0} (xs : List A) (n : ℕ) → length xs ≤ n → take n xs ≡ xs
take_whole [] zero le = refl
take_whole [] (suc n) le = refl
take_whole (x ∷ xs) zero le = absurd (omega arith)
take_whole (x ∷ xs) (suc n) le = ap (λ ys. x ∷ ys) (take_whole xs n (omega arith))

pub take_both : {A : Type 0} (xs : List A) (m n : ℕ) → length xs ≤ m → length xs ≤ n → take m xs ≡ take n xs
take_both xs m n p q = take_whole xs m p ∙ sym (take_whole xs n q)

pub drop_step : {A : Type 0} (xs : List A) (i : ℕ) (d : A) → i < length xs → drop i xs ≡ get_or xs i d ∷ drop (i + 1) xs
drop_step xs i d lt = rw add-one (drop-cons xs i d lt)

pub drop_end : {A : Type 0} (xs : List A) (i : ℕ) → length xs ≤ i → drop i xs ≡ []
drop_end [] zero le = refl
drop_end [] (suc i) le = refl
drop_end (x ∷ xs) zero le = absurd (omega arith)
drop_end (x ∷ xs) (suc i) le = drop_end xs i (omega arith)

pub if_true : {A : Type 0} (b : Bool) (x y : A) → b ≡ true → cond b x y ≡ x
if_true true x y h = refl
if_true false x y h = absurd cc

pub if_false : {A : Type 0} (b : Bool) (x y : A) → b ≡ false → cond b x y ≡ y
if_false true x y h = absurd cc
if_false false x y h = refl

-- ---- a walk over bytes that are all zeros

pub zeros_go_on : (bs : List ℕ) (i : ℕ) → i < length bs → get_or bs i 0 ≡ 0 → zeros (drop (i + 1) bs) ≡ zeros (drop i bs)
unfolding zeros
zeros_go_on bs i lt z = rw (drop_step bs i 0 lt, z) refl

pub zeros_stop : (bs : List ℕ) (i : ℕ) → i < length bs → (get_or bs i 0 ≡ 0 → ⊥) → zeros (drop i bs) ≡ false
unfolding zeros
zeros_stop bs i lt z = rw (drop_step bs i 0 lt, ne_eqb (get_or bs i 0) 0 z) refl

pub zeros_end : (bs : List ℕ) (i : ℕ) → length bs ≤ i → zeros (drop i bs) ≡ true
unfolding zeros
zeros_end bs i le = rw (drop_end bs i le) refl

pub ruleset zeroing = (zeros_go_on, zeros_stop, zeros_end)
