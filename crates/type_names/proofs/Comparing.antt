-- Two texts, compared byte by byte.
use Rattle.std.proofs.Common.{◌≡◌, ℕ, zero, suc, ◌+◌, ◌<◌, List, [], ◌∷◌, length, drop, Bool, true, false, not, ◌&&◌, nat_eq, Option, slice_get, refl, sym, ap, ◌∙◌, add-one, arith}
use Rattle.std.specs.Option.{option_eq}
use Rattle.il_base.specs.world_model.Core.{same_name}

further : (xs ys : List ℕ) (i : ℕ) → i < length xs → i < length ys → option_eq nat_eq (slice_get xs i) (slice_get ys i) ≡ true → same_name (drop i xs) (drop i ys) ≡ same_name (drop (suc i) xs) (drop (suc i) ys)
further [] ys i h k e = absurd (omega arith)
further (x ∷ xs) [] i h k e = absurd (omega arith)
further (x ∷ xs) (y ∷ ys) zero h k e = ap (λ (b : Bool). b && same_name xs ys) e
further (x ∷ xs) (y ∷ ys) (suc i) h k e = further xs ys i (omega arith) (omega arith) e

holds : (b : Bool) → false ≡ not b → b ≡ true
holds true h = refl
holds false h = h

pub one_further : (xs ys : List ℕ) (i n m : ℕ) (x y : Option ℕ) (same : Bool) → n ≡ length xs → m ≡ length ys → n ≡ m → i < n → x ≡ slice_get xs i → y ≡ slice_get ys i → false ≡ not (option_eq nat_eq x y) →
    same_name (drop i xs) (drop i ys) ≡ same → same_name (drop (i + 1) xs) (drop (i + 1) ys) ≡ same
one_further xs ys i n m x y same l k e h p q u s =
    let one : option_eq nat_eq (slice_get xs i) (slice_get ys i) ≡ true = rw (← p, ← q) (holds (option_eq nat_eq x y) u) in
    rw add-one (sym (further xs ys i (omega arith) (omega arith) one) ∙ s)
