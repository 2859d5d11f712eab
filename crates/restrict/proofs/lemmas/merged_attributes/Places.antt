-- The assemblies of inputs in their places.
use Rattle.std.proofs.Common.{◌≡◌, ℕ, zero, suc, ◌<◌, List, [], ◌∷◌, length, take, get_or, Some, sym, ap, ◌∙◌}
use Rattle.std.specs.Prelude.{slice_get}
use Rattle.std.proofs.lemmas.Option.{slice_get-get_or}

taken : {A : Type 0} (n k : ℕ) (xs : List A) (x : A) → slice_get (take n xs) k ≡ Some x → slice_get xs k ≡ Some x
taken zero k xs x e = cc
taken (suc n) k [] x e = e
taken (suc n) zero (y ∷ xs) x e = e
taken (suc n) (suc k) (y ∷ xs) x e = taken n k xs x e

-- what is in a place of the first ones is so in that place of all
pub front_here : {A : Type 0} (n : ℕ) (xs ys : List A) (k place : ℕ) (x : A) → ys ≡ take n xs → k < length ys → x ≡ get_or ys k x → place ≡ k → slice_get xs place ≡ Some x
front_here n xs ys k place x e lt is same =
    ap (slice_get xs) same ∙ taken n k xs x (ap (λ (l : List _). slice_get l k) (sym e) ∙ slice_get-get_or ys k x lt ∙ ap (λ (y : _). Some y) (sym is))
