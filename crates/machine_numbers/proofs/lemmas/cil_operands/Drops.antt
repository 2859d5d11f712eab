-- A list of which one element after the other is taken off.
use Rattle.std.proofs.Common.{◌≡◌, ◌∙◌, sym, refl, ℕ, zero, suc, ◌+◌, List, [], ◌∷◌, drop, Option, Some, None, add-one}
use Rattle.std.specs.Prelude.{MatchOption}

ends : {A : Type 0} (xs : List A) (k : ℕ) → drop k xs ≡ [] → drop (suc k) xs ≡ []
ends [] k e = refl
ends (x ∷ xs) zero e = cc
ends (x ∷ xs) (suc k) e = ends xs k e

goes_on : {A : Type 0} (xs : List A) (k : ℕ) (y : A) (ys : List A) → drop k xs ≡ y ∷ ys → drop (suc k) xs ≡ ys
goes_on [] zero y ys e = cc
goes_on [] (suc k) y ys e = cc
goes_on (x ∷ xs) zero y ys e = cc
goes_on (x ∷ xs) (suc k) y ys e = goes_on xs k y ys e

pub one_more : {A : Type 0} (xs : List A) (k : ℕ) (old new : List A) (top : Option A) → old ≡ drop k xs
    → MatchOption top ((old ≡ []) × (new ≡ [])) (λ top. old ≡ top ∷ new) → new ≡ drop (k + 1) xs
one_more xs k old new None e h = rw add-one (h.1 ∙ sym (ends xs k (sym e ∙ h.0)))
one_more xs k old new (Some y) e h = rw add-one (sym (goes_on xs k y new (sym e ∙ h)))
