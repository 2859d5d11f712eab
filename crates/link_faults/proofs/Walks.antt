-- One item after the other.
use Rattle.std.proofs.Common.{◌≡◌, ℕ, zero, suc, ◌+◌, ◌<◌, List, [], ◌∷◌, length, take, drop, get_or, Option, Some, None, refl, sym, ap, ◌∙◌, arith}
use Rattle.std.specs.Prelude.{slice_get}
use Rattle.std.proofs.lemmas.List.{drop_more}
use Rattle.rules.specs.link_rules.Faults.{first_of}

-- what is left begins with the item at its place
pub next_of : {A : Type 0} (xs : List A) (i : ℕ) (x : A) → i < length xs → x ≡ get_or xs i x → drop i xs ≡ x ∷ drop (i + 1) xs
next_of {A} xs i x lt e = drop_more xs i x lt ∙ ap (λ (y : A). y ∷ drop (i + 1) xs) (sym e)

-- where no item has a fault, there is no first
pub first_none : {A B : Type 0} (look : ℕ → A → Option B) (i : ℕ) (xs : List A) → ((k : ℕ) (x : A) → look k x ≡ None) → None ≡ first_of look i xs
first_none look i [] h = refl
first_none look i (x ∷ xs) h = rw (h i x) (first_none look (suc i) xs h)

pub first_none_in : {A B : Type 0} (look : ℕ → A → Option B) (i : ℕ) (xs : List A) → ((k : ℕ) (x : A) → slice_get xs k ≡ Some x → look (i + k) x ≡ None) → None ≡ first_of look i xs
first_none_in look i [] h = refl
first_none_in {A} {B} look i (x ∷ xs) h =
    let here : look i x ≡ None = ap (λ (n : ℕ). look n x) (omega arith) ∙ h 0 x refl in
    rw here (first_none_in look (suc i) xs (λ k y e. ap (λ (n : ℕ). look n y) (omega arith) ∙ h (suc k) y e))

-- an item of the front is one of all
pub of_front : {A : Type 0} (n : ℕ) (xs : List A) (k : ℕ) (x : A) → slice_get (take n xs) k ≡ Some x → slice_get xs k ≡ Some x
of_front zero xs k x e = cc
of_front (suc n) [] k x e = e
of_front (suc n) (y ∷ xs) zero x e = e
of_front (suc n) (y ∷ xs) (suc k) x e = of_front n xs k x e

pub first_none_at : {A B : Type 0} (look : ℕ → A → Option B) (xs : List A) → ((k : ℕ) (x : A) → slice_get xs k ≡ Some x → look k x ≡ None) → None ≡ first_of look 0 xs
first_none_at look xs h = first_none_in look 0 xs (λ k x e. ap (λ (n : ℕ). look n x) (omega arith) ∙ h k x e)
