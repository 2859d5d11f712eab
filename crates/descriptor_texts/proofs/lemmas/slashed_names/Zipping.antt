-- Things made of each element of a list, place by place.
use Rattle.std.proofs.Common.{◌≡◌, ℕ, zero, suc, ◌+◌, ◌<◌, ◌≤◌, List, [], ◌∷◌, ◌++◌, length, take, Some, refl, add-one, arith}
use Rattle.std.specs.Prelude.{slice_get}
use Rattle.std.specs.List.{AllZip}

zip_suc : {A B : Type 0} (P : A → B → Type 0) (xs : List A) (i : ℕ) → i < length xs → (ys : List B) (y : B) → AllZip P (take i xs) ys → ((x : A) → slice_get xs i ≡ Some x → P x y) → AllZip P (take (suc i) xs) (ys ++ y ∷ [])
zip_suc P [] i below ys y all p = absurd (omega arith)
zip_suc P (x ∷ xs) zero below [] y all p = (p x refl, tt)
zip_suc P (x ∷ xs) zero below (z ∷ ys) y all p = absurd all
zip_suc P (x ∷ xs) (suc i) below [] y all p = absurd all
zip_suc P (x ∷ xs) (suc i) below (z ∷ ys) y all p = (all.0, zip_suc P xs i (omega arith) ys y all.1 p)

-- the step of a loop over the places of the first list
pub zip_next : {A B : Type 0} (P : A → B → Type 0) (xs : List A) (i : ℕ) → i < length xs → (ys : List B) (y : B) → AllZip P (take i xs) ys → ((x : A) → slice_get xs i ≡ Some x → P x y)
    → (new : List B) → new ≡ ys ++ y ∷ [] → AllZip P (take (i + 1) xs) new
zip_next P xs i below ys y all p new e = rw (add-one, e) (zip_suc P xs i below ys y all p)

pub zip_all : {A B : Type 0} (P : A → B → Type 0) (xs : List A) (i : ℕ) → length xs ≤ i → (ys : List B) → AllZip P (take i xs) ys → AllZip P xs ys
zip_all P [] zero done ys all = all
zip_all P [] (suc i) done ys all = all
zip_all P (x ∷ xs) zero done ys all = absurd (omega arith)
zip_all P (x ∷ xs) (suc i) done [] all = absurd all
zip_all P (x ∷ xs) (suc i) done (y ∷ ys) all = (all.0, zip_all P xs i (omega arith) ys all.1)
