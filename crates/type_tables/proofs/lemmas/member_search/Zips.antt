-- The names of each assembly, place by place.
use Rattle.std.proofs.Common.{◌≡◌, ℕ, zero, suc, ◌+◌, ◌<◌, List, [], ◌∷◌, ◌++◌, length, take, get_or, Some, sym, ap, subst, ◌∙◌, arith}
use Rattle.std.specs.Prelude.{slice_get}
use Rattle.std.specs.List.{AllZip}
use Rattle.std.proofs.lemmas.List.{take_more}

zip_push : {A B : Type 0} (P : A → B → Type 0) (xs : List A) (ys : List B) (x : A) (y : B) → AllZip P xs ys → P x y → AllZip P (xs ++ x ∷ []) (ys ++ y ∷ [])
zip_push P [] [] x y all p = (p, tt)
zip_push P [] (z ∷ ys) x y all p = absurd all
zip_push P (w ∷ xs) [] x y all p = absurd all
zip_push P (w ∷ xs) (z ∷ ys) x y all p = (all.0, zip_push P xs ys x y all.1 p)

-- the step of a loop over the first list
pub zip_more : {A B : Type 0} (P : A → B → Type 0) (xs : List A) (i : ℕ) (x : A) → i < length xs → x ≡ get_or xs i x → (ys : List B) (y : B) → AllZip P (take i xs) ys → P x y
    → (new : List B) → new ≡ ys ++ y ∷ [] → AllZip P (take (i + 1) xs) new
zip_more P xs i x below is ys y all p new e =
    let front : take (i + 1) xs ≡ take i xs ++ x ∷ [] = take_more xs i x below ∙ ap (λ (z : _). take i xs ++ z ∷ []) (sym is) in
    rw (front, e) (zip_push P (take i xs) ys x y all p)

pub zip_as_long : {A B : Type 0} (P : A → B → Type 0) (xs : List A) (ys : List B) → AllZip P xs ys → (i : ℕ) (x : A) → slice_get xs i ≡ Some x → i < length ys
zip_as_long P [] ys all i x e = cc
zip_as_long P (w ∷ xs) [] all i x e = absurd all
zip_as_long P (w ∷ xs) (z ∷ ys) all zero x e = omega arith
zip_as_long P (w ∷ xs) (z ∷ ys) all (suc i) x e = let h = zip_as_long P xs ys all.1 i x e in omega (arith, h)

pub zip_at : {A B : Type 0} (P : A → B → Type 0) (xs : List A) (ys : List B) → AllZip P xs ys → (i : ℕ) (x : A) (d : B) → slice_get xs i ≡ Some x → P x (get_or ys i d)
zip_at P [] ys all i x d e = cc
zip_at P (w ∷ xs) [] all i x d e = absurd all
zip_at P (w ∷ xs) (z ∷ ys) all zero x d e = let same : w ≡ x = cc in subst (λ (v : _). P v z) same all.0
zip_at P (w ∷ xs) (z ∷ ys) all (suc i) x d e = zip_at P xs ys all.1 i x d e
