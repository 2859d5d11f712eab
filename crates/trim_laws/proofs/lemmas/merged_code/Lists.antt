-- Lists of which each item goes two ways to one.
use Rattle.std.proofs.Common.{◌≡◌, List, [], ◌∷◌, map, Bool, true, false, cond, Some, find, inl, inr, refl, ap, sym, ◌∙◌}
use Rattle.std.specs.List.{Contains}
use Rattle.base_laws.proofs.lemmas.type_laws.Within.{In}
use Rattle.base_laws.proofs.lemmas.known_laws.Lists.{first_in, later_in}

pub maps_meet : {A B C D : Type 0} (f : B → D) (g : A → B) (h : C → D) (k : A → C) (xs : List A) → ((x : A) → Contains xs x → f (g x) ≡ h (k x)) → map f (map g xs) ≡ map h (map k xs)
maps_meet f g h k [] e = refl
maps_meet f g h k (x ∷ xs) e = λ i. e x (first_in x xs) i ∷ maps_meet f g h k xs (λ y c. e y (later_in x xs y c)) i

-- ---- the first that passes

found_by : {A B : Type 0} (f : A → B) (p : B → Bool) (u x : A) (xs : List A) (b : Bool) → p (f x) ≡ b → ((y : A) → In y (x ∷ xs) → p (f y) ≡ true → y ≡ u) → p (f u) ≡ true → In u (x ∷ xs)
    → (In u xs → find p (map f xs) ≡ Some (f u)) → cond b (Some (f x)) (find p (map f xs)) ≡ Some (f u)
found_by f p u x xs true e only passes inside next = ap (λ y. Some (f y)) (only x (inl refl) e)
found_by f p u x xs false e only passes (inl same) next = absurd (let h : p (f x) ≡ true = ap (λ y. p (f y)) (sym same) ∙ passes in cc)
found_by f p u x xs false e only passes (inr later) next = next later

-- the only one that passes is found
pub found_only : {A B : Type 0} (f : A → B) (p : B → Bool) (u : A) (xs : List A) → ((y : A) → In y xs → p (f y) ≡ true → y ≡ u) → p (f u) ≡ true → In u xs → find p (map f xs) ≡ Some (f u)
found_only f p u [] only passes inside = absurd inside
found_only f p u (x ∷ xs) only passes inside = found_by f p u x xs (p (f x)) refl only passes inside (λ later. found_only f p u xs (λ y c. only y (inr c)) passes later)
