-- Filters of joined lists and of numbers in order.
use Rattle.std.proofs.Common.{◌≡◌, List, [], ◌∷◌, ◌++◌, map, Bool, true, false, refl, ap, ◌∙◌}
use Rattle.std.specs.Prelude.{if◌then◌else◌}
use Rattle.std.specs.List.{flat_map, filter}
use Rattle.std.proofs.lemmas.List.Elements.{filter-append}
use Rattle.std.proofs.lemmas.List.{map-append}

-- ---- joined lists

module _ {A B : Type 0} (f : A → B) (p : A → Bool) where
  pub map_filter_append : (xs ys : List A) → map f (filter p (xs ++ ys)) ≡ map f (filter p xs) ++ map f (filter p ys)
  map_filter_append xs ys = ap (map f) (filter-append p xs ys) ∙ map-append f (filter p xs) (filter p ys)

  pub map_filter_flat : {X : Type 0} (g : X → List A) (xs : List X) → map f (filter p (flat_map g xs)) ≡ flat_map (λ x. map f (filter p (g x))) xs
  map_filter_flat g [] = refl
  map_filter_flat g (x ∷ xs) = map_filter_append (g x) (flat_map g xs) ∙ ap (λ (ys : List B). map f (filter p (g x)) ++ ys) (map_filter_flat g xs)

  pub map_filter_if : (b : Bool) (xs : List A) → map f (filter p (if b then xs else [])) ≡ (if b then map f (filter p xs) else [])
  map_filter_if true xs = refl
  map_filter_if false xs = refl

pub flat_agree : {X B : Type 0} (f g : X → List B) → ((x : X) → f x ≡ g x) → (xs : List X) → flat_map f xs ≡ flat_map g xs
flat_agree f g h [] = refl
flat_agree f g h (x ∷ xs) = rw (h x, flat_agree f g h xs) refl
