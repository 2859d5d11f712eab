-- The forms of a dependency, by the first argument and those after it.
use Rattle.std.proofs.Common.{◌≡◌, ℕ, List, [], ◌∷◌, Option, refl}
use Rattle.attr_blobs.specs.declared.value.Arg.{Arg}
use Rattle.attr_blobs.specs.declared.value.Arg.TheOpen.{Arg-F}
use Rattle.rules.specs.mark_rules.Annotations.{dependency_by}
use Rattle.mark_dependencies.specs.item_dependencies.Forms.{sought_by, member_by, kinds_in}

pub member_is : (name : Option (List ℕ)) (xs : List (Arg-F Arg)) → dependency_by (Arg-F.Text name ∷ xs) ≡ member_by name xs
member_is name [] = refl
member_is name (Arg-F.Number n ∷ []) = refl
member_is name (Arg-F.Text t ∷ []) = refl
member_is name (Arg-F.Typ t ∷ []) = refl
member_is name (Arg-F.Boxed k x ∷ []) = refl
member_is name (Arg-F.List xs ∷ []) = refl
member_is name (Arg-F.Number n ∷ y ∷ []) = refl
member_is name (Arg-F.Text t ∷ Arg-F.Number n ∷ []) = refl
member_is name (Arg-F.Text t ∷ Arg-F.Text a ∷ []) = refl
member_is name (Arg-F.Text t ∷ Arg-F.Typ a ∷ []) = refl
member_is name (Arg-F.Text t ∷ Arg-F.Boxed k x ∷ []) = refl
member_is name (Arg-F.Text t ∷ Arg-F.List xs ∷ []) = refl
member_is name (Arg-F.Typ t ∷ y ∷ []) = refl
member_is name (Arg-F.Boxed k x ∷ y ∷ []) = refl
member_is name (Arg-F.List xs ∷ y ∷ []) = refl
member_is name (Arg-F.Number n ∷ y ∷ z ∷ zs) = refl
member_is name (Arg-F.Text t ∷ Arg-F.Number n ∷ z ∷ zs) = refl
member_is name (Arg-F.Text t ∷ Arg-F.Text a ∷ z ∷ zs) = refl
member_is name (Arg-F.Text t ∷ Arg-F.Typ a ∷ z ∷ zs) = refl
member_is name (Arg-F.Text t ∷ Arg-F.Boxed k x ∷ z ∷ zs) = refl
member_is name (Arg-F.Text t ∷ Arg-F.List xs ∷ z ∷ zs) = refl
member_is name (Arg-F.Typ t ∷ y ∷ z ∷ zs) = refl
member_is name (Arg-F.Boxed k x ∷ y ∷ z ∷ zs) = refl
member_is name (Arg-F.List xs ∷ y ∷ z ∷ zs) = refl

pub kinds_are : (n : ℕ) (xs : List (Arg-F Arg)) → dependency_by (Arg-F.Number n ∷ xs) ≡ kinds_in n (sought_by xs)
kinds_are n [] = refl
kinds_are n (Arg-F.Number m ∷ []) = refl
kinds_are n (Arg-F.Text t ∷ []) = refl
kinds_are n (Arg-F.Typ t ∷ []) = refl
kinds_are n (Arg-F.Boxed k x ∷ []) = refl
kinds_are n (Arg-F.List xs ∷ []) = refl
kinds_are n (Arg-F.Number m ∷ y ∷ []) = refl
kinds_are n (Arg-F.Text t ∷ Arg-F.Number m ∷ []) = refl
kinds_are n (Arg-F.Text t ∷ Arg-F.Text a ∷ []) = refl
kinds_are n (Arg-F.Text t ∷ Arg-F.Typ a ∷ []) = refl
kinds_are n (Arg-F.Text t ∷ Arg-F.Boxed k x ∷ []) = refl
kinds_are n (Arg-F.Text t ∷ Arg-F.List xs ∷ []) = refl
kinds_are n (Arg-F.Typ t ∷ y ∷ []) = refl
kinds_are n (Arg-F.Boxed k x ∷ y ∷ []) = refl
kinds_are n (Arg-F.List xs ∷ y ∷ []) = refl
kinds_are n (Arg-F.Number m ∷ y ∷ z ∷ zs) = refl
kinds_are n (Arg-F.Text t ∷ Arg-F.Number m ∷ z ∷ zs) = refl
kinds_are n (Arg-F.Text t ∷ Arg-F.Text a ∷ z ∷ zs) = refl
kinds_are n (Arg-F.Text t ∷ Arg-F.Typ a ∷ z ∷ zs) = refl
kinds_are n (Arg-F.Text t ∷ Arg-F.Boxed k x ∷ z ∷ zs) = refl
kinds_are n (Arg-F.Text t ∷ Arg-F.List xs ∷ z ∷ zs) = refl
kinds_are n (Arg-F.Typ t ∷ y ∷ z ∷ zs) = refl
kinds_are n (Arg-F.Boxed k x ∷ y ∷ z ∷ zs) = refl
kinds_are n (Arg-F.List xs ∷ y ∷ z ∷ zs) = refl
