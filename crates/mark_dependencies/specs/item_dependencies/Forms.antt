-- The arguments of a dependency, taken from the first on.
use Rattle.std.specs.Prelude.{ℕ, List, [], ◌∷◌, map, Option}
use Rattle.attr_blobs.specs.declared.value.Arg.{Arg}
use Rattle.attr_blobs.specs.declared.value.Arg.TheOpen.{Arg-F}
use Rattle.rules.specs.mark_rules.Annotations.{Sought, own_type, type_text, by_type, Dependency, of_member, of_kinds}

abbrev pub by_one : Arg-F Arg → List Sought
by_one (Arg-F.Typ t) = by_type t ∷ []
by_one _ = []

abbrev pub by_assembly : Option (List ℕ) → Arg-F Arg → List Sought
by_assembly t (Arg-F.Text a) = type_text t a ∷ []
by_assembly t _ = []

abbrev pub by_two : Arg-F Arg → Arg-F Arg → List Sought
by_two (Arg-F.Text t) asm = by_assembly t asm
by_two _ asm = []

-- the type that the arguments after the first name
abbrev pub sought_by : List (Arg-F Arg) → List Sought
sought_by [] = []
sought_by (t ∷ []) = by_one t
sought_by (t ∷ asm ∷ []) = by_two t asm
sought_by (t ∷ asm ∷ x ∷ xs) = []

abbrev pub member_in : Option (List ℕ) → List Sought → List Dependency
member_in name found = map (λ s. of_member s name) found

-- after a name
abbrev pub member_by : Option (List ℕ) → List (Arg-F Arg) → List Dependency
member_by name [] = of_member own_type name ∷ []
member_by name (x ∷ xs) = member_in name (sought_by (x ∷ xs))

-- after kinds
abbrev pub kinds_in : ℕ → List Sought → List Dependency
kinds_in n found = map (λ s. of_kinds s n) found
