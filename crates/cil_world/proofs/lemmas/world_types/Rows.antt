-- Rows of the core library's table are few.
use Rattle.std.proofs.Common.{◌≡◌, ℕ, ◌<◌, ◌≤◌, Bool, List, [], ◌∷◌, length, Option, Some, None, refl, arith}
use Rattle.std.specs.Prelude.{position, unwrap_or}
use Rattle.std.proofs.lemmas.List.Quantifiers.{position-Some}
use Rattle.il_base.specs.declared.core_table.names.CoreName.{CoreName}
use Rattle.il_base.specs.declared.core_table.types.TheConstants.{TYPES}
use Rattle.rules.specs.view_rules.Members.{core_type_row, is_type_named}

found_within : {X : Type 0} (p : X → Bool) (xs : List X) (n : ℕ) → length xs ≤ n → (o : Option ℕ) → position p xs ≡ o → unwrap_or o 0 ≤ n
found_within p xs n most None e = omega arith
found_within p [] n most (Some i) e = cc
found_within p (x ∷ xs) n most (Some i) e = let here : i < length (x ∷ xs) = (position-Some p (x ∷ xs) i x e).0 in omega arith

few : length TYPES ≤ 255
few = omega arith

pub row_within : (name : CoreName) → core_type_row name ≤ 255
unfolding core_type_row
row_within name = found_within (is_type_named name) TYPES 255 few (position (is_type_named name) TYPES) refl
