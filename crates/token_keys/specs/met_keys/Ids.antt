-- The code of a type's place.
use Rattle.std.specs.Prelude.{ℕ, List, [], ◌∷◌}
use Rattle.il_base.specs.declared.ids.TypeId.{TypeId}

abbrev pub id_code : TypeId → List ℕ
id_code t = t.0 ∷ []
