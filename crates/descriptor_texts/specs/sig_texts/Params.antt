-- The names of generic parameters.
use Rattle.std.specs.Prelude.{ℕ, List, [], ◌∷◌, slice_get, ◌==◌, if◌then◌else◌}
use Rattle.std.specs.Option.{option_map_or}
use Rattle.il_base.specs.declared.world_model.types.GenericParamRow.{GenericParamRow}
use Rattle.il_base.specs.declared.world_model.record.AsmRec.{AsmRec}

-- the name in a row with this number
abbrev pub named_by : ℕ → GenericParamRow → List (List ℕ)
named_by n row = if row.number == n then row.name ∷ [] else []

abbrev pub named_at : AsmRec → ℕ → ℕ → List (List ℕ)
named_at rec n k = option_map_or (named_by n) (slice_get rec.generic_param k) []
