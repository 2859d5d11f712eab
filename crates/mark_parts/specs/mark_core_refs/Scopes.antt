-- The scopes of type references.
use Rattle.std.specs.Prelude.{ℕ, Option, slice_get}
use Rattle.std.specs.Option.{option_map, option_and_then}
use Rattle.il_base.specs.declared.table.TheConstants.{TYPE_REF}
use Rattle.il_base.specs.declared.world_model.types.TypeRefRow.{TypeRefRow}
use Rattle.il_base.specs.declared.world_model.record.AsmRec.{AsmRec}
use Rattle.il_base.specs.world_model.Tokens.{index_in}

abbrev pub ref_row : AsmRec → ℕ → Option TypeRefRow
ref_row rec token = option_and_then (slice_get rec.type_ref) (index_in TYPE_REF token)

abbrev pub scope_of : AsmRec → ℕ → Option ℕ
scope_of rec token = option_map (λ (row : TypeRefRow). row.resolution_scope) (ref_row rec token)
