-- Setters by the rows of MethodSemantics.
use Rattle.std.specs.Prelude.{ℕ, List, [], slice_get, ◌%◌, ◌==◌, if◌then◌else◌}
use Rattle.std.specs.List.{filter}
use Rattle.std.specs.Option.{option_map_or}
use Rattle.il_base.specs.declared.semantics.TheConstants.{SETTER}
use Rattle.il_base.specs.declared.table.TheConstants.{METHOD_DEF}
use Rattle.il_base.specs.declared.world_model.members.MethodSemanticsRow.{MethodSemanticsRow}
use Rattle.il_base.specs.declared.world_model.record.AsmRec.{AsmRec}
use Rattle.il_base.specs.world_model.Tokens.{index_in}
use Rattle.rules.specs.link_rules.Cycles.{listed}
use Rattle.rules.specs.type_rules.Searches.{has_owner}

-- the method of a row for a setter, where a type's run has it
abbrev pub setter_row : AsmRec → MethodSemanticsRow → List ℕ
setter_row rec row = if row.semantics % 2 == SETTER then filter (has_owner rec) (listed (index_in METHOD_DEF row.method)) else []

abbrev pub setter_at : AsmRec → ℕ → List ℕ
setter_at rec k = option_map_or (setter_row rec) (slice_get rec.method_semantics k) []
