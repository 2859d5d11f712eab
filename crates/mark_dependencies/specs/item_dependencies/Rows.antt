-- The dependencies that a row of CustomAttribute gives to whatever it belongs to.
use Rattle.std.specs.Prelude.{ℕ, List, [], if◌then◌else◌}
use Rattle.il_base.specs.declared.world_model.extras.CustomAttributeRow.{CustomAttributeRow}
use Rattle.il_base.specs.declared.world_model.record.AsmRec.{AsmRec}
use Rattle.rules.specs.mark_rules.Annotations.{Dependency, is_called, dynamic_dependency, dependencies_of_row}

abbrev pub if_called : List AsmRec → ℕ → AsmRec → CustomAttributeRow → List Dependency
if_called recs a rec row = if is_called rec dynamic_dependency row then dependencies_of_row recs a rec row else []
