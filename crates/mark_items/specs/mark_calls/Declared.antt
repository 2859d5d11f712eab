-- The methods that a method overrides, in pieces.
use Rattle.std.specs.Prelude.{ℕ, List, ◌++◌}
use Rattle.std.specs.List.{flat_map}
use Rattle.il_base.specs.declared.world_model.expr.MethodUse.{MethodUse}
use Rattle.il_base.specs.declared.world_model.members.MethodImplRow.{MethodImplRow}
use Rattle.il_base.specs.declared.world_model.record.AsmRec.{AsmRec}
use Rattle.rules.specs.declared.link_rules.row_at.RowAt.{RowAt}
use Rattle.rules.specs.link_rules.Members.{generic_method}
use Rattle.rules.specs.link_rules.Cycles.{listed}
use Rattle.rules.specs.type_rules.Slots.{method_row_at}
use Rattle.rules.specs.type_rules.Dispatch.{good_use}
use Rattle.rules.specs.type_rules.Rows.{each_row}
use Rattle.rules.specs.mark_rules.Facts.{Fact}
use Rattle.rules.specs.mark_rules.Naming.{of_method_use}
use Rattle.rules.specs.mark_rules.Calls.{overridden, declared_in}

abbrev pub overridden_at : List AsmRec → RowAt → List Fact
overridden_at recs at = flat_map (overridden recs at) (listed (method_row_at recs at))

-- the declarations of all rows whose body the method is
abbrev pub declared_facts : List AsmRec → RowAt → List Fact
declared_facts recs at = each_row (declared_in recs at) recs

-- the facts that a row gives whose body is the method
abbrev pub body_facts : List AsmRec → ℕ → AsmRec → MethodImplRow → MethodUse → List Fact
body_facts recs a rec row body = of_method_use body ++ flat_map of_method_use (listed (good_use (generic_method recs a rec row.declaration)))
