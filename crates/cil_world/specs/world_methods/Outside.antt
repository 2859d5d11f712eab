-- Members that count as bad: those of `<Module>`, and methods of interfaces with a body.
use Rattle.std.specs.Prelude.{List, Option, ◌&&◌, ◌||◌, Bool, not}
use Rattle.std.specs.List.{list_any}
use Rattle.il_base.specs.declared.world_model.members.MethodDefRow.{MethodDefRow}
use Rattle.il_base.specs.declared.world_model.record.AsmRec.{AsmRec}
use Rattle.rules.specs.declared.link_rules.row_at.RowAt.{RowAt}
use Rattle.rules.specs.link_rules.Members.{is_interface_row}
use Rattle.rules.specs.link_rules.Cycles.{listed}
use Rattle.rules.specs.type_rules.Slots.{is_static}
use Rattle.rules.specs.type_rules.Rows.{type_row_at}
use Rattle.rules.specs.mark_rules.BadItems.{no_body}

-- whether a method's type is an interface
abbrev pub is_of_interface : List AsmRec → Option RowAt → Bool
is_of_interface recs owner = list_any (λ (t : RowAt). list_any is_interface_row (listed (type_row_at recs t))) (listed owner)

-- static, or with a body
abbrev pub is_run_there : MethodDefRow → Bool
is_run_there m = is_static m || not (no_body m)

abbrev pub is_bad_there : List AsmRec → Option RowAt → MethodDefRow → Bool
is_bad_there recs owner m = is_of_interface recs owner && is_run_there m
