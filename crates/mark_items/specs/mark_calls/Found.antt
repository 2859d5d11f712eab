-- The methods that the search for an interface slot finds, in pieces.
use Rattle.std.specs.Prelude.{List, [], Option, Bool, if◌then◌else◌}
use Rattle.std.specs.List.{list_any, flat_map}
use Rattle.std.specs.Option.{option_and_then}
use Rattle.il_base.specs.declared.world_model.expr.TypeExpr.{TypeExpr}
use Rattle.il_base.specs.declared.world_model.known.Known.{Known}
use Rattle.il_base.specs.declared.world_model.members.MethodDefRow.{MethodDefRow}
use Rattle.il_base.specs.declared.world_model.record.AsmRec.{AsmRec}
use Rattle.rules.specs.declared.link_rules.row_at.RowAt.{RowAt}
use Rattle.rules.specs.declared.link_rules.member_type.MethodType.{MethodType}
use Rattle.rules.specs.link_rules.Cycles.{listed, same_row, home_of}
use Rattle.rules.specs.type_rules.Slots.{open_type, slot_of, type_of_row}
use Rattle.rules.specs.type_rules.Dispatch.{class_dispatch, from_choice, implied}
use Rattle.rules.specs.mark_rules.Calls.{choice}

-- `found_first`, with the slot's signature
abbrev pub found_with : List AsmRec → RowAt → TypeExpr → RowAt → MethodDefRow → Option (Known MethodType) → TypeExpr → List RowAt
found_with recs b c owner m signature i =
    if list_any (same_row owner) (listed (home_of recs i)) then listed (from_choice recs b m signature (choice c i)) else []

-- whether a type has a definition
abbrev pub is_home : List AsmRec → RowAt → TypeExpr → Bool
is_home recs c e = list_any (same_row c) (listed (home_of recs e))

-- for each instance that an interface is or implies
abbrev pub found_by : List AsmRec → RowAt → TypeExpr → RowAt → MethodDefRow → TypeExpr → List RowAt
found_by recs b c owner m e = flat_map (found_with recs b c owner m (type_of_row recs b)) (implied recs e)

-- what a type answers the slot of a method with
abbrev pub dispatched_from : List AsmRec → RowAt → RowAt → List RowAt
dispatched_from recs t m = listed (option_and_then (class_dispatch recs (open_type recs t)) (slot_of recs m))
