-- What is kept of each type definition, in the order of ids.
use Rattle.std.specs.Prelude.{ℕ, suc, List, [], ◌∷◌, ◌++◌, map, Option, Some, None, if◌then◌else◌}
use Rattle.std.specs.List.{range_with_len}
use Rattle.il_base.specs.declared.world_model.record.AsmRec.{AsmRec}
use Rattle.il_base.specs.world_model.Worlds.{types_in}
use Rattle.il_base.specs.declared.core_table.names.CoreName.TheVariants as core
use Rattle.rules.specs.declared.link_rules.row_at.RowAt.{RowAt}
use Rattle.rules.specs.link_rules.Types.{at_row}
use Rattle.rules.specs.link_rules.Cycles.{is_value_type}
use Rattle.rules.specs.type_rules.Rows.{is_enum}
use Rattle.rules.specs.view_rules.Layouts.{is_core_type, field_number, instance_fields}
use Rattle.cil_world.specs.declared.world_layouts.kinds.Handle.{Handle}
use Rattle.cil_world.specs.declared.world_layouts.kinds.Handle.TheVariants as handle
use Rattle.cil_world.specs.declared.world_layouts.kinds.TypeKind.{TypeKind}

-- the instance fields of a type, by their ids
abbrev pub numbers_at : List AsmRec → RowAt → List ℕ
numbers_at recs at = map (field_number recs) (instance_fields recs at)

abbrev pub handle_at : List AsmRec → RowAt → Option Handle
handle_at recs at =
    if is_core_type recs core.RuntimeTypeHandle at then Some handle.OfType
    else if is_core_type recs core.RuntimeFieldHandle at then Some handle.OfField
    else None

unfoldable pub kind_at : List AsmRec → RowAt → TypeKind
kind_at recs at =
    record { value = is_value_type recs at; enumeration = is_enum recs at; handle = handle_at recs at; fields = numbers_at recs at }

abbrev pub kinds_in : List AsmRec → ℕ → AsmRec → List TypeKind
kinds_in all a rec = map (λ k. kind_at all (at_row a k)) (range_with_len 0 (types_in rec))

-- of these assemblies, the first of which has the number a
unfoldable pub kinds_from : List AsmRec → ℕ → List AsmRec → List TypeKind
kinds_from all a [] = []
kinds_from all a (rec ∷ recs) = kinds_in all a rec ++ kinds_from all (suc a) recs
