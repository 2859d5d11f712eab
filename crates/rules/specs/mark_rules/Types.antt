-- What a marked type, field or interface row needs (II.22.37, II.22.23, II.22.15).
use Rattle.std.specs.Prelude.{ℕ, suc, List, [], ◌∷◌, ◌++◌, map, Option, slice_get, ◌==◌, ◌&&◌, Bool, if◌then◌else◌}
use Rattle.std.specs.List.{list_any, flat_map, filter}
use Rattle.std.specs.Option.{option_and_then}
use Rattle.il_base.specs.declared.table.TheConstants.{TYPE_DEF, FIELD, INTERFACE_IMPL, GENERIC_PARAM, GENERIC_PARAM_CONSTRAINT}
use Rattle.il_base.specs.declared.world_model.expr.TypeExpr.{TypeExpr}
use Rattle.il_base.specs.declared.world_model.types.TypeDefRow.{TypeDefRow}
use Rattle.il_base.specs.declared.world_model.types.InterfaceImplRow.{InterfaceImplRow}
use Rattle.il_base.specs.declared.world_model.types.GenericParamRow.{GenericParamRow}
use Rattle.il_base.specs.declared.world_model.types.GenericParamConstraintRow.{GenericParamConstraintRow}
use Rattle.il_base.specs.declared.world_model.members.FieldRow.{FieldRow}
use Rattle.il_base.specs.declared.world_model.record.AsmRec.{AsmRec}
use Rattle.il_base.specs.world_model.Tokens.{token_of}
use Rattle.il_base.specs.world_model.Worlds.{type_id}
use Rattle.rules.specs.declared.link_rules.row_at.RowAt.{RowAt}
use Rattle.rules.specs.link_rules.Types.{at_row, encloser}
use Rattle.rules.specs.link_rules.Signatures.{token_type}
use Rattle.rules.specs.link_rules.Members.{good_type, type_count}
use Rattle.rules.specs.link_rules.Cycles.{listed, led_to, same_row, home_of, is_interface, interface_rows, is_value_type}
use Rattle.rules.specs.type_rules.Rows.{each_row, fields_of_type, is_enum, is_instance_field, owner_of_field, rec_at}
use Rattle.rules.specs.mark_rules.Facts.{Fact}
use Rattle.rules.specs.mark_rules.Facts.Fact.{marked, instantiated}
use Rattle.rules.specs.mark_rules.Places.{marks_type, marks_field, impl_item}
use Rattle.rules.specs.mark_rules.Naming.{Part, of_expr, of_parts, sig_parts, type_token_part}

-- ---- generic parameters

abbrev pub constraint_of : List AsmRec → ℕ → AsmRec → ℕ → ℕ → GenericParamConstraintRow → List Part
constraint_of recs a rec token k row =
    if row.owner == token then type_token_part recs a rec (token_of GENERIC_PARAM_CONSTRAINT (suc k)) 0 row.constraint ∷ [] else []

abbrev pub constraints_of_param : List AsmRec → ℕ → AsmRec → ℕ → ℕ → GenericParamRow → List Part
constraints_of_param recs a rec owner k row =
    if row.owner == owner then each_row (constraint_of recs a rec (token_of GENERIC_PARAM (suc k))) rec.generic_param_constraint else []

-- the constraints of the generic parameters of a type or a method, by its token (II.22.20, II.22.21)
unfoldable pub constraints_of : List AsmRec → ℕ → AsmRec → ℕ → List Part
constraints_of recs a rec owner = each_row (constraints_of_param recs a rec owner) rec.generic_param

-- ---- a marked type marks its encloser, what its Extends names, and the constraints of its parameters

abbrev pub encloser_of : List AsmRec → RowAt → AsmRec → List Fact
encloser_of recs at rec = map (λ k. marks_type recs (at_row at.asm k)) (listed (encloser rec at.row))

-- the type in Extends: the output keeps this cell, so the type is needed even where it is no base
abbrev pub extends_of : List AsmRec → RowAt → AsmRec → List Part
extends_of recs at rec =
    flat_map (λ (t : TypeDefRow). if t.extends == 0 then [] else type_token_part recs at.asm rec (token_of TYPE_DEF (suc at.row)) 0 t.extends ∷ []) (listed (slice_get rec.type_def at.row))

unfoldable pub parts_of_type : List AsmRec → RowAt → List Part
parts_of_type recs at =
    flat_map (λ (rec : AsmRec). extends_of recs at rec ++ constraints_of recs at.asm rec (token_of TYPE_DEF (suc at.row))) (listed (rec_at recs at))

unfoldable pub type_needs : List AsmRec → RowAt → List Fact
type_needs recs at = flat_map (encloser_of recs at) (listed (rec_at recs at)) ++ of_parts (parts_of_type recs at)

-- ---- a marked value type is instantiated and marks its instance fields; a marked enum marks all its fields (II.13, II.14.3)

abbrev pub laid_fields : List AsmRec → RowAt → List RowAt
laid_fields recs at = if is_enum recs at then fields_of_type recs at else filter (is_instance_field recs) (fields_of_type recs at)

unfoldable pub layout_needs : List AsmRec → RowAt → List Fact
layout_needs recs at =
    if is_value_type recs at then instantiated (type_id recs at.asm at.row) ∷ map (marks_field recs) (laid_fields recs at) else []

-- ---- a marked field marks its owner and its type

unfoldable pub parts_of_field : List AsmRec → RowAt → List Part
parts_of_field recs at =
    flat_map (λ (rec : AsmRec). flat_map (λ (f : FieldRow). sig_parts recs at.asm rec (token_of FIELD (suc at.row)) f.signature) (listed (slice_get rec.field at.row))) (listed (rec_at recs at))

unfoldable pub field_needs : List AsmRec → RowAt → List Fact
field_needs recs at =
    flat_map (λ (rec : AsmRec). map (λ t. marks_type recs (at_row at.asm t)) (listed (owner_of_field rec at.row))) (listed (rec_at recs at))
    ++ of_parts (parts_of_field recs at)

-- ---- interface rows

abbrev pub impl_row_at : List AsmRec → RowAt → Option InterfaceImplRow
impl_row_at recs at = option_and_then (λ (rec : AsmRec). slice_get rec.interface_impl at.row) (rec_at recs at)

-- the interface that an InterfaceImpl row names
abbrev pub impl_type : List AsmRec → RowAt → Option TypeExpr
impl_type recs at =
    option_and_then (λ (rec : AsmRec). option_and_then (λ (row : InterfaceImplRow). good_type (token_type recs at.asm rec row.interface)) (slice_get rec.interface_impl at.row)) (rec_at recs at)

unfoldable pub parts_of_impl : List AsmRec → RowAt → List Part
parts_of_impl recs at =
    flat_map (λ (rec : AsmRec). flat_map (λ (row : InterfaceImplRow). type_token_part recs at.asm rec (token_of INTERFACE_IMPL (suc at.row)) 0 row.interface ∷ []) (listed (slice_get rec.interface_impl at.row))) (listed (rec_at recs at))

-- a marked row marks the interface that it names
unfoldable pub impl_needs : List AsmRec → RowAt → List Fact
impl_needs recs at = of_parts (parts_of_impl recs at)

-- the definitions that an interface is or implies by its rows and theirs, marked or not
abbrev pub implies : List AsmRec → RowAt → List RowAt
implies recs j = led_to same_row (interface_rows recs) (type_count recs) (j ∷ [])

abbrev pub implies_one : List AsmRec → TypeExpr → RowAt → Bool
implies_one recs e j = is_interface recs e && list_any (λ (at : RowAt). list_any (same_row j) (implies recs at)) (listed (home_of recs e))

abbrev pub row_for : List AsmRec → RowAt → RowAt → AsmRec → ℕ → InterfaceImplRow → List Fact
row_for recs t j rec k row =
    if row.class == token_of TYPE_DEF (suc t.row)
    then flat_map (λ e. if implies_one recs e j then marked (impl_item recs (at_row t.asm k)) ∷ of_expr e else []) (listed (good_type (token_type recs t.asm rec row.interface)))
    else []

-- An interface row of a marked type, for an interface that is marked or implies a marked one, is marked with its interface.
unfoldable pub rows_for : List AsmRec → RowAt → RowAt → List Fact
rows_for recs t j = flat_map (λ (rec : AsmRec). each_row (row_for recs t j rec) rec.interface_impl) (listed (rec_at recs t))
