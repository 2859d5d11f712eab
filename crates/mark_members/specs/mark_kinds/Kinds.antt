-- The members of one type that count, for a type that is it or has it among its bases.
use Rattle.std.specs.Prelude.{ℕ, List, [], ◌∷◌, slice_get, Bool, not, if◌then◌else◌}
use Rattle.std.specs.List.{filter}
use Rattle.std.specs.Option.{option_map_or}
use Rattle.il_base.specs.declared.world_model.expr.TypeExpr.{TypeExpr}
use Rattle.il_base.specs.declared.world_model.types.InterfaceImplRow.{InterfaceImplRow}
use Rattle.il_base.specs.declared.world_model.members.FieldRow.{FieldRow}
use Rattle.il_base.specs.declared.world_model.members.MethodDefRow.{MethodDefRow}
use Rattle.il_base.specs.declared.world_model.record.AsmRec.{AsmRec}
use Rattle.rules.specs.declared.link_rules.row_at.RowAt.{RowAt}
use Rattle.rules.specs.link_rules.Types.{at_row}
use Rattle.rules.specs.link_rules.Cycles.{listed, home_of}
use Rattle.rules.specs.type_rules.Rows.{fields_of_type, methods_of_type}
use Rattle.rules.specs.declared.mark_rules.member_kinds.TheConstants as kind
use Rattle.rules.specs.mark_rules.Properties.{property_accessors, event_accessors}
use Rattle.rules.specs.mark_rules.Members.{has_kind, is_public_access, is_private_access, counts, is_own, is_parameterless_sig, has_method_row, method_counts, has_field_row, properties_of_type, events_of_type, accessors_count}

-- the definition of a type
abbrev pub homes : List AsmRec → TypeExpr → List RowAt
homes recs e = listed (home_of recs e)

-- whether kinds name a constructor, by its access and its parameters
abbrev pub constructor_access : ℕ → MethodDefRow → Bool
constructor_access flags m =
    if is_public_access m.flags
    then (if is_parameterless_sig m.signature then has_kind flags kind.PUBLIC_PARAMETERLESS_CONSTRUCTOR else has_kind flags kind.OTHER_PUBLIC_CONSTRUCTORS)
    else has_kind flags kind.NON_PUBLIC_CONSTRUCTORS

abbrev pub methods_from : List AsmRec → RowAt → ℕ → RowAt → List RowAt
methods_from recs t two c = filter (has_method_row recs (method_counts (is_own t c) two)) (methods_of_type recs c)

abbrev pub field_counts : Bool → ℕ → FieldRow → Bool
field_counts own two f = counts own two f.flags

abbrev pub fields_from : List AsmRec → RowAt → ℕ → RowAt → List RowAt
fields_from recs t two c = filter (has_field_row recs (field_counts (is_own t c) two)) (fields_of_type recs c)

-- ---- accessors

abbrev pub is_public_method : MethodDefRow → Bool
is_public_method m = is_public_access m.flags

abbrev pub is_open_method : MethodDefRow → Bool
is_open_method m = not (is_private_access m.flags)

abbrev pub property_counts : List AsmRec → Bool → ℕ → RowAt → Bool
property_counts recs own two p = accessors_count recs own two (property_accessors recs p)

abbrev pub event_counts : List AsmRec → Bool → ℕ → RowAt → Bool
event_counts recs own two e = accessors_count recs own two (event_accessors recs e)

abbrev pub properties_from : List AsmRec → RowAt → ℕ → RowAt → List RowAt
properties_from recs t two c = filter (property_counts recs (is_own t c) two) (properties_of_type recs c)

abbrev pub events_from : List AsmRec → RowAt → ℕ → RowAt → List RowAt
events_from recs t two c = filter (event_counts recs (is_own t c) two) (events_of_type recs c)

-- ---- a row of InterfaceImpl, where it is there

abbrev pub impl_at : AsmRec → ℕ → ℕ → List RowAt
impl_at rec asm k = option_map_or (λ (row : InterfaceImplRow). at_row asm k ∷ []) (slice_get rec.interface_impl k) []
