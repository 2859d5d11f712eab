-- The kinds of members that reflection may ask of what has an annotation.
use Rattle.std.specs.Prelude.{ℕ, suc, List, Bool, if◌then◌else◌}
use Rattle.il_base.specs.declared.table.TheConstants.{TYPE_DEF, METHOD_DEF}
use Rattle.il_base.specs.declared.world_model.record.AsmRec.{AsmRec}
use Rattle.rules.specs.declared.link_rules.row_at.RowAt.{RowAt}
use Rattle.rules.specs.mark_rules.Annotations.{Holder, parameter, return_value, field, type_parameter, method_parameter, may_name_type, slot_kinds, field_holds, field_kinds, generic_kinds}
use Rattle.rules.specs.site_rules.Signatures.{parameter_slot, return_slot, slot_type, any_of}

-- An annotation of a parameter, a return or a field counts where its own type is System.Type or System.String.
abbrev pub parameter_holds : List AsmRec → RowAt → ℕ → Bool
parameter_holds recs at n = any_of (may_name_type recs) (slot_type recs at (parameter_slot n))

abbrev pub return_holds : List AsmRec → RowAt → Bool
return_holds recs at = any_of (may_name_type recs) (slot_type recs at return_slot)

-- 0 without an annotation
unfoldable pub flags_of : List AsmRec → Holder → ℕ
flags_of recs (parameter at n) = if parameter_holds recs at n then slot_kinds recs at (suc n) else 0
flags_of recs (return_value at) = if return_holds recs at then slot_kinds recs at 0 else 0
flags_of recs (field at) = if field_holds recs at then field_kinds recs at else 0
flags_of recs (type_parameter at n) = generic_kinds recs at TYPE_DEF n
flags_of recs (method_parameter at n) = generic_kinds recs at METHOD_DEF n
