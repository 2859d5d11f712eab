-- Whether rows of CustomAttribute have to be readable and aren't.
use Rattle.std.specs.Prelude.{ℕ, suc, List, ◌&&◌, ◌||◌, Bool, not}
use Rattle.std.specs.List.{list_any}
use Rattle.il_base.specs.declared.table.TheConstants.{CUSTOM_ATTRIBUTE}
use Rattle.il_base.specs.declared.outside.TheConstants as outside
use Rattle.attr_blobs.specs.declared.value.AttrValue.{AttrValue}
use Rattle.il_base.specs.declared.world_model.extras.CustomAttributeRow.{CustomAttributeRow}
use Rattle.il_base.specs.declared.world_model.record.AsmRec.{AsmRec}
use Rattle.il_base.specs.world_model.Tokens.{token_of}
use Rattle.rules.specs.declared.link_rules.row_at.RowAt.{RowAt}
use Rattle.rules.specs.mark_rules.Naming.{method_named}
use Rattle.rules.specs.mark_rules.Annotations.{first_number}
use Rattle.rules.specs.mark_rules.BadItems.{Flaw, flaw_if, is_trimming_attribute, is_input_constructor, are_kinds, has_kinds, has_no_reading}

abbrev pub has_wrong_kinds : AsmRec → CustomAttributeRow → AttrValue → Bool
has_wrong_kinds rec row v = has_kinds rec row && list_any (λ n. not (are_kinds n)) (first_number v)

abbrev pub has_to_be_read : List AsmRec → ℕ → AsmRec → CustomAttributeRow → Bool
has_to_be_read recs a rec row = is_trimming_attribute rec row || is_input_constructor recs (method_named recs a rec row.ctor)

abbrev pub is_unread : List AsmRec → ℕ → AsmRec → CustomAttributeRow → Bool
is_unread recs a rec row = has_to_be_read recs a rec row && has_no_reading recs a rec row

-- of a row with its number from 0
abbrev pub unread_flaw : List AsmRec → ℕ → AsmRec → RowAt → ℕ → CustomAttributeRow → List Flaw
unread_flaw recs a rec at k row = flaw_if (is_unread recs a rec row) at (token_of CUSTOM_ATTRIBUTE (suc k)) outside.ATTRIBUTE
