-- The attributes that are written, over what code holds.
use Rattle.std.specs.Prelude.{ℕ, List, map}
use Rattle.std.specs.List.{flat_map}
use Rattle.il_base.specs.declared.cli_format.column.CodedIndex.TheVariants.{HasCustomAttribute}
use Rattle.il_base.specs.cli_format.Tokens.{coded_of}
use Rattle.il_base.specs.declared.world_model.extras.CustomAttributeRow.{CustomAttributeRow}
use Rattle.il_base.specs.declared.world_model.record.AsmRec.{AsmRec}
use Rattle.rules.specs.link_rules.Cycles.{listed}
use Rattle.rules.specs.merge_rules.Sorted.{by_key}
use Rattle.rules.specs.merge_rules.Order.{Met, met_method}
use Rattle.rules.specs.merge_rules.Attributes as rules
use Rattle.rules.specs.merge_rules.Attributes.{attribute_with, constructor_key}
use Rattle.merge_plan.specs.declared.kept_tables.tables.KeptTables.{KeptTables}
use Rattle.merge_plan.specs.kept_tables.Kept.{token_by}
use Rattle.merged_tables.specs.merged_rows.Belonging.{of_inputs}
use Rattle.token_keys.specs.key_codes.Keys.{method_key}
use Rattle.reference_rows.specs.declared.key_tokens.tokens.KeyTokens.{KeyTokens}
use Rattle.reference_rows.specs.key_tokens.Keys.{method_token_by}
use Rattle.restrict.specs.declared.merged_attributes.attributes.Attribute.{Attribute}

abbrev pub told : Attribute → rules.Attribute
told x = record { parent = x.parent; ctor = method_key x.ctor; value = x.value }

-- ---- those of kept rows

abbrev pub attribute_by : KeptTables → List AsmRec → ℕ → AsmRec → CustomAttributeRow → List rules.Attribute
attribute_by k recs a rec row =
    flat_map (λ parent. map (attribute_with row.value parent) (listed (constructor_key recs a rec row.ctor))) (listed (token_by k a row.parent))

abbrev pub attributes_in : KeptTables → List AsmRec → ℕ → AsmRec → List rules.Attribute
attributes_in k recs a rec = flat_map (attribute_by k recs a rec) rec.custom_attribute

abbrev pub in_key_order : List rules.Attribute → List rules.Attribute
in_key_order xs = by_key (λ (x : rules.Attribute). coded_of HasCustomAttribute x.parent) xs

unfoldable pub attributes_by : KeptTables → List AsmRec → List rules.Attribute
attributes_by k recs = in_key_order (of_inputs (attributes_in k recs) recs)

-- ---- what they refer to, and their rows

abbrev pub met_by : rules.Attribute → Met
met_by x = met_method x.ctor

abbrev pub row_by : KeyTokens → rules.Attribute → CustomAttributeRow
row_by k x = record { parent = x.parent; ctor = method_token_by k x.ctor; value = x.value }
