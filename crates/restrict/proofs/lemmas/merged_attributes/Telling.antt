-- Attributes with the output's kept rows and tokens are those of the definition.
use Rattle.std.proofs.Common.{◌≡◌, ℕ, suc, List, [], ◌∷◌, ◌++◌, map, refl, ap}
use Rattle.std.specs.List.{flat_map}
use Rattle.il_base.specs.declared.cli_format.column.CodedIndex.TheVariants.{HasCustomAttribute}
use Rattle.il_base.specs.cli_format.Tokens.{coded_of}
use Rattle.il_base.specs.declared.world_model.extras.CustomAttributeRow.{CustomAttributeRow}
use Rattle.il_base.specs.declared.world_model.record.AsmRec.{AsmRec}
use Rattle.rules.specs.link_rules.Cycles.{listed}
use Rattle.rules.specs.type_rules.Rows.{each_from}
use Rattle.rules.specs.merge_rules.Numbers.{Kept, inputs}
use Rattle.rules.specs.merge_rules.Sorted.{by_key}
use Rattle.rules.specs.merge_rules.Attributes as rules
use Rattle.rules.specs.merge_rules.Attributes.{attribute_with, constructor_key, attribute_in, kept_attributes, met_by_attributes}
use Rattle.rules.specs.merge_rules.Refs.{Output}
use Rattle.rules.specs.merge_rules.Restricted.{attribute_row}
use Rattle.merge_plan.specs.declared.kept_tables.tables.KeptTables.{KeptTables}
use Rattle.merge_plan.specs.kept_tables.Kept.{AreKept}
use Rattle.merge_plan.proofs.lemmas.kept_tables.Tokens.{token_is}
use Rattle.reference_rows.specs.declared.key_tokens.tokens.KeyTokens.{KeyTokens}
use Rattle.reference_rows.specs.key_tokens.Laws.{AreTokensOf}
use Rattle.restrict.specs.merged_attributes.Attributes.{attribute_by, attributes_by, met_by, row_by}
use Rattle.restrict.specs.merged_attributes.Laws.{AreAttributes}

-- where the number of a row doesn't matter
each_is : {A B : Type 0} (f : A → List B) (g : ℕ → A → List B) → ((k : ℕ) (x : A) → f x ≡ g k x) → (k : ℕ) (xs : List A) → flat_map f xs ≡ each_from g k xs
each_is f g same k [] = refl
each_is f g same k (x ∷ xs) = λ i. same k x i ++ each_is f g same (suc k) xs i

module _ (recs : List AsmRec) (kept : Kept) (k : KeptTables) (are : AreKept recs kept k) where
  one_is : (a : ℕ) (rec : AsmRec) (j : ℕ) (row : CustomAttributeRow) → attribute_by k recs a rec row ≡ attribute_in recs kept a rec j row
  one_is a rec j row = λ i.
      flat_map (λ parent. map (attribute_with row.value parent) (listed (constructor_key recs a rec row.ctor))) (listed (token_is recs kept k are a row.parent i))

  all_are : attributes_by k recs ≡ kept_attributes recs kept
  unfolding attributes_by kept_attributes
  all_are = λ i.
      by_key (λ (x : rules.Attribute). coded_of HasCustomAttribute x.parent) (flat_map (λ (x : ℕ × AsmRec). each_is (attribute_by k recs x.0 x.1) (attribute_in recs kept x.0 x.1) (one_is x.0 x.1) 0 x.1.custom_attribute i) (inputs recs))

  mets_are : map met_by (attributes_by k recs) ≡ met_by_attributes recs kept
  unfolding met_by_attributes
  mets_are = ap (map met_by) all_are

  pub all_tell : AreAttributes recs kept k
  all_tell = record { attributes = all_are; mets = mets_are }

pub rows_are : (o : Output) (k : KeyTokens) → AreTokensOf o k → (xs : List rules.Attribute) → map (row_by k) xs ≡ map (attribute_row o) xs
rows_are o k are [] = refl
rows_are o k are (x ∷ xs) = λ i. record { parent = x.parent; ctor = are.of_methods x.ctor i; value = x.value } ∷ rows_are o k are xs i
