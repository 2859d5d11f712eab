-- The rows by the tables of an output are those of the definition.
use Rattle.std.proofs.Common.{◌≡◌, ℕ, suc, List, [], ◌∷◌, ◌++◌, map, refl}
use Rattle.std.specs.List.{flat_map}
use Rattle.il_base.specs.declared.world_model.extras.FieldRvaRow.{FieldRvaRow}
use Rattle.il_base.specs.declared.world_model.record.AsmRec.{AsmRec}
use Rattle.rules.specs.link_rules.Cycles.{listed}
use Rattle.rules.specs.type_rules.Rows.{each_from}
use Rattle.rules.specs.merge_rules.Numbers.{inputs}
use Rattle.rules.specs.merge_rules.Sorted.{by_key}
use Rattle.rules.specs.merge_rules.Refs.{Output}
use Rattle.rules.specs.merge_rules.Restricted.{new_field_rva, placed_bytes, field_rvas}
use Rattle.merge_plan.specs.declared.kept_tables.tables.KeptTables.{KeptTables}
use Rattle.merge_plan.specs.kept_tables.Kept.{AreKept}
use Rattle.merge_plan.proofs.lemmas.kept_tables.Tokens.{token_is}
use Rattle.merged_tables.specs.merged_field_rvas.FieldRvas.{field_rva_by, field_rvas_by}

module _ (o : Output) (k : KeptTables) (are : AreKept o.recs o.kept k) where
  -- the number of a row doesn't matter
  each_is : (a : ℕ) (rec : AsmRec) (j : ℕ) (rows : List FieldRvaRow) → flat_map (field_rva_by k a) rows ≡ each_from (new_field_rva o a rec) j rows
  each_is a rec j [] = refl
  each_is a rec j (row ∷ rows) = λ i. map (λ field. record row { field = field }) (listed (token_is o.recs o.kept k are a row.field i)) ++ each_is a rec (suc j) rows i

  pub rows_tell : (before : ℕ) → field_rvas_by k o.recs before ≡ field_rvas o before
  rows_tell before = λ i. placed_bytes before (by_key (λ (row : FieldRvaRow). row.field) (flat_map (λ (x : ℕ × AsmRec). each_is x.0 x.1 0 x.1.field_rva i) (inputs o.recs)))
