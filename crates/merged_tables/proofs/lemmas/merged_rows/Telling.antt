-- The rows by the tables of an output are those of the definition.
use Rattle.std.proofs.Common.{◌≡◌, ℕ, suc, List, [], ◌∷◌, ◌++◌, map, refl, ap, ◌∙◌}
use Rattle.std.specs.List.{flat_map}
use Rattle.il_base.specs.declared.cli_format.column.CodedIndex.TheVariants.{HasConstant, HasSemantics}
use Rattle.il_base.specs.cli_format.Tokens.{coded_of}
use Rattle.il_base.specs.declared.world_model.types.NestedClassRow.{NestedClassRow}
use Rattle.il_base.specs.declared.world_model.types.ClassLayoutRow.{ClassLayoutRow}
use Rattle.il_base.specs.declared.world_model.members.MethodSemanticsRow.{MethodSemanticsRow}
use Rattle.il_base.specs.declared.world_model.extras.ConstantRow.{ConstantRow}
use Rattle.il_base.specs.declared.world_model.record.AsmRec.{AsmRec}
use Rattle.rules.specs.link_rules.Cycles.{listed}
use Rattle.rules.specs.type_rules.Rows.{each_from}
use Rattle.rules.specs.merge_rules.Numbers.{inputs}
use Rattle.rules.specs.merge_rules.Sorted.{by_key}
use Rattle.rules.specs.merge_rules.Refs.{Output}
use Rattle.rules.specs.merge_rules.Restricted.{nested_in, semantics_of, new_constant, new_layout, new_nested, new_semantics, constants, class_layouts, nested_classes, method_semantics}
use Rattle.merge_plan.specs.declared.kept_tables.tables.KeptTables.{KeptTables}
use Rattle.merge_plan.specs.kept_tables.Kept.{AreKept, token_by}
use Rattle.merge_plan.proofs.lemmas.kept_tables.Tokens.{token_is}
use Rattle.merged_tables.specs.merged_rows.Belonging.{of_inputs, constant_by, constants_by, layout_by, class_layouts_by, nested_by, nested_classes_by, semantics_by, method_semantics_by}
use Rattle.merged_tables.specs.merged_rows.Laws.{AreRowsOf}

-- where the number of a row doesn't matter
each_is : {A B : Type 0} (f : A → List B) (g : ℕ → A → List B) → ((k : ℕ) (x : A) → f x ≡ g k x) → (k : ℕ) (xs : List A) → flat_map f xs ≡ each_from g k xs
each_is f g same k [] = refl
each_is f g same k (x ∷ xs) = λ i. same k x i ++ each_is f g same (suc k) xs i

module _ (o : Output) (k : KeptTables) (are : AreKept o.recs o.kept k) where
  constant_is : (a : ℕ) (rec : AsmRec) (j : ℕ) (row : ConstantRow) → constant_by k a row ≡ new_constant o a rec j row
  constant_is a rec j row = λ i. map (λ parent. record row { parent = parent }) (listed (token_is o.recs o.kept k are a row.parent i))

  layout_is : (a : ℕ) (rec : AsmRec) (j : ℕ) (row : ClassLayoutRow) → layout_by k a row ≡ new_layout o a rec j row
  layout_is a rec j row = λ i. map (λ parent. record row { parent = parent }) (listed (token_is o.recs o.kept k are a row.parent i))

  nested_is : (a : ℕ) (rec : AsmRec) (j : ℕ) (row : NestedClassRow) → nested_by k a row ≡ new_nested o a rec j row
  nested_is a rec j row = λ i.
      flat_map (λ nested. map (nested_in nested) (listed (token_is o.recs o.kept k are a row.enclosing_class i))) (listed (token_is o.recs o.kept k are a row.nested_class i))

  semantics_is : (a : ℕ) (rec : AsmRec) (j : ℕ) (row : MethodSemanticsRow) → semantics_by k a row ≡ new_semantics o a rec j row
  semantics_is a rec j row = λ i.
      flat_map (λ method. map (semantics_of row.semantics method) (listed (token_is o.recs o.kept k are a row.association i))) (listed (token_is o.recs o.kept k are a row.method i))

  constants_tell : constants_by k o.recs ≡ constants o
  unfolding constants_by
  constants_tell = λ i.
      by_key (λ (row : ConstantRow). coded_of HasConstant row.parent) (flat_map (λ (x : ℕ × AsmRec). each_is (constant_by k x.0) (new_constant o x.0 x.1) (constant_is x.0 x.1) 0 x.1.constant i) (inputs o.recs))

  layouts_tell : class_layouts_by k o.recs ≡ class_layouts o
  unfolding class_layouts_by
  layouts_tell = λ i.
      by_key (λ (row : ClassLayoutRow). row.parent) (flat_map (λ (x : ℕ × AsmRec). each_is (layout_by k x.0) (new_layout o x.0 x.1) (layout_is x.0 x.1) 0 x.1.class_layout i) (inputs o.recs))

  nested_tell : nested_classes_by k o.recs ≡ nested_classes o
  unfolding nested_classes_by
  nested_tell = λ i.
      by_key (λ (row : NestedClassRow). row.nested_class) (flat_map (λ (x : ℕ × AsmRec). each_is (nested_by k x.0) (new_nested o x.0 x.1) (nested_is x.0 x.1) 0 x.1.nested_class i) (inputs o.recs))

  semantics_tell : method_semantics_by k o.recs ≡ method_semantics o
  unfolding method_semantics_by
  semantics_tell = λ i.
      by_key (λ (row : MethodSemanticsRow). coded_of HasSemantics row.association) (flat_map (λ (x : ℕ × AsmRec). each_is (semantics_by k x.0) (new_semantics o x.0 x.1) (semantics_is x.0 x.1) 0 x.1.method_semantics i) (inputs o.recs))

  pub all_tell : AreRowsOf o k
  all_tell = record { constants_are = constants_tell; layouts_are = layouts_tell; nested_are = nested_tell; semantics_are = semantics_tell }
