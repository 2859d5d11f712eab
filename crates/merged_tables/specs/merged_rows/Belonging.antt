-- Rows that go with kept rows, by the tables of the output.
use Rattle.std.specs.Prelude.{◌≡◌, ℕ, List, map}
use Rattle.std.specs.List.{flat_map}
use Rattle.il_base.specs.declared.cli_format.column.CodedIndex.TheVariants.{HasConstant, HasSemantics}
use Rattle.il_base.specs.cli_format.Tokens.{coded_of}
use Rattle.il_base.specs.declared.world_model.types.NestedClassRow.{NestedClassRow}
use Rattle.il_base.specs.declared.world_model.types.ClassLayoutRow.{ClassLayoutRow}
use Rattle.il_base.specs.declared.world_model.members.MethodSemanticsRow.{MethodSemanticsRow}
use Rattle.il_base.specs.declared.world_model.extras.ConstantRow.{ConstantRow}
use Rattle.il_base.specs.declared.world_model.record.AsmRec.{AsmRec}
use Rattle.rules.specs.link_rules.Cycles.{listed}
use Rattle.rules.specs.merge_rules.Numbers.{inputs}
use Rattle.rules.specs.merge_rules.Sorted.{by_key}
use Rattle.rules.specs.merge_rules.Restricted.{nested_in, semantics_of}
use Rattle.merge_plan.specs.declared.kept_tables.tables.KeptTables.{KeptTables}
use Rattle.merge_plan.specs.kept_tables.Kept.{token_by}

-- what each assembly gives, one after the other
abbrev pub of_inputs : {B : Type 0} → (ℕ → AsmRec → List B) → List AsmRec → List B
of_inputs f recs = flat_map (λ (x : ℕ × AsmRec). f x.0 x.1) (inputs recs)

-- ---- constants (II.22.9)

abbrev pub constant_by : KeptTables → ℕ → ConstantRow → List ConstantRow
constant_by k a row = map (λ parent. record row { parent = parent }) (listed (token_by k a row.parent))

abbrev pub constants_in : KeptTables → ℕ → AsmRec → List ConstantRow
constants_in k a rec = flat_map (constant_by k a) rec.constant

unfoldable pub constants_by : KeptTables → List AsmRec → List ConstantRow
constants_by k recs = by_key (λ (row : ConstantRow). coded_of HasConstant row.parent) (of_inputs (constants_in k) recs)

-- ---- layouts (II.22.8)

abbrev pub layout_by : KeptTables → ℕ → ClassLayoutRow → List ClassLayoutRow
layout_by k a row = map (λ parent. record row { parent = parent }) (listed (token_by k a row.parent))

abbrev pub class_layouts_in : KeptTables → ℕ → AsmRec → List ClassLayoutRow
class_layouts_in k a rec = flat_map (layout_by k a) rec.class_layout

unfoldable pub class_layouts_by : KeptTables → List AsmRec → List ClassLayoutRow
class_layouts_by k recs = by_key (λ (row : ClassLayoutRow). row.parent) (of_inputs (class_layouts_in k) recs)

-- ---- nesting (II.22.32)

abbrev pub nested_by : KeptTables → ℕ → NestedClassRow → List NestedClassRow
nested_by k a row = flat_map (λ nested. map (nested_in nested) (listed (token_by k a row.enclosing_class))) (listed (token_by k a row.nested_class))

abbrev pub nested_classes_in : KeptTables → ℕ → AsmRec → List NestedClassRow
nested_classes_in k a rec = flat_map (nested_by k a) rec.nested_class

unfoldable pub nested_classes_by : KeptTables → List AsmRec → List NestedClassRow
nested_classes_by k recs = by_key (λ (row : NestedClassRow). row.nested_class) (of_inputs (nested_classes_in k) recs)

-- ---- accessors (II.22.28)

abbrev pub semantics_by : KeptTables → ℕ → MethodSemanticsRow → List MethodSemanticsRow
semantics_by k a row = flat_map (λ method. map (semantics_of row.semantics method) (listed (token_by k a row.association))) (listed (token_by k a row.method))

abbrev pub method_semantics_in : KeptTables → ℕ → AsmRec → List MethodSemanticsRow
method_semantics_in k a rec = flat_map (semantics_by k a) rec.method_semantics

unfoldable pub method_semantics_by : KeptTables → List AsmRec → List MethodSemanticsRow
method_semantics_by k recs = by_key (λ (row : MethodSemanticsRow). coded_of HasSemantics row.association) (of_inputs (method_semantics_in k) recs)
