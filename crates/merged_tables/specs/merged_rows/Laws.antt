-- The rows by the tables of an output are those of the record that a merge leaves.
use Rattle.std.specs.Prelude.{◌≡◌}
use Rattle.rules.specs.merge_rules.Refs.{Output}
use Rattle.rules.specs.merge_rules.Restricted.{constants, class_layouts, nested_classes, method_semantics}
use Rattle.merge_plan.specs.declared.kept_tables.tables.KeptTables.{KeptTables}
use Rattle.merge_plan.specs.kept_tables.Kept.{AreKept}
use Rattle.merged_tables.specs.merged_rows.Belonging.{constants_by, class_layouts_by, nested_classes_by, method_semantics_by}

pub record AreRowsOf (o : Output) (k : KeptTables) : Type 0 where
  pub constants_are : constants_by k o.recs ≡ constants o
  pub layouts_are : class_layouts_by k o.recs ≡ class_layouts o
  pub nested_are : nested_classes_by k o.recs ≡ nested_classes o
  pub semantics_are : method_semantics_by k o.recs ≡ method_semantics o

abbrev pub RowsTell : Type 0
RowsTell = (o : Output) (k : KeptTables) → AreKept o.recs o.kept k → AreRowsOf o k
