-- FieldRVA rows by the tables of an output are those of the record that a merge leaves.
use Rattle.std.specs.Prelude.{◌≡◌, ℕ}
use Rattle.rules.specs.merge_rules.Refs.{Output}
use Rattle.rules.specs.merge_rules.Restricted.{field_rvas}
use Rattle.merge_plan.specs.declared.kept_tables.tables.KeptTables.{KeptTables}
use Rattle.merge_plan.specs.kept_tables.Kept.{AreKept}
use Rattle.merged_tables.specs.merged_field_rvas.FieldRvas.{field_rvas_by}

abbrev pub FieldRvasTell : Type 0
FieldRvasTell = (o : Output) (k : KeptTables) → AreKept o.recs o.kept k → (before : ℕ) → field_rvas_by k o.recs before ≡ field_rvas o before
