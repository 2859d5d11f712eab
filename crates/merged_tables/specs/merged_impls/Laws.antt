-- With the new tokens and the kept rows of an output, MethodImpl rows are those of the record that a merge leaves.
use Rattle.std.specs.Prelude.{◌≡◌, List}
use Rattle.rules.specs.merge_rules.Refs.{Output}
use Rattle.rules.specs.merge_rules.Restricted.{method_impls}
use Rattle.merge_plan.specs.declared.moved_parts.tokens.NewTokens.{NewTokens}
use Rattle.merged_tables.specs.merged_members.Laws.{HaveTokens}
use Rattle.merge_plan.specs.declared.kept_tables.tables.KeptTables.{KeptTables}
use Rattle.merge_plan.specs.kept_tables.Kept.{AreKept}
use Rattle.merged_tables.specs.merged_impls.Impls.{method_impls_by}

abbrev pub ImplsTell : Type 0
ImplsTell = (o : Output) (tokens : List NewTokens) (k : KeptTables) → HaveTokens o tokens → AreKept o.recs o.kept k → method_impls_by o.recs o.kept k tokens ≡ method_impls o
