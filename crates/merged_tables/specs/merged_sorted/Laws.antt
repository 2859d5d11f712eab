-- The rows of sorted tables with the tokens of an output are those of the record that a merge leaves.
use Rattle.std.specs.Prelude.{◌≡◌, List}
use Rattle.rules.specs.merge_rules.Refs.{Output}
use Rattle.rules.specs.merge_rules.Rows.{kept_interfaces, kept_generic_params, kept_constraints}
use Rattle.rules.specs.merge_rules.Restricted.{each_sorted, new_impl, new_generic_param, new_constraint}
use Rattle.merge_plan.specs.declared.moved_parts.tokens.NewTokens.{NewTokens}
use Rattle.merged_tables.specs.merged_members.Laws.{HaveTokens}
use Rattle.merge_plan.specs.declared.kept_tables.tables.KeptTables.{KeptTables}
use Rattle.merge_plan.specs.kept_tables.Kept.{AreKept}
use Rattle.merged_tables.specs.merged_sorted.Owned.{interfaces_by, generic_params_by, constraints_by}

pub record AreSorted (o : Output) (tokens : List NewTokens) (t : KeptTables) : Type 0 where
  pub interfaces : interfaces_by o.recs tokens t.interfaces.rows.items ≡ each_sorted o.recs (λ rec. rec.interface_impl) (new_impl o) (kept_interfaces o.recs o.kept)
  pub generic_params : generic_params_by o.recs t.generic_params.rows.items ≡ each_sorted o.recs (λ rec. rec.generic_param) new_generic_param (kept_generic_params o.recs o.kept)
  pub constraints : constraints_by o.recs tokens t.constraints.rows.items
      ≡ each_sorted o.recs (λ rec. rec.generic_param_constraint) (new_constraint o) (kept_constraints o.recs o.kept)

abbrev pub SortedTell : Type 0
SortedTell = (o : Output) (tokens : List NewTokens) (t : KeptTables) → HaveTokens o tokens → AreKept o.recs o.kept t → AreSorted o tokens t
