-- With the new tokens and names and the kept rows of an output, TypeDef rows are those of the record that a merge leaves.
use Rattle.std.specs.Prelude.{◌≡◌, List, map}
use Rattle.rules.specs.merge_rules.Numbers.{kept_types}
use Rattle.rules.specs.merge_rules.Names.{new_names}
use Rattle.rules.specs.merge_rules.Refs.{Output}
use Rattle.rules.specs.merge_rules.Moved.{moved_type_row}
use Rattle.rules.specs.merge_rules.Restricted.{each_at}
use Rattle.merge_plan.specs.declared.outcome.Plan.{Plan}
use Rattle.merge_plan.specs.Plans.{named}
use Rattle.merge_plan.specs.declared.moved_parts.tokens.NewTokens.{NewTokens}
use Rattle.merged_tables.specs.merged_members.Laws.{HaveTokens}
use Rattle.merge_plan.specs.declared.kept_tables.tables.ItemTables.{ItemTables}
use Rattle.merge_plan.specs.kept_tables.Kept.{AreKeptItems}
use Rattle.merged_tables.specs.merged_types.Types.{type_defs_by}

-- the new names of the kept types
abbrev pub IsPlanOf : Output → Plan → Type 0
IsPlanOf o plan = plan.names ≡ map (named o.recs) (new_names o.recs (kept_types o.recs o.kept))

abbrev pub TypesTell : Type 0
TypesTell = (o : Output) (tokens : List NewTokens) (plan : Plan) (k : ItemTables) → HaveTokens o tokens → IsPlanOf o plan → AreKeptItems o.recs o.kept k
    → type_defs_by o.recs plan k tokens ≡ each_at o.recs (λ rec. rec.type_def) (moved_type_row plan.internal o) (kept_types o.recs o.kept)
