use Rattle.std.proofs.Common.{◌≡◌, ◌++◌, drop}
use Rattle.std.specs.List.{flat_map}
use Rattle.rules.specs.merge_rules.Rows.{params_of}
use Rattle.merge_plan.proofs.kept_tables.params.params_of.Given as goal

abbrev pub invariant-loop-at : goal.invariant-loop-at
invariant-loop-at l = l.rows.items ++ flat_map (params_of l.recs) (drop l.at-index l.methods) ≡ flat_map (params_of l.recs) l.methods
