use Rattle.std.proofs.Common.{◌≡◌, map, take}
use Rattle.rules.specs.merge_rules.Restricted.{moved_assembly}
use Rattle.merge_plan.proofs.first_input_rows.assemblies.assembly_rows.Given as goal

abbrev pub invariant-loop-row : goal.invariant-loop-row
invariant-loop-row l = l.made ≡ map moved_assembly (take l.row-index l.rows)
