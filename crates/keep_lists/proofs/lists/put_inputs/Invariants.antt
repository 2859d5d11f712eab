use Rattle.std.proofs.Common.{◌≡◌, ◌++◌, drop}
use Rattle.rules.specs.type_rules.Rows.{each_from}
use Rattle.rules.specs.mark_rules.KeepList.{input_lines}
use Rattle.mark_parts.specs.mark_tables.Assemblies.{all_of}
use Rattle.merge_plan.specs.Kept.{kept_by}
use Rattle.keep_lists.proofs.lists.put_inputs.Given as goal

abbrev pub invariant-loop-a : goal.invariant-loop-a
invariant-loop-a l =
    l.out ++ each_from (input_lines (all_of l.marker) (kept_by l.kept)) l.a (drop l.a (all_of l.marker)) ≡ l.initial.out ++ each_from (input_lines (all_of l.marker) (kept_by l.kept)) 0 (all_of l.marker)
