use Rattle.std.proofs.Common.{◌≡◌, ◌++◌, map, drop}
use Rattle.rules.specs.type_rules.Texts.{text}
use Rattle.type_names.proofs.Joining.{joined_behind}
use Rattle.type_names.proofs.texts.+writing.Given as goal

abbrev pub invariant-put_arguments-loop-i : goal.invariant-put_arguments-loop-i
invariant-put_arguments-loop-i l = l.out ++ joined_behind l.i (map (text l.world) (drop l.i l.args)) ≡ l.initial.out ++ joined_behind 0 (map (text l.world) l.args)
