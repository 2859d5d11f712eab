use Rattle.std.proofs.Common.{◌≡◌, ◌++◌, drop}
use Rattle.attribute_values.proofs.enum_names.named.copy_path.Given as goal

abbrev pub invariant-loop-name : goal.invariant-loop-name
invariant-loop-name l = l.copy ++ drop l.name-index l.path ≡ l.path
