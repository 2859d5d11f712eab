use Rattle.std.proofs.Common.{◌≡◌, ◌++◌, reverse, length}
use Rattle.attribute_values.specs.enum_names.Paths.{chain_path}
use Rattle.attribute_values.proofs.enum_names.paths.path_of_chain.Given as goal

abbrev pub invariant-loop-path : goal.invariant-loop-path
invariant-loop-path l = l.path ++ reverse l.left ≡ chain_path l.fn.chain

abbrev pub decreases-loop-path : goal.decreases-loop-path
decreases-loop-path l = length l.left
