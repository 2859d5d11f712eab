use Rattle.std.proofs.Common.{◌≡◌, ◌++◌, length}
use Rattle.std.specs.Option.{option_map}
use Rattle.descriptor_file.specs.Values.{unescaped}
use Rattle.descriptor_file.proofs.values.unescaped.Given as goal

abbrev pub invariant-loop-rest : goal.invariant-loop-rest
invariant-loop-rest l = option_map (λ more. l.text ++ more) (unescaped 0 l.rest) ≡ unescaped 0 l.raw

abbrev pub decreases-loop-rest : goal.decreases-loop-rest
decreases-loop-rest l = length l.rest
