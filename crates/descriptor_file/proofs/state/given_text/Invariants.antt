use Rattle.std.proofs.Common.{◌≡◌, drop}
use Rattle.descriptor_file.specs.Grammar.{given_text}
use Rattle.descriptor_file.proofs.state.given_text.Given as goal

abbrev pub invariant-loop-g : goal.invariant-loop-g
invariant-loop-g l = given_text l.attribute (drop l.g-index l.given) ≡ given_text l.attribute l.given
