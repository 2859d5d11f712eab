use Rattle.token_keys.specs.type_numbers.Filled.{IsFilled}
use Rattle.restrict.specs.assembly_tokens.Tokens.{moved_by}
use Rattle.restrict.proofs.assembly_tokens.maps.fill.Given as goal

abbrev pub invariant-loop-k : goal.invariant-loop-k
invariant-loop-k l = IsFilled (moved_by l.stand l.moving) l.table l.k l.initial.map l.map
