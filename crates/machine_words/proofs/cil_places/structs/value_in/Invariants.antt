use Rattle.std.proofs.Common.{◌≡◌, drop}
use Rattle.rules.specs.step_rules.Places.{value_in}
use Rattle.machine_words.proofs.cil_places.structs.value_in.Given as goal

abbrev pub invariant-loop-k : goal.invariant-loop-k
invariant-loop-k l = value_in (drop l.k-index l.steps) l.at ≡ value_in l.steps l.fn.v
