use Rattle.std.proofs.Common.{◌≡◌, ◌<◌, drop}
use Rattle.merge_plan.proofs.lemmas.method_places.Sizing.{size_from}
use Rattle.merge_plan.proofs.method_places.lengths.code_size.Given as goal

abbrev pub invariant-loop-instr : goal.invariant-loop-instr
invariant-loop-instr l = record {
  size : size_from l.size (drop l.instr-index l.code) ≡ size_from 0 l.code;
  fits : l.size < 4294967296;
}
