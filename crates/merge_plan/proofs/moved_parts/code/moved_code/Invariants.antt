use Rattle.std.proofs.Common.{◌≡◌, map, take}
use Rattle.merge_plan.specs.moved_parts.Moves.{instr_by}
use Rattle.merge_plan.proofs.moved_parts.code.moved_code.Given as goal

abbrev pub invariant-loop-one : goal.invariant-loop-one
invariant-loop-one l = l.moved ≡ map (instr_by l.tokens l.rec) (take l.one-index l.code)
