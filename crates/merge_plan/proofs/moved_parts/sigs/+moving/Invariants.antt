use Rattle.std.proofs.Common.{◌≡◌, map, take}
use Rattle.merge_plan.specs.moved_parts.Moves.{sig_by}
use Rattle.merge_plan.proofs.moved_parts.sigs.+moving.Given as goal

abbrev pub invariant-moved_sigs-loop-one : goal.invariant-moved_sigs-loop-one
invariant-moved_sigs-loop-one l = l.moved ≡ map (sig_by l.tokens) (take l.one-index l.sigs)
