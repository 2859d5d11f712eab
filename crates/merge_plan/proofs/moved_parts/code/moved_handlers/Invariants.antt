use Rattle.std.proofs.Common.{◌≡◌, map, take}
use Rattle.merge_plan.specs.moved_parts.Moves.{handler_by}
use Rattle.merge_plan.proofs.moved_parts.code.moved_handlers.Given as goal

abbrev pub invariant-loop-one : goal.invariant-loop-one
invariant-loop-one l = l.moved ≡ map (handler_by l.tokens) (take l.one-index l.handlers)
