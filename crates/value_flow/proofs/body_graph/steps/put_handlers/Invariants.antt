use Rattle.std.proofs.Common.{◌≡◌, ◌++◌, drop}
use Rattle.rules.specs.flow_rules.Steps.{offsets, handler_steps}
use Rattle.value_flow.proofs.body_graph.steps.put_handlers.Given as goal

abbrev pub invariant-loop-h : goal.invariant-loop-h
invariant-loop-h l =
    l.out ++ handler_steps (offsets l.c.code.now) (drop l.h-index l.c.handlers.now) l.at ≡ l.initial.out ++ handler_steps (offsets l.c.code.now) l.c.handlers.now l.at
