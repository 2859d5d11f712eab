use Rattle.std.proofs.Common.{◌≡◌, ◌++◌, drop}
use Rattle.std.specs.List.{flat_map}
use Rattle.rules.specs.mark_rules.Bodies.{handler_parts}
use Rattle.mark_parts.specs.mark_tables.Assemblies.{recs_of, place_of, rec_of}
use Rattle.mark_parts.proofs.bodies.add_handlers.Given as goal

abbrev pub invariant-loop-handler : goal.invariant-loop-handler
invariant-loop-handler l =
    l.parts ++ flat_map (handler_parts (recs_of l.asm) (place_of l.asm) (rec_of l.asm) l.row) (drop l.handler-index l.handlers) ≡ l.initial.parts ++ flat_map (handler_parts (recs_of l.asm) (place_of l.asm) (rec_of l.asm) l.row) l.handlers
