use Rattle.std.proofs.Common.{◌≡◌, ◌++◌, drop}
use Rattle.std.specs.List.{flat_map}
use Rattle.token_keys.specs.Keys.{recs_of, place_of, rec_of}
use Rattle.restrict.specs.met_parts.Forms.{met_handler}
use Rattle.restrict.proofs.met_parts.bodies.meet_handlers.Given as goal

abbrev pub invariant-loop-handler : goal.invariant-loop-handler
invariant-loop-handler l =
    l.mets ++ flat_map (met_handler (recs_of l.keys) (place_of l.keys) (rec_of l.keys)) (drop l.handler-index l.handlers)
    ≡ l.initial.mets ++ flat_map (met_handler (recs_of l.keys) (place_of l.keys) (rec_of l.keys)) l.handlers
