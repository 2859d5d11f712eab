use Rattle.std.proofs.Common.{◌≡◌, ◌++◌, drop}
use Rattle.std.specs.List.{flat_map}
use Rattle.token_keys.specs.Keys.{recs_of, place_of, rec_of}
use Rattle.restrict.specs.met_parts.Forms.{met_instr}
use Rattle.restrict.proofs.met_parts.bodies.meet_code.Given as goal

abbrev pub invariant-loop-instr : goal.invariant-loop-instr
invariant-loop-instr l =
    l.mets ++ flat_map (met_instr (recs_of l.keys) (place_of l.keys) (rec_of l.keys)) (drop l.instr-index l.code)
    ≡ l.initial.mets ++ flat_map (met_instr (recs_of l.keys) (place_of l.keys) (rec_of l.keys)) l.code
