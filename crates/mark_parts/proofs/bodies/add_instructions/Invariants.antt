use Rattle.std.proofs.Common.{◌≡◌, ◌++◌, drop}
use Rattle.std.specs.List.{flat_map}
use Rattle.rules.specs.mark_rules.Bodies.{instruction_parts}
use Rattle.mark_parts.specs.mark_tables.Assemblies.{recs_of, place_of, rec_of}
use Rattle.mark_parts.proofs.bodies.add_instructions.Given as goal

abbrev pub invariant-loop-instr : goal.invariant-loop-instr
invariant-loop-instr l =
    l.parts ++ flat_map (instruction_parts (recs_of l.asm) (place_of l.asm) (rec_of l.asm) l.row) (drop l.instr-index l.code) ≡ l.initial.parts ++ flat_map (instruction_parts (recs_of l.asm) (place_of l.asm) (rec_of l.asm) l.row) l.code
