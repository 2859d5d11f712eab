use Rattle.std.proofs.Common.{◌≡◌, ◌++◌, map, drop}
use Rattle.mark_parts.specs.mark_tables.Assemblies.{recs_of, place_of, rec_of}
use Rattle.rules.specs.view_rules.Code.{instruction_of}
use Rattle.cil_world.proofs.world_code.code.instructions.Given as goal

abbrev pub invariant-loop-i : goal.invariant-loop-i
invariant-loop-i l =
    l.made ++ map (instruction_of (recs_of l.asm) (place_of l.asm) (rec_of l.asm)) (drop l.i-index l.code) ≡ map (instruction_of (recs_of l.asm) (place_of l.asm) (rec_of l.asm)) l.code
