use Rattle.std.proofs.Common.{◌≡◌, ◌++◌, map, drop}
use Rattle.mark_parts.specs.mark_tables.Assemblies.{recs_of, place_of, rec_of}
use Rattle.rules.specs.view_rules.Code.{clause_of}
use Rattle.cil_world.proofs.world_code.code.clauses.Given as goal

abbrev pub invariant-loop-h : goal.invariant-loop-h
invariant-loop-h l =
    l.made ++ map (clause_of (recs_of l.asm) (place_of l.asm) (rec_of l.asm)) (drop l.h-index l.handlers) ≡ map (clause_of (recs_of l.asm) (place_of l.asm) (rec_of l.asm)) l.handlers
