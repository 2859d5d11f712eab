use Rattle.std.proofs.Common.{◌≡◌, ◌+◌, drop}
use Rattle.std.specs.List.{position_from}
use Rattle.rules.specs.type_rules.Makers.{is_maker}
use Rattle.mark_parts.specs.mark_tables.Assemblies.{recs_of, place_of, rec_of}
use Rattle.mark_parts.proofs.mark_rows.makers.first_maker.Given as goal

abbrev pub invariant-loop-k : goal.invariant-loop-k
invariant-loop-k l =
    position_from (is_maker (recs_of l.asm) (place_of l.asm) (rec_of l.asm)) (l.start + l.k) (drop l.k l.run) ≡ position_from (is_maker (recs_of l.asm) (place_of l.asm) (rec_of l.asm)) l.start l.run
