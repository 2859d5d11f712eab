use Rattle.mark_parts.specs.mark_tables.Assemblies.{recs_of, place_of, rec_of}
use Rattle.token_keys.specs.type_numbers.Filled.{number_by, IsFilled}
use Rattle.token_keys.proofs.type_numbers.maps.fill.Given as goal

abbrev pub invariant-loop-k : goal.invariant-loop-k
invariant-loop-k l = IsFilled (number_by l.stand (recs_of l.asm) (place_of l.asm) (rec_of l.asm)) l.table l.k l.initial.map l.map
