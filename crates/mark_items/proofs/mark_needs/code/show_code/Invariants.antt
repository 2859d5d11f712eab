use Rattle.std.proofs.Common.{◌≡◌, ◌++◌, map, drop}
use Rattle.std.specs.List.{flat_map}
use Rattle.rules.specs.mark_rules.Facts.Fact.{shown}
use Rattle.mark_parts.specs.mark_tables.Assemblies.{recs_of, place_of, rec_of}
use Rattle.mark_items.specs.mark_needs.Codes.{shown_instruction}
use Rattle.mark_items.proofs.mark_needs.code.show_code.Given as goal

abbrev pub invariant-loop-instr : goal.invariant-loop-instr
invariant-loop-instr l =
    l.facts ++ map shown (flat_map (shown_instruction (recs_of l.asm) (place_of l.asm) (rec_of l.asm)) (drop l.instr-index l.instr-items))
    ≡ l.initial.facts ++ map shown (flat_map (shown_instruction (recs_of l.asm) (place_of l.asm) (rec_of l.asm)) l.instr-items)
