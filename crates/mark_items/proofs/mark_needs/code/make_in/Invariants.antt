use Rattle.std.proofs.Common.{◌≡◌, ◌++◌, drop}
use Rattle.std.specs.List.{flat_map}
use Rattle.il_base.specs.declared.body.Instr.{Instr}
use Rattle.rules.specs.mark_rules.Calls.{makes_by}
use Rattle.mark_parts.specs.mark_tables.Assemblies.{recs_of, place_of, rec_of}
use Rattle.mark_items.proofs.mark_needs.code.make_in.Given as goal

abbrev pub invariant-loop-instr : goal.invariant-loop-instr
invariant-loop-instr l =
    l.facts ++ flat_map (λ (i : Instr). makes_by (recs_of l.asm) (place_of l.asm) (rec_of l.asm) i.form i.operand) (drop l.instr-index l.instr-items)
    ≡ l.initial.facts ++ flat_map (λ (i : Instr). makes_by (recs_of l.asm) (place_of l.asm) (rec_of l.asm) i.form i.operand) l.instr-items
