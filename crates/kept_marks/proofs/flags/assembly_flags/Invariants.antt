use Rattle.std.proofs.Common.{◌≡◌, ℕ, ◌-◌, ◌++◌, map}
use Rattle.std.specs.List.{range_with_len}
use Rattle.il_base.specs.declared.ids.Item.TheVariants as item
use Rattle.rules.specs.mark_rules.Facts.Fact.{marked}
use Rattle.marking.specs.Holding.{holds}
use Rattle.kept_marks.proofs.flags.assembly_flags.Given as goal

abbrev pub invariant-loop-id : goal.invariant-loop-id
invariant-loop-id l =
    l.flags ++ map (λ (n : ℕ). holds l.set (marked (item.Asm (record { 0 = n })))) (range_with_len l.id (l.count - l.id)) ≡ map (λ (n : ℕ). holds l.set (marked (item.Asm (record { 0 = n })))) (range_with_len 0 l.count)
