use Rattle.std.proofs.Common.{◌≡◌, ℕ, ◌-◌, ◌++◌, map}
use Rattle.std.specs.List.{range_with_len}
use Rattle.rules.specs.mark_rules.Facts.Fact.{marked}
use Rattle.mark_parts.specs.mark_facts.Kinds.{item_numbered}
use Rattle.marking.specs.Holding.{holds}
use Rattle.kept_marks.proofs.flags.item_flags.Given as goal

abbrev pub invariant-loop-id : goal.invariant-loop-id
invariant-loop-id l =
    l.flags ++ map (λ (n : ℕ). holds l.set (marked (item_numbered l.kind n))) (range_with_len l.id (l.count - l.id)) ≡ map (λ (n : ℕ). holds l.set (marked (item_numbered l.kind n))) (range_with_len 0 l.count)
