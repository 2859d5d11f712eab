use Rattle.std.proofs.Common.{ℕ, Bool, List, [], ◌∷◌, ◌++◌, ◌+◌, ◌-◌, map, sym, ap, ◌∙◌}
use Rattle.std.specs.List.{range_with_len}
use Rattle.il_base.specs.declared.ids.Item.TheVariants as item
use Rattle.rules.specs.mark_rules.Facts.Fact.{marked}
use Rattle.marking.specs.Holding.{holds}
use Rattle.kept_marks.proofs.Flagged.{range_next, range_end}
use Rattle.kept_marks.proofs.flags.assembly_flags.Goals as goal

pub loop-id-preserved : goal.loop-id-preserved
loop-id-preserved c =
    let test : ℕ → Bool = λ n. holds c.args.set.now (marked (item.Asm (record { 0 = n }))) in
    ap (λ (flags : List Bool). flags ++ map test (range_with_len (c.loop-id.id + 1) (c.in_ok-count.count - (c.loop-id.id + 1))))
    (c.in_ok-push.ensures.ok ∙ ap (λ (flag : Bool). c.loop-id.flags ++ flag ∷ []) c.has.ensures)
    ∙ range_next test c.loop-id.flags c.loop-id.id c.in_ok-count.count c.loop-id-test.true ∙ c.loop-id.invariant

pub returns : goal.returns
returns c =
    let test : ℕ → Bool = λ n. holds c.args.set.now (marked (item.Asm (record { 0 = n }))) in
    sym (range_end test c.loop-id.flags c.loop-id.id c.in_ok-count.count c.loop-id-test.false) ∙ c.loop-id.invariant
    ∙ ap (λ (n : ℕ). map test (range_with_len 0 n)) c.in_ok-count.ensures
