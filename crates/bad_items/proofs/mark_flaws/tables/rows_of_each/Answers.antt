use Rattle.std.proofs.Common.{ℕ, ◌+◌, List, length, sym, ap, subst, ◌∙◌}
use Rattle.std.proofs.lemmas.List.{length_push}
use Rattle.bad_items.specs.declared.mark_flaws.tables.FlawRows.{FlawRows}
use Rattle.bad_items.specs.mark_flaws.Tables.{AreAt, AreEach}
use Rattle.mark_parts.specs.mark_tables.Assemblies.{all_of}
use Rattle.bad_items.proofs.lemmas.mark_flaws.Placing.{here_at, placed, pushed, none_are}
use Rattle.bad_items.proofs.mark_flaws.tables.rows_of_each.Goals as goal

pub loop-a-init : goal.loop-a-init
loop-a-init c = (ap (λ (xs : List FlawRows). length xs) c.new-rows.ensures.items, none_are c.args.all.now c.new-rows.result.items c.new-rows.ensures.items)

pub loop-a-preserved : goal.loop-a-preserved
loop-a-preserved c =
    let all = c.args.all.now in
    let rows = c.loop-a.rows.items in
    let one = c.in_ok-of_asm.of_asm in
    let a = c.loop-a.a in
    let here = here_at all a c.index-all-a.result c.loop-a-test.true c.index-all-a.is in
    let is : AreAt all a one = placed all (all_of c.args.marker.now) c.requires.all a c.in_ok-asm.asm c.in_ok-asm.ensures c.index-all-a.result here one c.in_ok-of_asm.ensures in (
      ap (λ (xs : List FlawRows). length xs) c.in_ok-push.ensures.items ∙ length_push rows one ∙ ap (λ (n : ℕ). n + 1) c.loop-a.invariant.0,
      subst (λ (xs : List FlawRows). AreEach all xs) (sym c.in_ok-push.ensures.items) (pushed (AreAt all) rows one c.loop-a.invariant.1 (subst (λ (n : ℕ). AreAt all n one) (sym c.loop-a.invariant.0) is)),
    )
