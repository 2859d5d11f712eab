use Rattle.std.proofs.Common.{◌≡◌, ℕ, List, length, map, min, ap, sym, subst, ◌∙◌, arith}
use Rattle.std.specs.List.Sorted.{IsPermutation}
use Rattle.il_code.specs.declared.blocks.Block.{Block}
use Rattle.il_code.specs.Blocks.{turned, AreBounded}
use Rattle.il_code.specs.Nesting.{IsFirstAlike, IsFirstWithin, IsFirstMisfit}
use Rattle.il_code.proofs.Misfits.{first_misfit, bounded_moved, bounded_turned}
use Rattle.il_code.proofs.nesting.first_misfit.Goals as goal

pub first_within-requires-clause-bounded : goal.first_within-requires-clause-bounded
first_within-requires-clause-bounded c =
    subst AreBounded (sym c.deref-2.ensures.value) (bounded_moved c.in_ok-blocks_of.field-0.items c.sorted-blocks.result.items c.sorted-blocks.ensures.moved c.in_ok-blocks_of.ensures.bounded)

pub first_within-requires-2-clause-bounded : goal.first_within-requires-2-clause-bounded
first_within-requires-2-clause-bounded c =
    let front = c.sorted-blocks.result.items in
    let bounded = bounded_moved c.in_ok-blocks_of.field-0.items front c.sorted-blocks.ensures.moved c.in_ok-blocks_of.ensures.bounded in
    let turn = c.in_ok-all_turned.ensures ∙ ap (map turned) c.deref-3.ensures.value in
    subst AreBounded (sym c.deref-4.ensures.value)
    (bounded_moved c.in_ok-all_turned.field-0.items c.sorted-turned.result.items c.sorted-turned.ensures.moved (subst AreBounded (sym turn) (bounded_turned front bounded)))

pub returns : goal.returns
returns c =
    let all = c.args.all.now in
    let front = c.sorted-blocks.result.items in
    let back = c.sorted-turned.result.items in
    let turn = c.in_ok-all_turned.ensures ∙ ap (map turned) c.deref-3.ensures.value in
    let front_moved = subst (λ (l : List Block). IsPermutation l front) c.in_ok-blocks_of.ensures.items c.sorted-blocks.ensures.moved in
    let back_moved = subst (λ (l : List Block). IsPermutation l back) turn c.sorted-turned.ensures.moved in
    let bounded = bounded_moved c.in_ok-blocks_of.field-0.items front c.sorted-blocks.ensures.moved c.in_ok-blocks_of.ensures.bounded in
    let alike = subst (λ (l : List Block). IsFirstAlike l (length l) c.first_alike-alike.result) c.deref.ensures.value c.first_alike-alike.ensures in
    let in_front = subst (λ (l : List Block). IsFirstWithin l (length l) c.in_ok-front.front) c.deref-2.ensures.value c.in_ok-front.ensures in
    let in_back = subst (λ (l : List Block). IsFirstWithin l (length l) c.in_ok-back.back) c.deref-4.ensures.value c.in_ok-back.ensures in
    let is : c.min-2.result ≡ min (min c.first_alike-alike.result c.in_ok-front.front) c.in_ok-back.back = c.min-2.ensures ∙ ap (λ (n : ℕ). min n c.in_ok-back.back) c.min.ensures in
    subst (IsFirstMisfit all) (sym is)
    (first_misfit all front back c.first_alike-alike.result c.in_ok-front.front c.in_ok-back.back front_moved back_moved bounded c.sorted-blocks.ensures.ordered c.sorted-turned.ensures.ordered alike in_front in_back (omega arith))
