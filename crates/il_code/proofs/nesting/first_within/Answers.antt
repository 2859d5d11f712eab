use Rattle.std.proofs.Common.{◌+◌, get_or, sym, ap, ◌∙◌, subst, min, arith}
use Rattle.std.proofs.lemmas.Option.{slice_get-get_or}
use Rattle.il_code.specs.Around.{HasBegun}
use Rattle.il_code.specs.Nesting.{IsFirstWithin}
use Rattle.il_code.proofs.Looks.{no_block}
use Rattle.il_code.proofs.Within.{within_more, begun_by, begun_here}
use Rattle.il_code.proofs.nesting.first_within.Goals as goal

pub loop-at-preserved : goal.loop-at-preserved
loop-at-preserved c =
    let blocks = c.args.blocks.now in
    let at = c.loop-at.at in
    let next = c.run_of-next.result in
    let is = c.run_of-next.ensures in
    let below = c.loop-at.invariant.run.below in
    let b = get_or blocks at no_block in
    let look = slice_get-get_or blocks at no_block c.loop-at-test.true in
    let here : HasBegun blocks c.loop-at.run b.range.from c.loop-at.begun = begun_by blocks c.loop-at.run at b c.loop-at.begun c.requires.ordered c.loop-at.invariant.run look c.loop-at.invariant.begun in
    let moved = c.in_ok-add_all.ensures b.range.from here in
    record {
      run = is.run;
      first = subst (IsFirstWithin blocks (at + 1)) (sym (c.min-first.ensures ∙ ap (min c.loop-at.first) c.misfit.ensures))
          (within_more blocks next at _ b c.around-around.result c.requires.ordered c.requires.bounded (slice_get-get_or blocks next no_block (omega arith)) look is.run is.within
          (c.around-around.ensures.around blocks next moved) c.loop-at.first c.loop-at.invariant.first);
      begun = begun_here blocks next at b c.around-around.new.self is.run is.within look (c.around-around.ensures.begun blocks next moved);
    }
