use Rattle.std.proofs.Common.{◌+◌, sym, ap, ◌∙◌, subst, min, arith}
use Rattle.std.proofs.lemmas.Option.{slice_get-get_or}
use Rattle.il_code.specs.Nesting.{IsFirstAlike}
use Rattle.il_code.proofs.Looks.{no_block}
use Rattle.il_code.proofs.Runs.{alike_more}
use Rattle.il_code.proofs.nesting.first_alike.Goals as goal

pub loop-at-preserved : goal.loop-at-preserved
loop-at-preserved c =
    let blocks = c.args.blocks.now in
    let at = c.loop-at.at in
    let run = c.run_of-run.result in
    let is = c.run_of-run.ensures in
    record {
      run = is.run;
      first = subst (IsFirstAlike blocks (at + 1)) (sym (c.min-first.ensures ∙ ap (min c.loop-at.first) c.clash.ensures))
          (alike_more blocks run at c.loop-at.first _ _ c.requires (slice_get-get_or blocks run no_block (omega arith)) (slice_get-get_or blocks at no_block c.loop-at-test.true)
          is.run is.within c.loop-at.invariant.first);
    }
