use Rattle.std.proofs.Common.{subst, ◌∙◌, List}
use Rattle.rules.specs.declared.link_rules.row_at.RowAt.{RowAt}
use Rattle.merge_plan.specs.OldNames.{types_of}
use Rattle.std.proofs.Common.{take}
use Rattle.merge_plan.specs.Rivals.{AreNamed}
use Rattle.merge_plan.proofs.Olds.{old_at, types_more, contests_more, contests_end}
use Rattle.merge_plan.proofs.contests.contests.Goals as goal

pub meet_type-requires-clause-name : goal.meet_type-requires-clause-name
meet_type-requires-clause-name c =
    c.as_slice-name.ensures.value ∙ old_at c.args.index.now.all.now c.args.kept.now c.loop-old.old-index c.old-item.result c.loop-old-test.true c.old-item.is c.requires.names

pub loop-old-preserved : goal.loop-old-preserved
loop-old-preserved c =
    let recs = c.args.index.now.all.now in
    let old = c.args.kept.now in
    let i = c.loop-old.old-index in
    let before = types_of (take i old) in
    record {
      named = subst (λ (ts : List RowAt). AreNamed recs ts c.meet_type.new.earlier) (types_more old i c.old-item.result c.loop-old-test.true c.old-item.is)
          (c.in_ok-meet_type.ensures.named before c.loop-old.invariant.named);
      found = contests_more recs old i c.old-item.result c.loop-old.found.items c.meet_type.new.found.items _ c.loop-old-test.true c.old-item.is
          (c.in_ok-meet_type.ensures.found before c.loop-old.invariant.named) c.loop-old.invariant.found;
    }

pub returns : goal.returns
returns c = contests_end c.args.index.now.all.now c.args.kept.now c.loop-old.old-index c.loop-old.found.items _ c.loop-old-test.false c.loop-old.invariant.found
