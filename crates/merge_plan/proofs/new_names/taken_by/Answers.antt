use Rattle.std.proofs.Common.{[], List, take, subst, ◌∙◌}
use Rattle.std.proofs.lemmas.List.{take_all}
use Rattle.rules.specs.declared.link_rules.row_at.RowAt.{RowAt}
use Rattle.merge_plan.specs.declared.full_names.OldName.{OldName}
use Rattle.merge_plan.specs.OldNames.{types_of}
use Rattle.merge_plan.specs.Taken.{AreTaken}
use Rattle.merge_plan.proofs.Olds.{old_at, types_more}
use Rattle.merge_plan.proofs.new_names.taken_by.Goals as goal

pub add_old-requires-clause-name : goal.add_old-requires-clause-name
add_old-requires-clause-name c =
    c.as_slice.ensures.value ∙ old_at c.args.index.now.all.now c.args.kept.now c.loop-old.old-index c.old-item.result c.loop-old-test.true c.old-item.is c.requires.names

pub loop-old-preserved : goal.loop-old-preserved
loop-old-preserved c =
    subst (λ (ts : List RowAt). AreTaken c.args.index.now.all.now ts [] c.add_old.new.taken) (types_more c.args.kept.now c.loop-old.old-index c.old-item.result c.loop-old-test.true c.old-item.is)
    (c.in_ok-add_old.ensures (types_of (take c.loop-old.old-index c.args.kept.now)) c.loop-old.invariant)

pub returns : goal.returns
returns c =
    subst (λ (old : List OldName). AreTaken c.args.index.now.all.now (types_of old) [] c.loop-old.taken) (take_all c.loop-old.old-index c.args.kept.now c.loop-old-test.false) c.loop-old.invariant
