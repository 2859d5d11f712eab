use Rattle.rules.specs.type_rules.Texts.{text}
use Rattle.type_names.proofs.Joining.{one_more, all_joined}
use Rattle.type_names.proofs.texts.+writing.Goals as goal

pub put_arguments-loop-i-preserved : goal.put_arguments-loop-i-preserved
put_arguments-loop-i-preserved t c =
    one_more (text c.args.world.now) c.args.args.now c.loop-i.i _ _ _ _ _ c.loop-i-test.true c.index-args-i.is c.in_ok-put_separator.ensures c.in_ok-put_type.ensures c.loop-i.invariant

pub put_arguments-returns : goal.put_arguments-returns
put_arguments-returns t c = all_joined (text c.args.world.now) c.args.args.now c.loop-i.i _ _ c.loop-i-test.false c.loop-i.invariant
