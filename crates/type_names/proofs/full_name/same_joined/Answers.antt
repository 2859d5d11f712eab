use Rattle.rules.specs.type_rules.Texts.{full_name_of}
use Rattle.type_names.proofs.Comparing.{one_further}
use Rattle.type_names.proofs.full_name.same_joined.Goals as goal

pub loop-i-preserved : goal.loop-i-preserved
loop-i-preserved c =
    one_further (full_name_of c.args.namespace.now c.args.name.now) (full_name_of c.args.with.now c.args.other.now) c.loop-i.i _ _ _ _ _ c.full_len-count.ensures c.full_len.ensures c.if-count-full_len.false c.loop-i-test.true
    c.byte_at.ensures c.byte_at-in-loop-i.ensures c.if-ne.ensures c.loop-i.invariant
