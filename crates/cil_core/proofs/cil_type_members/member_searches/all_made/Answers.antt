use Rattle.std.proofs.Common.{◌∙◌}
use Rattle.cil_core.proofs.lemmas.cil_type_members.Making.{more_made}
use Rattle.cil_core.proofs.cil_type_members.member_searches.all_made.Goals as goal

pub loop-m-preserved : goal.loop-m-preserved
loop-m-preserved c = λ f.
    more_made c.args.members.now c.loop-m.m-index c.m-item.result c.loop-m.cells c.push.new.self c.loop-m.st c.new_member.new.st c.in_ok-at.at f c.loop-m-test.true c.m-item.is
    c.in_ok-at.ensures c.in_ok-push.ensures.ok
    ∙ c.loop-m.invariant f
