use Rattle.requirements.specs.Bodies.{flowed}
use Rattle.requirements.proofs.Looping.{one_argument}
use Rattle.requirements.proofs.calls.put_all.Goals as goal

pub loop-j-preserved : goal.loop-j-preserved
loop-j-preserved c =
    one_argument (flowed c.args.body.now) c.args.offset c.args.m c.args.n c.loop-j.j c.loop-j.sites c.put_argument.new.sites _ c.loop-j-test.true c.in_ok-put_argument.ensures c.loop-j.invariant
