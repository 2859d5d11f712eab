use Rattle.il_outside.proofs.Taken.{appended, rest_within}
use Rattle.il_outside.proofs.sink.write_all.Goals as goal

pub loop-at-preserved : goal.loop-at-preserved
loop-at-preserved g c = record {
  within = rest_within c.args.bytes.now c.loop-at.at c.in-Ok.n c.loop-at-test.true c.in-Ok.ensures.bound;
  held = appended _ _ _ c.args.bytes.now c.loop-at.at c.in-Ok.n c.loop-at.invariant.held c.in-Ok.ensures.held;
  faults = cc c.in-Ok.ensures.faults;
}
