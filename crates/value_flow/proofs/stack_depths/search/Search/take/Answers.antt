use Rattle.std.proofs.Common.{arith}
use Rattle.value_flow.proofs.lemmas.stack_depths.Entering.{takes_on, takes_off}
use Rattle.value_flow.proofs.stack_depths.search.Search.take.Goals as goal

pub returns-then-not-ok : goal.returns-then-not-ok
returns-then-not-ok c =
    takes_off c.args.d c.args.e.now c.loop-s.s-index c.args.self.now c.loop-s.self c.enter.new.self c.as_slice-s-items.result.now c.depth_by-depth.result
    c.as_slice-s-items.ensures (omega arith) c.depth_by-depth.ensures c.loop-s.invariant c.in_ok-ok.ok c.if-not-ok.true c.in_ok-ok.ensures

pub loop-s-preserved : goal.loop-s-preserved
loop-s-preserved c =
    takes_on c.args.d c.args.e.now c.loop-s.s-index c.args.self.now c.loop-s.self c.enter.new.self c.as_slice-s-items.result.now c.depth_by-depth.result
    c.as_slice-s-items.ensures (omega arith) c.depth_by-depth.ensures c.loop-s.invariant c.in_ok-ok.ok c.if-not-ok.false c.in_ok-ok.ensures
