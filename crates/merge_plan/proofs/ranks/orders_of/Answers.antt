use Rattle.merge_plan.proofs.Ranking.{orders_more}
use Rattle.merge_plan.proofs.ranks.orders_of.Goals as goal

pub loop-at-preserved : goal.loop-at-preserved
loop-at-preserved c =
    orders_more c.args.rows.now c.loop-at.at-index (record { asm = 0; row = 0 }) c.loop-at.orders.items c.push.new.self.items c.order_of.result c.loop-at-test.true c.order_of.ensures.order
    c.order_of.ensures.fits c.in_ok-push.ensures.items c.loop-at.invariant
