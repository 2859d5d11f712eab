use Rattle.std.proofs.Common.{take}
use Rattle.merge_plan.specs.Ranks.{AreOrders}
use Rattle.merge_plan.proofs.ranks.orders_of.Given as goal

abbrev pub invariant-loop-at : goal.invariant-loop-at
invariant-loop-at l = AreOrders (take l.at-index l.rows) l.orders.items
