use Rattle.std.proofs.Common.{◌≡◌, drop}
use Rattle.rules.specs.step_rules.CoreTexts.{units_order}
use Rattle.cil_core.proofs.cil_text_members.orders.units_order.Given as goal

abbrev pub invariant-loop-u : goal.invariant-loop-u
invariant-loop-u l = units_order (drop l.u-index l.us) l.left ≡ units_order l.us l.fn.vs
