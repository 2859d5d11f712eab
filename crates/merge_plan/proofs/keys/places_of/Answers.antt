use Rattle.std.proofs.Common.{arith}
use Rattle.std.specs.HashMap.{get}
use Rattle.merge_plan.specs.Keys.{same_spot, spot_of}
use Rattle.merge_plan.proofs.Firsts.{rows_all}
use Rattle.merge_plan.proofs.keys.places_of.Goals as goal

pub returns : goal.returns
returns c = λ q. rows_all c.args.rows.now q (get same_spot c.loop-i.places (spot_of q)) c.loop-i.i (omega arith) (c.loop-i.invariant q)
