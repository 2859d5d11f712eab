use Rattle.rules.specs.record_format.Texts.{units_of}
use Rattle.world_reader.proofs.lemmas.user_strings.Units.{units_on, units_done}
use Rattle.world_reader.proofs.user_strings.texts.units_of.Goals as goal

pub loop-i-preserved : goal.loop-i-preserved
loop-i-preserved c = rw c.in_ok-push.ensures.ok (units_on c.loop-i.units c.args.item.now c.loop-i.i (units_of c.args.item.now) c.loop-i-test.true c.loop-i.invariant)

pub returns : goal.returns
returns c = units_done c.loop-i.units c.args.item.now c.loop-i.i (units_of c.args.item.now) c.loop-i-test.false c.loop-i.invariant
