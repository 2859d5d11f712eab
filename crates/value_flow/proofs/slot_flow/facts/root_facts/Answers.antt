use Rattle.value_flow.specs.slot_flow.Facts.{root_facts}
use Rattle.value_flow.proofs.lemmas.slot_flow.Roots.{places_more}
use Rattle.value_flow.proofs.slot_flow.facts.root_facts.Goals as goal

pub loop-i-preserved : goal.loop-i-preserved
loop-i-preserved c =
    places_more c.args.f.now c.loop-i.facts c.put_place.new.facts c.loop-i.i (root_facts c.args.f.now) c.loop-i-test.true c.in_ok-put_place.ensures c.loop-i.invariant
