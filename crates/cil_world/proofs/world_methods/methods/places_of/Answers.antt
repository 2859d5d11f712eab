use Rattle.type_tables.proofs.lemmas.member_search.Zips.{zip_more}
use Rattle.cil_world.specs.world_methods.Places.{HasPlaces}
use Rattle.cil_world.proofs.world_methods.methods.places_of.Goals as goal

pub loop-m-preserved : goal.loop-m-preserved
loop-m-preserved c =
    zip_more HasPlaces c.args.rows.now c.loop-m.m-index c.m-item.result c.loop-m-test.true c.m-item.is c.loop-m.places.items c.in_ok-own.own c.loop-m.invariant c.in_ok-own.ensures c.push.new.self.items
    c.in_ok-push.ensures.items
