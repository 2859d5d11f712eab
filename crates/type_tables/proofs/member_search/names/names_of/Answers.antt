use Rattle.type_tables.specs.member_search.Names.{AreNames}
use Rattle.type_tables.proofs.lemmas.member_search.Zips.{zip_more}
use Rattle.type_tables.proofs.member_search.names.names_of.Goals as goal

pub loop-rec-preserved : goal.loop-rec-preserved
loop-rec-preserved c =
    zip_more AreNames c.args.all.now c.loop-rec.rec-index c.rec-item.result c.loop-rec-test.true c.rec-item.is c.loop-rec.names.items c.in_ok-own.own c.loop-rec.invariant c.in_ok-own.ensures
    c.push.new.self.items c.in_ok-push.ensures.items
