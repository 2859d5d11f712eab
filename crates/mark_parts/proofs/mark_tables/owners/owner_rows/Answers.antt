use Rattle.type_tables.proofs.lemmas.member_search.Zips.{zip_more}
use Rattle.mark_parts.specs.mark_tables.Owners.{AreOwnerRows}
use Rattle.mark_parts.proofs.mark_tables.owners.owner_rows.Goals as goal

pub loop-rec-preserved : goal.loop-rec-preserved
loop-rec-preserved c =
    zip_more AreOwnerRows c.args.all.now c.loop-rec.rec-index c.rec-item.result c.loop-rec-test.true c.rec-item.is c.loop-rec.rows.items c.in_ok-own.own c.loop-rec.invariant c.in_ok-own.ensures
    c.push.new.self.items c.in_ok-push.ensures.items
