use Rattle.std.proofs.Common.{◌+◌, List, sym, subst, arith}
use Rattle.merged_tables.specs.declared.merged_texts.loads.Loads.{Loads}
use Rattle.merged_tables.specs.merged_texts.Texts.{AreFirstLoads}
use Rattle.merged_tables.proofs.lemmas.merged_texts.Loading.{one_more, none_first, item_there}
use Rattle.merged_tables.proofs.merged_texts.loads.all_loads.Goals as goal

pub loop-rec-init : goal.loop-rec-init
loop-rec-init c = none_first c.args.recs.now c.new-all.result.items c.new-all.ensures.items

pub loop-rec-preserved : goal.loop-rec-preserved
loop-rec-preserved c =
    subst (λ (xs : List Loads). AreFirstLoads c.args.recs.now (c.loop-rec.rec-index + 1) xs) (sym c.in_ok-push.ensures.items)
    (one_more c.args.recs.now c.loop-rec.rec-index c.loop-rec.all.items c.rec-item.result c.in_ok-loads.loads (item_there c.args.recs.now c.loop-rec.rec-index c.rec-item.result c.rec-item.is (omega arith)) c.in_ok-loads.ensures c.loop-rec.invariant)
