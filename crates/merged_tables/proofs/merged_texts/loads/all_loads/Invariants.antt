use Rattle.merged_tables.specs.merged_texts.Texts.{AreFirstLoads}
use Rattle.merged_tables.proofs.merged_texts.loads.all_loads.Given as goal

abbrev pub invariant-loop-rec : goal.invariant-loop-rec
invariant-loop-rec l = AreFirstLoads l.recs l.rec-index l.all.items
