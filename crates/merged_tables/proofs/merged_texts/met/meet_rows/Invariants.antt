use Rattle.std.proofs.Common.{◌≡◌, drop}
use Rattle.rules.specs.merge_rules.Moved.{texts_of_method}
use Rattle.merged_tables.specs.merged_texts.Texts.{texts_in, gathered, ArePlaces}
use Rattle.merged_tables.proofs.merged_texts.met.meet_rows.Given as goal

abbrev pub invariant-loop-at : goal.invariant-loop-at
invariant-loop-at l = record {
  texts : gathered (texts_of_method l.recs) (texts_in l.places) (drop l.at-index l.methods) ≡ gathered (texts_of_method l.recs) (texts_in l.initial.places) l.methods;
  places : ArePlaces l.places;
}
