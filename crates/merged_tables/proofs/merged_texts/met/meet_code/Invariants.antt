use Rattle.std.proofs.Common.{◌≡◌, drop}
use Rattle.merged_tables.specs.merged_texts.Texts.{texts_in, gathered, loaded, ArePlaces}
use Rattle.merged_tables.proofs.merged_texts.met.meet_code.Given as goal

abbrev pub invariant-loop-instr : goal.invariant-loop-instr
invariant-loop-instr l = record {
  texts : gathered (loaded l.rec) (texts_in l.places) (drop l.instr-index l.code) ≡ gathered (loaded l.rec) (texts_in l.initial.places) l.code;
  places : ArePlaces l.places;
}
