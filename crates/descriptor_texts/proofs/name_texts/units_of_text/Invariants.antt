use Rattle.descriptor_texts.specs.name_texts.Spelling.{Spell}
use Rattle.descriptor_texts.proofs.name_texts.units_of_text.Given as goal

abbrev pub invariant-loop-c : goal.invariant-loop-c
invariant-loop-c l = Spell l.units l.yielded
