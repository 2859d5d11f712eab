use Rattle.mark_numbers.proofs.lemmas.mark_laws.Marking.{stays_below, is_monotone, marks_found}
use Rattle.mark_numbers.proofs.mark_laws.laws.marks_told.Goals as goal

pub returns-clause-below : goal.returns-clause-below
returns-clause-below c = stays_below c.numbers_told.ensures.facts

pub returns-clause-monotone : goal.returns-clause-monotone
returns-clause-monotone c = is_monotone

pub returns-clause-marks : goal.returns-clause-marks
returns-clause-marks c = marks_found c.numbers_told.ensures.facts c.numbers_told.ensures.numbers
