use Rattle.mark_numbers.proofs.Telling.{all_facts, all_numbers}
use Rattle.mark_numbers.proofs.laws.numbers_told.Goals as goal

pub returns-clause-facts : goal.returns-clause-facts
returns-clause-facts c = all_facts c.homes_told.ensures.kinds c.homes_told.ensures.items c.homes_told.ensures.listed

pub returns-clause-numbers : goal.returns-clause-numbers
returns-clause-numbers c = all_numbers c.homes_told.ensures.kinds c.homes_told.ensures.items c.homes_told.ensures.listed
