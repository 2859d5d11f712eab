use Rattle.marking.proofs.lemmas.marking_rules.Bringing.{lists_bring, joined_more}
use Rattle.marking.proofs.marking_rules.laws.lists_bring.Goals as goal

pub returns-clause-bring : goal.returns-clause-bring
returns-clause-bring c = lists_bring c.tries_enough.ensures

pub returns-clause-more : goal.returns-clause-more
returns-clause-more c = joined_more c.tries_enough.ensures
