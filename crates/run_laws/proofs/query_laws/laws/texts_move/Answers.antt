use Rattle.run_laws.proofs.lemmas.query_laws.Texts.{text_moved, label_moved, space_moved}
use Rattle.run_laws.proofs.query_laws.laws.texts_move.Goals as goal

pub returns-clause-texts : goal.returns-clause-texts
returns-clause-texts c k kept p after before r keeps e h = text_moved k kept p after before r keeps e h

pub returns-clause-labels : goal.returns-clause-labels
returns-clause-labels c k kept p after before r keeps e h = label_moved k kept p after before r keeps e h

pub returns-clause-spaces : goal.returns-clause-spaces
returns-clause-spaces c k kept p after before r keeps e h = space_moved k kept p after before r keeps e h
