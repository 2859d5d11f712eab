use Rattle.base_laws.proofs.lemmas.walk_laws.Answering.{all_answered, all_owned}
use Rattle.base_laws.proofs.walk_laws.laws.class_dispatch_answers.Goals as goal

pub returns-clause-answers : goal.returns-clause-answers
returns-clause-answers c = all_answered

pub returns-clause-owned : goal.returns-clause-owned
returns-clause-owned c = all_owned
