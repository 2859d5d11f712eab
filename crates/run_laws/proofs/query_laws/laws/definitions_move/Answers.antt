use Rattle.run_laws.proofs.lemmas.query_laws.Lookups.{head_moved, method_moved, field_moved}
use Rattle.run_laws.proofs.query_laws.laws.definitions_move.Goals as goal

pub returns-clause-heads : goal.returns-clause-heads
returns-clause-heads c k kept p after before r keeps t h = head_moved k kept p after before r t h

pub returns-clause-methods : goal.returns-clause-methods
returns-clause-methods c k kept p after before r keeps m h = method_moved k kept p after before r m h

pub returns-clause-fields : goal.returns-clause-fields
returns-clause-fields c k kept p after before r keeps f h = field_moved k kept p after before r f h
