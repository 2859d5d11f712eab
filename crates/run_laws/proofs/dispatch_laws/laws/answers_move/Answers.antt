use Rattle.run_laws.proofs.lemmas.dispatch_laws.Uses.{answers_moved}
use Rattle.run_laws.proofs.dispatch_laws.laws.answers_move.Goals as goal

pub returns : goal.returns
returns c k kept p after before r keeps apart impls later earlier whole_after whole_before e owner m h g runs =
    answers_moved k kept p after before r keeps apart impls later earlier whole_after whole_before e h owner m g runs
