use Rattle.run_laws.proofs.lemmas.dispatch_laws.Classes.{class_moved}
use Rattle.run_laws.proofs.dispatch_laws.laws.class_runs_move.Goals as goal

pub returns : goal.returns
returns c k kept p after before r keeps apart impls later earlier whole_after whole_before e slot m h kept_slot there g =
    class_moved k kept p after before r keeps apart impls later earlier whole_after whole_before slot kept_slot m there e h g
