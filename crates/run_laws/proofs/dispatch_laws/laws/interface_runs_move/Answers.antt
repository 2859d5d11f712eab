use Rattle.run_laws.proofs.lemmas.dispatch_laws.Interfaces.{interface_moved}
use Rattle.run_laws.proofs.dispatch_laws.laws.interface_runs_move.Goals as goal

pub returns : goal.returns
returns c k kept p after before r keeps apart impls later earlier whole_after whole_before e instance slot m h kept_slot there chooses f g =
    interface_moved k kept p after before r keeps apart impls later earlier whole_after whole_before slot kept_slot m there e instance h chooses f g
