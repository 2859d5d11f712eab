use Rattle.run_laws.proofs.lemmas.marked_laws.Impls.{all_impls_kept}
use Rattle.run_laws.proofs.marked_laws.laws.marked_impls.Goals as goal

pub returns : goal.returns
returns c = all_impls_kept
