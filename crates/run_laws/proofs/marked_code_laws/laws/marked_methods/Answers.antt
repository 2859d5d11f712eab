use Rattle.run_laws.proofs.lemmas.marked_code_laws.Methods.{methods_kept}
use Rattle.run_laws.proofs.marked_code_laws.laws.marked_methods.Goals as goal

pub returns : goal.returns
returns c = methods_kept
