use Rattle.merge_plan.proofs.lemmas.method_places.Modulo.{all_modulo}
use Rattle.merge_plan.proofs.method_places.laws.modulo_tells.Goals as goal

pub returns : goal.returns
returns c = λ o n. all_modulo o n
