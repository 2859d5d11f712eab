use Rattle.merge_plan.proofs.lemmas.moved_parts.Telling.{all_tell}
use Rattle.merge_plan.proofs.moved_parts.laws.moves_tell.Goals as goal

pub returns : goal.returns
returns c = λ o a rec t are. all_tell o a rec t are
