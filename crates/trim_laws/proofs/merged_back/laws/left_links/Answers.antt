use Rattle.trim_laws.proofs.lemmas.merged_back.Whole.{links}
use Rattle.trim_laws.proofs.lemmas.merged_back.TypeKeys.{types_back}
use Rattle.trim_laws.proofs.merged_back.laws.left_links.Goals as goal

pub returns : goal.returns
returns c = λ m k kept is flags reads around. links m is k kept flags reads (types_back m is around)
