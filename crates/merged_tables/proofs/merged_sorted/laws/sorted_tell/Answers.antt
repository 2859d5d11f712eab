use Rattle.merged_tables.proofs.lemmas.merged_sorted.Telling.{all_tell}
use Rattle.merged_tables.proofs.merged_sorted.laws.sorted_tell.Goals as goal

pub returns : goal.returns
returns c = λ o tokens t have are. all_tell o tokens have t are
