use Rattle.merged_tables.proofs.lemmas.merged_impls.Telling.{all_tell}
use Rattle.merged_tables.proofs.merged_impls.laws.impls_tell.Goals as goal

pub returns : goal.returns
returns c = λ o tokens k have are. all_tell o tokens k have are
