use Rattle.merged_tables.proofs.lemmas.merged_types.Telling.{all_tell}
use Rattle.merged_tables.proofs.merged_types.laws.types_tell.Goals as goal

pub returns : goal.returns
returns c = λ o tokens plan k have is are. all_tell o tokens plan k have is are
