use Rattle.merged_tables.proofs.lemmas.merged_members.Telling.{all_tell}
use Rattle.merged_tables.proofs.merged_members.laws.members_tell.Goals as goal

pub returns : goal.returns
returns c = λ o tokens have. all_tell o tokens have
