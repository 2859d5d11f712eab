use Rattle.merged_tables.proofs.lemmas.merged_rows.Telling.{all_tell}
use Rattle.merged_tables.proofs.merged_rows.laws.rows_tell.Goals as goal

pub returns : goal.returns
returns c = λ o k are. all_tell o k are
