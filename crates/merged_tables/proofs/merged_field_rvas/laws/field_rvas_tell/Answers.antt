use Rattle.merged_tables.proofs.lemmas.merged_field_rvas.Telling.{rows_tell}
use Rattle.merged_tables.proofs.merged_field_rvas.laws.field_rvas_tell.Goals as goal

pub returns : goal.returns
returns c = λ o k are before. rows_tell o k are before
