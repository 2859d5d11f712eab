use Rattle.merge_laws.proofs.lemmas.merged_loads.Whole.{data_law}
use Rattle.merge_laws.proofs.merged_loads.laws.field_data_stays.Goals as goal

pub returns : goal.returns
returns c = data_law c.file_has_record.ensures
