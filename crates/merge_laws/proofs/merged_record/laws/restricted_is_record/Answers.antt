use Rattle.merge_laws.proofs.lemmas.merged_record.Whole.{restricted_is}
use Rattle.merge_laws.proofs.merged_record.laws.restricted_is_record.Goals as goal

pub returns : goal.returns
returns c = restricted_is
