use Rattle.file_laws.proofs.record_laws.laws.file_has_record.Goals as goal
use Rattle.file_laws.proofs.lemmas.record_laws.Record.{has_is_record}

pub returns : goal.returns
returns c = has_is_record
