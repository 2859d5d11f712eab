use Rattle.file_laws.proofs.lemmas.record_laws.Spelled.{file_spelled}
use Rattle.file_laws.proofs.record_laws.laws.runs_with_spelling.Goals as goal

pub returns : goal.returns
returns c = file_spelled
