use Rattle.trim_laws.proofs.lemmas.trim_behaves.Few.{few_rows}
use Rattle.trim_laws.proofs.trim_behaves.laws.files_are_few.Goals as goal

pub returns : goal.returns
returns c = few_rows
