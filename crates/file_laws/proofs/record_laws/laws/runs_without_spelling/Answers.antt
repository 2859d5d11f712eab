use Rattle.file_laws.proofs.lemmas.record_laws.Runs.{without_spelling}
use Rattle.file_laws.proofs.record_laws.laws.runs_without_spelling.Goals as goal

pub returns : goal.returns
returns g c = λ count first end rows runs few. without_spelling count first end rows runs few
