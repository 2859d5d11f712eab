use Rattle.file_laws.proofs.lemmas.written_tables.Once.{once_law}
use Rattle.file_laws.proofs.written_tables.laws.each_once.Goals as goal

pub returns : goal.returns
returns c = once_law
