-- The law of metadata.
use Rattle.file_laws.proofs.lemmas.written_image.Metadata.{metadata_law}
use Rattle.file_laws.proofs.written_image.laws.metadata.Goals as goal

pub returns : goal.returns
returns c = metadata_law
