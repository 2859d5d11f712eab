-- The law of lengths.
use Rattle.file_laws.proofs.lemmas.written_image.Sizes.{image_size}
use Rattle.file_laws.proofs.written_image.laws.lengths.Goals as goal

pub returns : goal.returns
returns c = image_size
