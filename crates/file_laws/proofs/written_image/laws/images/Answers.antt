-- The law of images.
use Rattle.file_laws.proofs.lemmas.written_image.Image.{image_law}
use Rattle.file_laws.proofs.written_image.laws.images.Goals as goal

pub returns : goal.returns
returns c = image_law
