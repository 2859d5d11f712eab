use Rattle.trim_laws.proofs.lemmas.added_names.Readings.{signatures_read as read}
use Rattle.trim_laws.proofs.added_names.laws.signatures_read.Goals as goal

pub returns : goal.returns
returns c = read
