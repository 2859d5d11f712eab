use Rattle.trim_laws.proofs.lemmas.added_names.Readings.{tokens_read as read}
use Rattle.trim_laws.proofs.added_names.laws.tokens_read.Goals as goal

pub returns : goal.returns
returns c = read
