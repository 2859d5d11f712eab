use Rattle.run_laws.proofs.lemmas.closed_laws.Readings.{all_read}
use Rattle.run_laws.proofs.closed_laws.laws.marked_reads.Goals as goal

pub returns : goal.returns
returns c = all_read
