use Rattle.merge_laws.proofs.lemmas.merged_loads.Read.{are_read}
use Rattle.merge_laws.proofs.merged_loads.laws.parts_are_read.Goals as goal

pub returns : goal.returns
returns c = are_read
