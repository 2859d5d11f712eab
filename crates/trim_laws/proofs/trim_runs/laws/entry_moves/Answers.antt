use Rattle.trim_laws.proofs.lemmas.trim_runs.Entry.{entry_moves as move}
use Rattle.trim_laws.proofs.trim_runs.laws.entry_moves.Goals as goal

pub returns : goal.returns
returns c = move
