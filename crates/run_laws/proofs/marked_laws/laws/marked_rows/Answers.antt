use Rattle.run_laws.proofs.lemmas.marked_laws.Joined.{rows_kept}
use Rattle.run_laws.proofs.marked_laws.laws.marked_rows.Goals as goal

pub returns : goal.returns
returns c = rows_kept
