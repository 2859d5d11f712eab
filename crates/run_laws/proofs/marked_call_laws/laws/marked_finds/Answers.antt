use Rattle.run_laws.proofs.lemmas.marked_call_laws.Calls.{all_find}
use Rattle.run_laws.proofs.marked_call_laws.laws.marked_finds.Goals as goal

pub returns : goal.returns
returns c = all_find
