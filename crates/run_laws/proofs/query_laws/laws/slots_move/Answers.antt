use Rattle.run_laws.proofs.lemmas.query_laws.Slots.{slot_moved}
use Rattle.run_laws.proofs.query_laws.laws.slots_move.Goals as goal

pub returns : goal.returns
returns c k kept p after before r keeps later earlier whole_after whole_before at h = slot_moved k kept p after before r keeps later earlier whole_after whole_before at h
