use Rattle.trim_laws.proofs.lemmas.merged_code.Whole.{methods}
use Rattle.trim_laws.proofs.merged_code.laws.methods_move.Goals as goal

pub returns : goal.returns
returns c = λ m entry roots k kept is flags reads undone at stays. methods c.reference_rows_stand.ensures m entry roots k kept is flags reads undone at stays
