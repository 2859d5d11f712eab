use Rattle.run_laws.proofs.lemmas.subtype_laws.Choices.{all_choices_moved}
use Rattle.run_laws.proofs.subtype_laws.laws.choices_move.Goals as goal

pub returns : goal.returns
returns c = all_choices_moved
