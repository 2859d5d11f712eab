use Rattle.rules.specs.type_rules.Slots.{is_virtual}
use Rattle.run_laws.proofs.lemmas.query_laws.Slots.{nearest_match}
use Rattle.run_laws.proofs.query_laws.laws.matches_move.Goals as goal

pub returns : goal.returns
returns c k kept p after before r keeps name wanted es h g = nearest_match k kept p after before r keeps is_virtual (λ m' m s. s.virtual) name wanted es h g
