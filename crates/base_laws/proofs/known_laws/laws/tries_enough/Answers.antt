use Rattle.base_laws.proofs.lemmas.known_laws.Together.{tries_enough}
use Rattle.base_laws.proofs.known_laws.laws.tries_enough.Goals as goal

pub returns : goal.returns
returns c = tries_enough
