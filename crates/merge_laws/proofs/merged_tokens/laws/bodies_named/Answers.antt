use Rattle.merge_laws.proofs.lemmas.merged_tokens.Bodies.{bodies_named as named}
use Rattle.merge_laws.proofs.merged_tokens.laws.bodies_named.Goals as goal

pub returns : goal.returns
returns c = named
