use Rattle.merge_laws.proofs.lemmas.merged_tokens.Together.{names_follow as follow}
use Rattle.merge_laws.proofs.merged_tokens.laws.names_follow.Goals as goal

pub returns : goal.returns
returns c = follow c.interfaces_named.ensures c.events_named.ensures c.constraints_named.ensures c.bodies_named.ensures c.declarations_named.ensures c.methods_named.ensures c.constructors_named.ensures
