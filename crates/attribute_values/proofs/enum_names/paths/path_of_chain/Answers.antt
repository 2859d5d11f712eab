use Rattle.attribute_values.proofs.lemmas.enum_names.Climbing.{one_out, none_left}
use Rattle.attribute_values.proofs.enum_names.paths.path_of_chain.Goals as goal

pub returns-in-None : goal.returns-in-None
returns-in-None c = none_left _ _ _ c.in-None.ensures.0 c.loop-path.invariant

pub loop-path-preserved : goal.loop-path-preserved
loop-path-preserved c = one_out _ _ _ _ _ _ c.in-Some.ensures c.in_ok-push-in-Some.ensures.ok c.loop-path.invariant
