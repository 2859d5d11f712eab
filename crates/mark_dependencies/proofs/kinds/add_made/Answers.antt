use Rattle.mark_dependencies.proofs.OfKinds.{made_none, made_some}
use Rattle.mark_dependencies.proofs.kinds.add_made.Goals as goal

pub returns-in-empty : goal.returns-in-empty
returns-in-empty c = made_none c.args.all.now c.args.t c.args.constructors.now c.args.facts.now c.in-empty.len_below

pub returns-in_ok-instantiate_row-in-len1-up : goal.returns-in_ok-instantiate_row-in-len1-up
returns-in_ok-instantiate_row-in-len1-up c = made_some c.args.all.now c.args.t c.args.constructors.now _ c.args.facts.now c.in-len1-up.len_at_least c.in_ok-instantiate_row-in-len1-up.ensures
