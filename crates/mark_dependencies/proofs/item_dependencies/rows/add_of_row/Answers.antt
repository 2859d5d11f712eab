use Rattle.std.proofs.Common.{◌∙◌}
use Rattle.mark_dependencies.proofs.lemmas.item_dependencies.Belonging.{one_put, none_put}
use Rattle.mark_dependencies.proofs.item_dependencies.rows.add_of_row.Goals as goal

pub returns-in_ok-push-in-Some : goal.returns-in_ok-push-in-Some
returns-in_ok-push-in-Some c = c.in_ok-push-in-Some.ensures ∙ one_put c.args.found.now _ c.in-Some.d c.in_ok-named.named c.in-Some.is c.in_ok-named.ensures

pub returns-in-None : goal.returns-in-None
returns-in-None c = none_put c.args.found.now _ c.in_ok-named.named c.in-None.is c.in_ok-named.ensures
