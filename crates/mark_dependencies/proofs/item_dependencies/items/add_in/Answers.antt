use Rattle.std.proofs.Common.{sym, ap, ◌∙◌}
use Rattle.rules.specs.link_rules.Cycles.{listed}
use Rattle.rules.specs.mark_rules.Annotations.{dependent_token}
use Rattle.attribute_values.specs.attribute_kinds.Sites.{recs_in, place_in, rec_in}
use Rattle.mark_dependencies.proofs.lemmas.item_dependencies.Belonging.{one_token, no_token}
use Rattle.mark_dependencies.proofs.item_dependencies.items.add_in.Goals as goal

pub returns-in_ok-add_of_token-in-Some : goal.returns-in_ok-add_of_token-in-Some
returns-in_ok-add_of_token-in-Some c =
    let site = c.args.reader.now.site in
    one_token (recs_in site) (place_in site) (rec_in site) c.args.found.now _ c.in-Some.token (dependent_token c.args.item c.args.row) (ap listed (sym c.in-Some.is) ∙ c.in_ok-token.ensures) c.in_ok-add_of_token-in-Some.ensures

pub returns-in-None : goal.returns-in-None
returns-in-None c =
    let site = c.args.reader.now.site in
    no_token (recs_in site) (place_in site) (rec_in site) c.args.found.now (dependent_token c.args.item c.args.row) (ap listed (sym c.in-None.is) ∙ c.in_ok-token.ensures)
