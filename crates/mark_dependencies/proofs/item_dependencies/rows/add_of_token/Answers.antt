use Rattle.std.proofs.Common.{ℕ, ◌++◌, [], List, ap, ◌∙◌}
use Rattle.std.specs.Prelude.{slice_get}
use Rattle.std.specs.List.{flat_map}
use Rattle.std.specs.Option.{option_map_or}
use Rattle.rules.specs.mark_rules.Annotations.{Dependency}
use Rattle.attribute_values.specs.attribute_kinds.Sites.{recs_in, place_in, rec_in}
use Rattle.mark_dependencies.specs.item_dependencies.Rows.{if_called}
use Rattle.mark_dependencies.proofs.lemmas.item_dependencies.Grouping.{token_rows}
use Rattle.mark_dependencies.proofs.item_dependencies.rows.add_of_token.Goals as goal

pub returns : goal.returns
returns c =
    let site = c.args.reader.now.site in
    c.in_ok-add_each.ensures
    ∙ ap (λ (ds : List Dependency). c.args.found.now ++ ds)
    (ap (flat_map (λ (k : ℕ). option_map_or (if_called (recs_in site) (place_in site) (rec_in site)) (slice_get (rec_in site).custom_attribute k) [])) c.rows_of_token-rows.ensures
    ∙ token_rows (recs_in site) (place_in site) (rec_in site) c.args.token)
