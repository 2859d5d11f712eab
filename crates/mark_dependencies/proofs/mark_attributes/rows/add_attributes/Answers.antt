use Rattle.std.proofs.Common.{ℕ, ◌++◌, [], List, ap, ◌∙◌}
use Rattle.std.specs.Prelude.{slice_get}
use Rattle.std.specs.List.{flat_map}
use Rattle.std.specs.Option.{option_map_or}
use Rattle.rules.specs.mark_rules.Facts.{Fact}
use Rattle.rules.specs.mark_rules.Attributes.{tokens_in, attribute_facts}
use Rattle.attribute_values.specs.attribute_kinds.Sites.{recs_in, place_in, rec_in}
use Rattle.attribute_values.proofs.lemmas.attribute_rows.Among.{item_rows}
use Rattle.mark_dependencies.proofs.mark_attributes.rows.add_attributes.Goals as goal

pub returns : goal.returns
returns c =
    let site = c.args.reader.now.site in
    let f = attribute_facts (recs_in site) (place_in site) (rec_in site) in
    c.in_ok-add_attributes_at.ensures
    ∙ ap (λ (fs : List Fact). c.args.facts.now ++ fs)
    (ap (flat_map (λ (k : ℕ). option_map_or f (slice_get (rec_in site).custom_attribute k) [])) (c.as_slice.ensures.value ∙ c.in_ok-rows.ensures)
    ∙ item_rows (rec_in site) (tokens_in c.args.item c.args.row (rec_in site)) f)
