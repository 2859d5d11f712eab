use Rattle.std.proofs.Common.{◌++◌, List, ap, ◌∙◌}
use Rattle.rules.specs.mark_rules.BadItems.{Flaw}
use Rattle.attribute_values.specs.attribute_kinds.Sites.{recs_in, place_in, rec_in}
use Rattle.bad_items.proofs.lemmas.attribute_flaws.Unread.{flaws_are}
use Rattle.bad_items.proofs.attribute_flaws.attributes.add_attribute_flaws.Goals as goal

pub returns : goal.returns
returns c =
    let site = c.args.reader.now.site in
    c.in_ok-add_rows_at.ensures
    ∙ ap (λ (fs : List Flaw). c.args.flaws.now ++ fs)
    (flaws_are (recs_in site) c.args.item c.args.at (rec_in site) (place_in site) c.as_slice.result.now c.requires.place (c.as_slice.ensures.value ∙ c.in_ok-rows.ensures))
