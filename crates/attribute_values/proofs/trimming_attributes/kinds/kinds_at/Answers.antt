use Rattle.std.proofs.Common.{ℕ, List, ap, ◌∙◌}
use Rattle.std.specs.List.{flat_map}
use Rattle.rules.specs.link_rules.Cycles.{listed}
use Rattle.rules.specs.mark_rules.Attributes.{head_of}
use Rattle.rules.specs.mark_rules.Annotations.{or_zero}
use Rattle.attribute_values.specs.attribute_kinds.Sites.{recs_in, place_in, rec_in}
use Rattle.attribute_values.specs.trimming_attributes.Kinds.{kinds_in, annotation_at}
use Rattle.attribute_values.proofs.lemmas.trimming_attributes.Grouping.{first_annotation}
use Rattle.attribute_values.proofs.trimming_attributes.kinds.kinds_at.Goals as goal

pub returns : goal.returns
returns c =
    let site = c.args.reader.now.site in
    c.in_ok-n.ensures
    ∙ ap (λ (ks : List ℕ). or_zero (flat_map (kinds_in (recs_in site) (place_in site) (rec_in site)) (listed (head_of (flat_map (annotation_at (rec_in site)) ks))))) c.rows_of_token-rows.ensures
    ∙ first_annotation (rec_in site) c.args.token (recs_in site) (place_in site)
