use Rattle.std.proofs.Common.{map, ap, ◌∙◌}
use Rattle.rules.specs.merge_rules.Attributes.{kept_attributes}
use Rattle.restrict.specs.merged_attributes.Attributes.{row_by}
use Rattle.restrict.specs.Rows.{output_from}
use Rattle.restrict.proofs.rows.rows_of_attributes.Goals as goal

pub returns : goal.returns
returns c =
    let s = c.args.sources.now in
    let o = output_from s in
    c.in_ok-rows.ensures ∙ ap (map (row_by s.keys)) c.requires.attributes ∙ c.attributes_tell.ensures.rows o s.keys c.requires.sources.told (kept_attributes o.recs o.kept)
