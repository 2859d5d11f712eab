use Rattle.std.proofs.Common.{◌∙◌}
use Rattle.attribute_values.specs.attribute_kinds.Sites.{rec_in}
use Rattle.site_kinds.proofs.lemmas.annotation_flags.Grouping.{rows_needed}
use Rattle.site_kinds.proofs.annotation_flags.unreferenced.needed_in.Goals as goal

pub returns : goal.returns
returns c = c.in_ok-is.ensures ∙ rows_needed (rec_in c.args.site.now) c.args.row c.in_ok-token.token c.rows_of_token-rows.result.now c.rows_of_token-rows.ensures c.in_ok-token.ensures
