use Rattle.std.proofs.Common.{◌∙◌}
use Rattle.merged_tables.specs.merged_texts.Texts.{texts_in}
use Rattle.restrict.proofs.rows.rows_of_texts.Goals as goal

pub returns : goal.returns
returns c = λ o met. c.in_ok-user.ensures ∙ (c.texts_tell.ensures o (texts_in c.args.texts.now) met).user
