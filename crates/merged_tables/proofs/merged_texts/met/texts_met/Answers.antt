use Rattle.std.proofs.Common.{ℕ, List, [], ap, ◌∙◌}
use Rattle.rules.specs.merge_rules.Moved.{texts_of_method}
use Rattle.merged_tables.specs.merged_texts.Texts.{gathered}
use Rattle.merged_tables.proofs.lemmas.merged_texts.Gathering.{gathered_is}
use Rattle.merged_tables.proofs.merged_texts.met.texts_met.Goals as goal

pub returns-clause-texts : goal.returns-clause-texts
returns-clause-texts c =
    c.in_ok-meet_rows.ensures.texts ∙ ap (λ (texts : List (List ℕ)). gathered (texts_of_method c.args.recs.now) texts c.args.methods.now) c.new-places.ensures.none
    ∙ gathered_is (texts_of_method c.args.recs.now) [] c.args.methods.now
