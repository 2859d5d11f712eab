use Rattle.std.proofs.Common.{◌++◌, List, ap, ◌∙◌}
use Rattle.rules.specs.mark_rules.BadItems.{Flaw}
use Rattle.bad_items.proofs.lemmas.mark_flaws.Rowing.{data_grouped}
use Rattle.bad_items.proofs.mark_flaws.fields.add_field_data.Goals as goal

pub returns : goal.returns
returns c =
    c.in_ok-add_all_data.ensures
    ∙ ap (λ (fs : List Flaw). c.args.flaws.now ++ fs) (data_grouped c.args.at c.args.rec.now c.args.token c.args.rvas.now c.requires c.rows_with-ks.result.now c.rows_with-ks.ensures)
