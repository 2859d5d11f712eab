use Rattle.std.proofs.Common.{◌++◌, List, ap, ◌∙◌}
use Rattle.rules.specs.mark_rules.BadItems.{Flaw}
use Rattle.mark_parts.specs.mark_tables.Assemblies.{rec_of}
use Rattle.bad_items.proofs.lemmas.mark_flaws.Rowing.{variance_grouped}
use Rattle.bad_items.proofs.mark_flaws.generics.add_variance.Goals as goal

pub returns : goal.returns
returns c =
    c.in_ok-add_variants.ensures
    ∙ ap (λ (fs : List Flaw). c.args.flaws.now ++ fs) (variance_grouped c.args.at (rec_of c.args.asm.now) c.args.owner c.args.asm.now.owners.now.params c.requires.owners.params c.rows_with-ks.result.now c.rows_with-ks.ensures)
