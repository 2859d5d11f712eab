use Rattle.std.proofs.Common.{◌++◌, List, ap, ◌∙◌}
use Rattle.il_base.specs.declared.ids.MethodId.{MethodId}
use Rattle.rules.specs.mark_rules.Facts.{Fact}
use Rattle.mark_parts.specs.mark_tables.Assemblies.{all_of}
use Rattle.mark_items.proofs.lemmas.mark_calls.Declaring.{declared_grouped}
use Rattle.mark_items.proofs.mark_calls.declarations.add_rows.Goals as goal

pub returns : goal.returns
returns c =
    c.in_ok-add_among.ensures
    ∙ ap (λ (fs : List Fact). c.args.facts.now ++ fs)
    (declared_grouped (all_of c.args.marker.now) c.args.at c.args.asm c.args.rec.now c.requires.here c.args.rows.now c.requires.rows c.args.id.0 (ap (λ (m : MethodId). m.0) c.requires.id) c.rows_with-ks.result.now c.rows_with-ks.ensures)
