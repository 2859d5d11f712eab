use Rattle.std.proofs.Common.{◌++◌, List, ap, ◌∙◌}
use Rattle.rules.specs.mark_rules.Facts.{Fact}
use Rattle.mark_parts.specs.mark_tables.Assemblies.{recs_of, place_of, rec_of}
use Rattle.mark_items.specs.declared.mark_needs.forms.Shows.{Shows}
use Rattle.mark_items.specs.mark_needs.Forms.{made_as}
use Rattle.mark_items.proofs.lemmas.mark_needs.FormCases.{made_by_forms}
use Rattle.mark_items.proofs.mark_needs.code.make_by.Goals as goal

pub returns : goal.returns
returns c =
    let asm = c.args.asm.now in
    c.in_ok-make_as.ensures
    ∙ ap (λ (fs : List Fact). c.args.facts.now ++ fs)
    (ap (λ (s : Shows). made_as (recs_of asm) (place_of asm) (rec_of asm) s c.args.token) c.shows_of-shows.ensures
    ∙ made_by_forms (recs_of asm) (place_of asm) (rec_of asm) c.args.token c.args.form)
