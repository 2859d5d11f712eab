use Rattle.std.proofs.Common.{◌++◌, List, map, ap, ◌∙◌}
use Rattle.il_base.specs.declared.ids.TypeId.{TypeId}
use Rattle.rules.specs.mark_rules.Facts.Fact.{shown}
use Rattle.mark_parts.specs.mark_tables.Assemblies.{recs_of, place_of, rec_of}
use Rattle.mark_items.specs.declared.mark_needs.forms.Shows.{Shows}
use Rattle.mark_items.specs.mark_needs.Forms.{shown_as}
use Rattle.mark_items.proofs.lemmas.mark_needs.FormCases.{shown_by_forms}
use Rattle.mark_items.proofs.mark_needs.code.show_by.Goals as goal

pub returns : goal.returns
returns c =
    let asm = c.args.asm.now in
    c.in_ok-show_as.ensures
    ∙ ap (λ (ts : List TypeId). c.args.facts.now ++ map shown ts)
    (ap (λ (s : Shows). shown_as (recs_of asm) (place_of asm) (rec_of asm) c.args.code s c.args.token) c.shows_of-shows.ensures
    ∙ shown_by_forms (recs_of asm) (place_of asm) (rec_of asm) c.args.code c.args.token c.args.form)
