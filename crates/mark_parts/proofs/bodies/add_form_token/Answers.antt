use Rattle.std.proofs.Common.{◌++◌, List, ap, ◌∙◌}
use Rattle.rules.specs.mark_rules.Naming.{Part}
use Rattle.mark_parts.specs.mark_tables.Assemblies.{recs_of, place_of, rec_of}
use Rattle.mark_parts.specs.declared.forms.Names.{Names}
use Rattle.mark_parts.specs.Forms.{parts_by}
use Rattle.mark_parts.proofs.FormCases.{by_forms}
use Rattle.mark_parts.proofs.bodies.add_form_token.Goals as goal

pub returns : goal.returns
returns c =
    let asm = c.args.asm.now in
    c.in_ok-add_token.ensures
    ∙ ap (λ (xs : List Part). c.args.parts.now ++ xs)
    (ap (λ (n : Names). parts_by (recs_of asm) (place_of asm) (rec_of asm) c.args.row c.args.at n c.args.token) c.names_of-names.ensures
    ∙ by_forms (recs_of asm) (place_of asm) (rec_of asm) c.args.row c.args.at c.args.token c.args.form)
