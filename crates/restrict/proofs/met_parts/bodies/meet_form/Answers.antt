use Rattle.std.proofs.Common.{◌++◌, List, ap, ◌∙◌}
use Rattle.rules.specs.merge_rules.Order.{Met}
use Rattle.token_keys.specs.Keys.{recs_of, place_of, rec_of}
use Rattle.mark_parts.specs.declared.forms.Names.{Names}
use Rattle.restrict.specs.met_parts.Forms.{met_by_names}
use Rattle.restrict.proofs.lemmas.met_parts.FormCases.{by_forms}
use Rattle.restrict.proofs.met_parts.bodies.meet_form.Goals as goal

pub returns : goal.returns
returns c =
    let k = c.args.keys.now in
    c.in_ok-meet_named.ensures
    ∙ ap (λ (xs : List Met). c.args.mets.now ++ xs)
    (ap (λ (n : Names). met_by_names (recs_of k) (place_of k) (rec_of k) n c.args.token) c.names_of-names.ensures ∙ by_forms (recs_of k) (place_of k) (rec_of k) c.args.token c.args.form)
