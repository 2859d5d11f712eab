use Rattle.std.proofs.Common.{ℕ, Option, map, sym, ap, ◌∙◌}
use Rattle.rules.specs.link_rules.Types.{at_row}
use Rattle.rules.specs.link_rules.Cycles.{listed}
use Rattle.mark_parts.specs.mark_tables.Assemblies.{all_of, rec_of}
use Rattle.mark_items.proofs.lemmas.mark_named.Setting.{setters_grouped}
use Rattle.mark_items.proofs.mark_named.setters.setter_of.Goals as goal

pub returns-in-Some-first_setter : goal.returns-in-Some-first_setter
returns-in-Some-first_setter c =
    let asm = c.in-Some.asm in
    ap (λ (o : Option ℕ). map (at_row c.args.p.asm) (listed o)) c.in-Some-first_setter.ensures
    ∙ setters_grouped (all_of c.args.marker.now) c.args.p (rec_of asm) (sym c.in-Some.ensures.there) asm.of_types.now.semantics c.in-Some.ensures.is.is.of_types.semantics
    c.in_ok-token.token c.in_ok-token.ensures c.rows_with-rows.result.now c.rows_with-rows.ensures

pub returns-in-None : goal.returns-in-None
returns-in-None c =
    let asm = c.in-Some.asm in
    ap (λ (o : Option ℕ). map (at_row c.args.p.asm) (listed o)) c.in-None.ensures
    ∙ setters_grouped (all_of c.args.marker.now) c.args.p (rec_of asm) (sym c.in-Some.ensures.there) asm.of_types.now.semantics c.in-Some.ensures.is.is.of_types.semantics
    c.in_ok-token.token c.in_ok-token.ensures c.rows_with-rows.result.now c.rows_with-rows.ensures
