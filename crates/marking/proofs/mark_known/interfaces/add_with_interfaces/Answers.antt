use Rattle.std.proofs.Common.{◌++◌, List, sym, ap, ◌∙◌}
use Rattle.std.proofs.lemmas.List.{append-nil}
use Rattle.rules.specs.mark_rules.Facts.{Fact}
use Rattle.mark_parts.specs.mark_tables.Assemblies.{place_of, rec_of}
use Rattle.marking.specs.mark_known.Facts.{recs_in, knows}
use Rattle.marking.proofs.lemmas.mark_known.Rowing.{no_interfaces, interfaces_grouped}
use Rattle.marking.proofs.mark_known.interfaces.add_with_interfaces.Goals as goal

pub returns-in_default : goal.returns-in_default
returns-in_default c =
    sym (ap (λ (fs : List Fact). c.args.facts.now ++ fs) (no_interfaces (recs_in c.args.k.now) c.args.t (knows c.args.k.now) (sym c.in_default.ensures.there)) ∙ append-nil c.args.facts.now)

pub returns : goal.returns
returns c =
    let asm = c.in-Some.asm in
    c.in_ok-mark_rows.ensures
    ∙ ap (λ (fs : List Fact). c.args.facts.now ++ fs)
    (interfaces_grouped (recs_in c.args.k.now) c.args.t (rec_of asm) (sym c.in-Some.ensures.there) asm.of_types.now.interfaces c.in-Some.ensures.is.is.of_types.interfaces c.in_ok-token.token c.in_ok-token.ensures
    c.rows_with-ns.result.now c.rows_with-ns.ensures (knows c.args.k.now) (place_of asm) c.in-Some.ensures.is.place)
