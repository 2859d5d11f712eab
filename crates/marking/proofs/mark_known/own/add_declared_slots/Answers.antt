use Rattle.std.proofs.Common.{◌++◌, List, sym, ap, ◌∙◌}
use Rattle.std.proofs.lemmas.List.{append-nil}
use Rattle.rules.specs.declared.link_rules.row_at.RowAt.{RowAt}
use Rattle.mark_parts.specs.mark_tables.Assemblies.{all_of, rec_of}
use Rattle.marking.proofs.lemmas.mark_known.Rowing.{no_declared, declared_grouped}
use Rattle.marking.proofs.mark_known.own.add_declared_slots.Goals as goal

pub returns-in_default : goal.returns-in_default
returns-in_default c =
    sym (ap (λ (rs : List RowAt). c.args.found.now.items ++ rs) (no_declared (all_of c.args.marker.now) c.args.c (sym c.in_default.ensures.there)) ∙ append-nil c.args.found.now.items)

pub returns : goal.returns
returns c =
    let asm = c.in-Some.asm in
    c.in_ok-add_all_declared.ensures
    ∙ ap (λ (rs : List RowAt). c.args.found.now.items ++ rs)
    (declared_grouped (all_of c.args.marker.now) c.args.c (rec_of asm) (sym c.in-Some.ensures.there) asm.of_types.now.impls c.in-Some.ensures.is.is.of_types.impls c.in_ok-token.token c.in_ok-token.ensures
    c.rows_with-ks.result.now c.rows_with-ks.ensures)
