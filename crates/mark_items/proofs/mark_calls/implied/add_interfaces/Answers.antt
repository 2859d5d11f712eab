use Rattle.std.proofs.Common.{◌++◌, List, sym, ap, ◌∙◌}
use Rattle.std.proofs.lemmas.List.{append-nil}
use Rattle.rules.specs.declared.link_rules.row_at.RowAt.{RowAt}
use Rattle.mark_parts.specs.mark_tables.Assemblies.{all_of, recs_of, place_of, rec_of}
use Rattle.mark_items.proofs.lemmas.mark_calls.Rowing.{no_interfaces, interfaces_grouped}
use Rattle.mark_items.proofs.mark_calls.implied.add_interfaces.Goals as goal

pub returns-in_default : goal.returns-in_default
returns-in_default c =
    sym (ap (λ (rs : List RowAt). c.args.rows.now.items ++ rs) (no_interfaces (all_of c.args.marker.now) c.args.at (sym c.in_default.ensures.there)) ∙ append-nil c.args.rows.now.items)

pub returns : goal.returns
returns c =
    let asm = c.in-Some.asm in
    c.in_ok-add_rows.ensures
    ∙ ap (λ (rs : List RowAt). c.args.rows.now.items ++ rs)
    (interfaces_grouped (all_of c.args.marker.now) c.args.at (rec_of asm) (sym c.in-Some.ensures.there) asm.of_types.now.interfaces c.in-Some.ensures.is.is.of_types.interfaces (recs_of asm) c.in-Some.ensures.is.recs (place_of asm)
    c.in-Some.ensures.is.place c.in_ok-token.token c.in_ok-token.ensures c.rows_with-ks.result.now c.rows_with-ks.ensures)
