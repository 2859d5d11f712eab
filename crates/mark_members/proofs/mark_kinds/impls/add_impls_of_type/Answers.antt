use Rattle.std.proofs.Common.{◌++◌, List, sym, ap, ◌∙◌}
use Rattle.std.proofs.lemmas.List.{append-nil}
use Rattle.rules.specs.declared.link_rules.row_at.RowAt.{RowAt}
use Rattle.mark_parts.specs.mark_tables.Assemblies.{all_of, rec_of}
use Rattle.mark_members.proofs.lemmas.mark_kinds.Impling.{no_impls, impls_grouped}
use Rattle.mark_members.proofs.mark_kinds.impls.add_impls_of_type.Goals as goal

pub returns-in_default : goal.returns-in_default
returns-in_default c =
    sym (ap (λ (xs : List RowAt). c.args.found.now.items ++ xs) (no_impls (all_of c.args.marker.now) c.args.at (sym c.in_default.ensures.there)) ∙ append-nil c.args.found.now.items)

pub returns : goal.returns
returns c =
    let asm = c.in-Some.asm in
    c.in_ok-add_impls.ensures
    ∙ ap (λ (xs : List RowAt). c.args.found.now.items ++ xs)
    (impls_grouped (all_of c.args.marker.now) c.args.at (rec_of asm) (sym c.in-Some.ensures.there) asm.of_types.now.interfaces c.in-Some.ensures.is.is.of_types.interfaces
    c.in_ok-token.token c.in_ok-token.ensures c.rows_with-rows.result.now c.rows_with-rows.ensures)
