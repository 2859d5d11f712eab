use Rattle.std.proofs.Common.{sym, ◌∙◌}
use Rattle.virtual_calls.proofs.lemmas.named_members.ImplRows.{impls_found}
use Rattle.virtual_calls.proofs.named_members.impls.has_impl_at.Goals as goal

pub returns : goal.returns
returns c =
    let rows = c.in-Some.of in
    (rw (c.rows_with-rows.ensures, c.in_ok-token.ensures) at c.in_ok-has.ensures)
    ∙ impls_found c.args.tables.now.world.now.recs c.args.ty.now c.args.body c.args.slot c.args.at rows.scope.rec.now (sym c.in-Some.ensures.there) rows.tables.now c.in-Some.ensures.are.tables
