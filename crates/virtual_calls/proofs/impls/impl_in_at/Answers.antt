use Rattle.std.proofs.Common.{sym}
use Rattle.virtual_calls.specs.Impls.{declares_by}
use Rattle.virtual_calls.proofs.Impling.{impls_found}
use Rattle.virtual_calls.proofs.impls.impl_in_at.Goals as goal

pub returns : goal.returns
returns c =
    let recs = c.args.tables.now.world.now.recs in
    impls_found recs c.args.ty.now (declares_by recs c.args.declares.now) c.args.at c.in-Some.of.scope.rec.now (sym c.in-Some.ensures.there) c.in-Some-get._row.now c.in-Some.of.tables.now.impls
    c.in_ok-token.token c.rows_with-rows.result.now c.in_ok-body.body (sym c.in-Some-get.ensures.value) c.in-Some.ensures.are.tables.impls c.in_ok-token.ensures c.rows_with-rows.ensures
    c.in_ok-body.ensures
