use Rattle.std.proofs.Common.{sym, ◌∙◌}
use Rattle.virtual_calls.proofs.lemmas.named_members.AccessorRows.{accessors_found}
use Rattle.virtual_calls.specs.named_members.Accessors.{table_of}
use Rattle.virtual_calls.proofs.named_members.accessors.accessors.Goals as goal

pub returns : goal.returns
returns c =
    let recs = c.args.tables.now.world.now.recs in
    let rows = c.in-Some.rows in
    (rw (c.rows_with-semantics.ensures, c.in_ok-token.ensures, c.table_of.ensures) at c.in_ok-found.ensures)
    ∙ accessors_found recs rows.scope.rec.now rows.tables.now c.in-Some.ensures.are.tables (table_of c.args.mapped) c.args.at (sym c.in-Some.ensures.there)
