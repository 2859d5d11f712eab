use Rattle.std.proofs.Common.{sym, ◌∙◌}
use Rattle.type_tables.specs.member_search.Names.{AreNames}
use Rattle.type_tables.proofs.lemmas.member_search.Zips.{zip_as_long, zip_at}
use Rattle.virtual_calls.proofs.lemmas.named_members.KindRows.{named_of_row}
use Rattle.virtual_calls.proofs.named_members.rows.named_at.Goals as goal

pub bounds-rows-at : goal.bounds-rows-at
bounds-rows-at c =
    let linked = c.in-Some.rows.scope.linked in
    zip_as_long AreNames linked.all.now linked.names.now c.in-Some.ensures.are.scope.linked.names c.args.at.asm c.in-Some.rows.scope.rec.now (rw c.in-Some.ensures.are.asm at c.in-Some.ensures.are.scope.here)

pub named_in-requires-clause-names : goal.named_in-requires-clause-names
named_in-requires-clause-names c =
    let linked = c.in-Some.rows.scope.linked in
    zip_at AreNames linked.all.now linked.names.now c.in-Some.ensures.are.scope.linked.names c.args.at.asm c.in-Some.rows.scope.rec.now c.index-rows-at.result (rw c.in-Some.ensures.are.asm at c.in-Some.ensures.are.scope.here)

pub returns : goal.returns
returns c =
    c.in_ok-found.ensures
    ∙ sym (named_of_row c.args.tables.now.world.now.recs c.args.wanted.now c.args.kind c.args.at c.in-Some.rows.scope.rec.now c.in-Some-get.row.now (sym c.in-Some.ensures.there) (sym c.in-Some-get.ensures.value))
