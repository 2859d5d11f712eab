use Rattle.std.proofs.Common.{◌-◌, ◌∙◌}
use Rattle.type_tables.specs.member_search.Wanted.{run_in, rows_named}
use Rattle.type_tables.proofs.lemmas.member_search.Running.{GoesOver, all_behind, rows_in_order, member_found}
use Rattle.type_tables.proofs.member_search.members.member_in.Goals as goal

pub first_from-from-requires : goal.first_from-from-requires
first_from-from-requires c = rw c.rows_named-rows.ensures (rows_in_order c.args.scope.now.rec.now c.args.names.now c.args.wanted.now c.args.name.now c.requires.names)

pub returns : goal.returns
returns c =
    let scope = c.args.scope.now in
    let over : GoesOver c.rows_named-rows.result.now c.saturating_sub-start.result c.first_from-from.result =
    record { within = c.first_from-from.ensures.within; before = c.first_from-from.ensures.before; behind = c.first_from-from.ensures.behind } in
    let from : GoesOver (rows_named c.args.wanted.now c.args.names.now c.args.name.now) ((run_in c.args.wanted.now c.args.row.now).first - 1) c.first_from-from.result =
    rw (c.rows_named-rows.ensures, c.saturating_sub-start.ensures, c.run_in-run.ensures) at over in
    (rw (c.saturating_sub-start.ensures, c.saturating_sub.ensures, c.rows_named-rows.ensures, c.run_in-run.ensures, all_behind c.first_from-from.result (rows_named c.args.wanted.now c.args.names.now c.args.name.now)) at c.in_ok-k.ensures)
    ∙ member_found scope.linked.all.now scope.asm scope.rec.now c.args.names.now c.requires.names c.args.targs.now c.args.name.now c.args.row.now c.args.wanted.now c.first_from-from.result from
