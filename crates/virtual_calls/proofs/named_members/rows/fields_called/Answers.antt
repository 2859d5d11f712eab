use Rattle.type_tables.proofs.lemmas.member_search.Places.{places_in_order}
use Rattle.type_tables.specs.member_search.Names.{is_field_named}
use Rattle.virtual_calls.proofs.lemmas.named_members.RunRows.{run_rows}
use Rattle.virtual_calls.proofs.named_members.rows.fields_called.Goals as goal

pub in_run-requires : goal.in_run-requires
in_run-requires c = rw (c.rows_at-rows.ensures, c.requires.fields c.args.name.now) (places_in_order (is_field_named c.args.name.now) c.args.rec.now.field 0)

pub returns : goal.returns
returns c =
    let rec = c.args.rec.now in
    let row = c.args.row.now in
    run_rows (is_field_named c.args.name.now) rec.field c.rows_at-rows.result.now (rw c.rows_at-rows.ensures (c.requires.fields c.args.name.now)) c.args.at.asm
    (record { first = row.field_list_first; end = row.field_list_end }) c.in_ok-found.found.items c.in_ok-found.ensures
