use Rattle.std.proofs.Common.{ℕ, [], ap, ◌∙◌}
use Rattle.std.specs.Prelude.{slice_get}
use Rattle.std.specs.List.{flat_map}
use Rattle.std.specs.Option.{option_map_or}
use Rattle.rules.specs.link_rules.Types.{at_row}
use Rattle.rules.specs.link_rules.Cycles.{interfaces_in}
use Rattle.type_tables.specs.Groups.{rows_with}
use Rattle.type_tables.specs.subtypes.Named.{with_args, row_interface}
use Rattle.type_tables.proofs.lemmas.subtypes.Naming.{rows_interfaces, all_put}
use Rattle.type_tables.proofs.subtypes.interfaces.add_row_interfaces.Goals as goal

pub returns : goal.returns
returns c =
    let scope = c.args.rows.now.scope in
    let groups = c.args.rows.now.tables.now.interfaces in
    let recs = scope.linked.all.now in
    let put = λ (k : ℕ). option_map_or (row_interface recs scope.asm scope.rec.now c.args.args.now) (slice_get scope.rec.now.interface_impl k) [] in
    all_put put c.args.found.now.items c.loop-k.found.items (with_args c.args.args.now (interfaces_in recs (at_row scope.asm c.args.row) scope.rec.now)) c.rows_with-k-items.result.now c.loop-k.k-index
    c.loop-k-test.false c.loop-k.invariant
    (ap (flat_map put) (c.rows_with-k-items.ensures ∙ ap (rows_with groups) c.in_ok-token.ensures)
    ∙ rows_interfaces recs scope.asm scope.rec.now c.args.args.now c.args.row groups c.requires.tables.interfaces)
