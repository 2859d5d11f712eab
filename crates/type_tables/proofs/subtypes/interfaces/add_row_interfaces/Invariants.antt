use Rattle.std.proofs.Common.{◌≡◌, ◌++◌, [], drop}
use Rattle.std.specs.Prelude.{slice_get}
use Rattle.std.specs.List.{flat_map}
use Rattle.std.specs.Option.{option_map_or}
use Rattle.type_tables.specs.subtypes.Named.{row_interface}
use Rattle.type_tables.proofs.subtypes.interfaces.add_row_interfaces.Given as goal

abbrev pub invariant-loop-k : goal.invariant-loop-k
invariant-loop-k l =
    l.found.items ++ flat_map (λ k. option_map_or (row_interface l.rows.scope.linked.all.now l.rows.scope.asm l.rows.scope.rec.now l.args) (slice_get l.rows.scope.rec.now.interface_impl k) []) (drop l.k-index l.k-items)
    ≡ l.initial.found.items ++ flat_map (λ k. option_map_or (row_interface l.rows.scope.linked.all.now l.rows.scope.asm l.rows.scope.rec.now l.args) (slice_get l.rows.scope.rec.now.interface_impl k) []) l.k-items
