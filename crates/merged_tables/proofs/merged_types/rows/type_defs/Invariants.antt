use Rattle.std.proofs.Common.{◌≡◌, ◌++◌, drop}
use Rattle.std.specs.List.{flat_map}
use Rattle.merged_tables.specs.merged_types.Types.{type_of}
use Rattle.merged_tables.proofs.merged_types.rows.type_defs.Given as goal

abbrev pub invariant-loop-at : goal.invariant-loop-at
invariant-loop-at l =
    l.rows ++ flat_map (type_of l.index.all.now l.plan l.tables l.tokens) (drop l.at-index l.at-items) ≡ flat_map (type_of l.index.all.now l.plan l.tables l.tokens) l.at-items
