use Rattle.std.proofs.Common.{◌≡◌, ◌≤◌, ◌+◌, ◌*◌, ◌++◌, drop}
use Rattle.il_base.specs.core_table.Record.{type_rows}
use Rattle.il_base.proofs.core_table.type_rows.type_rows.Given as goal

abbrev pub invariant-loop-ty : goal.invariant-loop-ty
invariant-loop-ty l =
    (l.rows ++ type_rows l.field l.method (drop l.ty-index l.types) ≡ type_rows 1 1 l.types)
    × (l.field ≤ 1 + 32 * l.ty-index)
    × (l.method ≤ 1 + 32 * l.ty-index)
