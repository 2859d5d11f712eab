use Rattle.std.proofs.Common.{◌≡◌, ◌++◌, drop}
use Rattle.il_base.specs.core_table.Record.{all_fields}
use Rattle.il_base.proofs.core_table.rows.all_fields.Given as goal

abbrev pub invariant-loop-ty : goal.invariant-loop-ty
invariant-loop-ty l = l.rows ++ all_fields (drop l.ty-index l.types) ≡ all_fields l.types
