use Rattle.std.proofs.Common.{◌≡◌, ◌++◌, drop}
use Rattle.il_base.specs.core_table.Record.{method_rows}
use Rattle.il_base.proofs.core_table.rows.push_methods.Given as goal

abbrev pub invariant-loop-method : goal.invariant-loop-method
invariant-loop-method l = l.rows ++ method_rows (drop l.method-index l.methods) ≡ l.initial.rows ++ method_rows l.methods
