use Rattle.std.proofs.Common.{◌≡◌, ◌++◌, drop}
use Rattle.rules.specs.record_layout.FieldData.{with_all_data, data_rvas}
use Rattle.record_writer.proofs.field_data.put_field_data.Given as goal

abbrev pub invariant-loop-row : goal.invariant-loop-row
invariant-loop-row l = record {
  bytes : with_all_data l.bytes.items (drop l.row-index l.rows) ≡ with_all_data l.fn.bodies.items l.rows;
  rvas : l.rvas.items ++ data_rvas l.bytes.items (drop l.row-index l.rows) ≡ data_rvas l.fn.bodies.items l.rows;
}
