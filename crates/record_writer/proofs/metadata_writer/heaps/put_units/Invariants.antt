use Rattle.std.proofs.Common.{◌≡◌, ◌++◌, drop}
use Rattle.rules.specs.file_layout.Heaps.{units_bytes}
use Rattle.record_writer.proofs.metadata_writer.heaps.put_units.Given as goal

abbrev pub invariant-loop-unit : goal.invariant-loop-unit
invariant-loop-unit l = l.out.items ++ units_bytes (drop l.unit-index l.units) ≡ l.initial.out.items ++ units_bytes l.units
