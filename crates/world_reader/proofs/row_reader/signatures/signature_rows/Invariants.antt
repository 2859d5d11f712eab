-- The rows so far, and what was met.
use Rattle.std.proofs.Common.{◌≡◌}
use Rattle.rules.specs.record_format.Cells.{first_rows}
use Rattle.world_reader.specs.row_reader.Faults.{IsMet}
use Rattle.world_reader.proofs.row_reader.signatures.signature_rows.Given as goal

abbrev pub invariant-loop-i : goal.invariant-loop-i
invariant-loop-i g l = (l.rows ≡ first_rows (g.R.SignatureRow.row_of l.file) l.i) × IsMet g.R.HasSignature.of_blob l.file l.met
