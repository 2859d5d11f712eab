use Rattle.std.proofs.Common.{◌≡◌, drop}
use Rattle.rules.specs.file_layout.TableStream.{fewer}
use Rattle.record_writer.proofs.metadata_writer.widths.fewer.Given as goal

abbrev pub invariant-loop-t : goal.invariant-loop-t
invariant-loop-t l = fewer l.tables l.limit (drop l.t-index l.among) ≡ fewer l.tables l.limit l.among
