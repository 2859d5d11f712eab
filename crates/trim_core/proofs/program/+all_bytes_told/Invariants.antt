use Rattle.std.proofs.Common.{length}
use Rattle.trim_core.proofs.program.+all_bytes_told.Given as goal

abbrev pub decreases-all_bytes_told : goal.decreases-all_bytes_told
decreases-all_bytes_told l = length l.files.now
