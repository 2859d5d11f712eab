use Rattle.std.proofs.Common.{◌≡◌, map, drop}
use Rattle.std.specs.String.{string_bytes}
use Rattle.exec_command.specs.Words.{rest_of, begin}
use Rattle.exec_command.proofs.words.rest_of.Given as goal

abbrev pub invariant-loop-at : goal.invariant-loop-at
invariant-loop-at l = rest_of l.at (map string_bytes (drop l.at l.words)) l.progress ≡ rest_of 1 (map string_bytes (drop 1 l.words)) begin
