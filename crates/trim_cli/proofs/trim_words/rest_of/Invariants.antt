use Rattle.std.proofs.Common.{◌≡◌, map, drop}
use Rattle.std.specs.String.{string_bytes}
use Rattle.trim_cli.specs.Words.{trim_rest, trim_begin}
use Rattle.trim_cli.proofs.trim_words.rest_of.Given as goal

abbrev pub invariant-loop-at : goal.invariant-loop-at
invariant-loop-at l =
    trim_rest (map string_bytes l.words) l.at (map string_bytes (drop l.at l.words)) l.progress ≡ trim_rest (map string_bytes l.words) 1 (map string_bytes (drop 1 l.words)) trim_begin
