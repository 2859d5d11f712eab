use Rattle.std.proofs.Common.{◌≡◌, map, take}
use Rattle.std.specs.String.{string_bytes}
use Rattle.exec_command.specs.Words.{word_at}
use Rattle.exec_command.proofs.words.words_at.Given as goal

abbrev pub invariant-loop-at : goal.invariant-loop-at
invariant-loop-at l = map string_bytes l.names.items ≡ map (word_at (map string_bytes l.words)) (take l.at-index l.places)
