use Rattle.std.proofs.Common.{◌≡◌, ◌<◌, ◌^◌, drop, true}
use Rattle.std.specs.List.{list_all}
use Rattle.exec_command.specs.Words.{is_digit, value_of}
use Rattle.exec_command.proofs.words.value_of.Given as goal

abbrev pub invariant-loop-b : goal.invariant-loop-b
invariant-loop-b l = (value_of l.value (drop l.b-index l.word) ≡ value_of 0 l.word) × (l.value < 10 ^ l.b-index) × (list_all is_digit (drop l.b-index l.word) ≡ true)
