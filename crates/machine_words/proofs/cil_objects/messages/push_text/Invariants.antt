use Rattle.std.proofs.Common.{◌≡◌, ◌++◌, take}
use Rattle.machine_words.proofs.cil_objects.messages.push_text.Given as goal

abbrev pub invariant-loop-byte : goal.invariant-loop-byte
invariant-loop-byte l = l.units ≡ l.initial.units ++ take l.byte-index l.text
