use Rattle.std.proofs.Common.{◌≡◌, ◌++◌, take}
use Rattle.link_faults.proofs.codes.add_text.Given as goal

abbrev pub invariant-loop-byte : goal.invariant-loop-byte
invariant-loop-byte l = l.code ≡ l.initial.code ++ take l.byte-index l.text
