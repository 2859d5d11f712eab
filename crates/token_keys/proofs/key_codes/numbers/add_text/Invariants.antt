use Rattle.std.proofs.Common.{◌≡◌, ◌++◌, take}
use Rattle.token_keys.proofs.key_codes.numbers.add_text.Given as goal

abbrev pub invariant-loop-byte : goal.invariant-loop-byte
invariant-loop-byte l = l.code.items ≡ l.initial.code.items ++ take l.byte-index l.text
