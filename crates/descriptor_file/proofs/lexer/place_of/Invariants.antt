use Rattle.std.proofs.Common.{◌≡◌, ◌+◌, drop}
use Rattle.std.specs.Option.{option_map}
use Rattle.descriptor_file.specs.Tokens.{place_of}
use Rattle.descriptor_file.proofs.lexer.place_of.Given as goal

abbrev pub invariant-loop-i : goal.invariant-loop-i
invariant-loop-i l = place_of l.text l.bytes ≡ option_map (λ n. n + l.i) (place_of l.text (drop l.i l.bytes))
