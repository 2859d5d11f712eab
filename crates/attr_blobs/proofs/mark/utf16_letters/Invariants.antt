use Rattle.std.proofs.Common.{◌≡◌, ◌++◌, length}
use Rattle.std.specs.Char.Utf16.{utf16_chars}
use Rattle.attr_blobs.proofs.mark.utf16_letters.Given as goal

abbrev pub invariant-loop-rest : goal.invariant-loop-rest
invariant-loop-rest l = l.letters.items ++ utf16_chars l.rest ≡ utf16_chars l.units

abbrev pub decreases-loop-rest : goal.decreases-loop-rest
decreases-loop-rest l = length l.rest
