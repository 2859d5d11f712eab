-- The units so far, and those of the rest.
use Rattle.std.proofs.Common.{◌≡◌, ◌++◌, ◌*◌, drop}
use Rattle.rules.specs.record_format.Texts.{units_of}
use Rattle.world_reader.proofs.user_strings.texts.units_of.Given as goal

abbrev pub invariant-loop-i : goal.invariant-loop-i
invariant-loop-i l = l.units ++ units_of (drop (2 * l.i) l.item) ≡ units_of l.item
