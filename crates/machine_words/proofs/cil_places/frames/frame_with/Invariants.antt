use Rattle.std.proofs.Common.{◌≡◌, drop, reverse}
use Rattle.std.specs.List.{find}
use Rattle.rules.specs.step_rules.Places.{has_number}
use Rattle.machine_words.proofs.cil_places.frames.frame_with.Given as goal

abbrev pub invariant-loop-i : goal.invariant-loop-i
invariant-loop-i l = find (has_number l.number) (drop l.i (reverse l.frames)) ≡ find (has_number l.number) (reverse l.frames)
