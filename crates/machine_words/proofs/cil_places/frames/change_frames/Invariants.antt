use Rattle.std.proofs.Common.{◌≡◌}
use Rattle.rules.specs.step_rules.Places.{change_frame}
use Rattle.machine_words.specs.cil_places.Parts.{set_slot}
use Rattle.machine_words.proofs.lemmas.cil_places.Mixed.{mixed}
use Rattle.machine_words.proofs.cil_places.frames.change_frames.Given as goal

abbrev pub invariant-loop-i : goal.invariant-loop-i
invariant-loop-i l = l.frames.items ≡ mixed (change_frame l.number (set_slot l.slot l.v)) l.i l.initial.frames.items
