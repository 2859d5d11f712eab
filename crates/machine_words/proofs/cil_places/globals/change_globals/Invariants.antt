use Rattle.std.proofs.Common.{◌≡◌}
use Rattle.rules.specs.step_rules.Places.{change_global}
use Rattle.machine_words.proofs.lemmas.cil_places.Mixed.{mixed}
use Rattle.machine_words.proofs.cil_places.globals.change_globals.Given as goal

abbrev pub invariant-loop-i : goal.invariant-loop-i
invariant-loop-i l = l.statics.items ≡ mixed (change_global l.field l.owner l.v) l.i l.initial.statics.items
