use Rattle.std.proofs.Common.{◌≡◌, drop}
use Rattle.std.specs.List.{find}
use Rattle.rules.specs.step_rules.Places.{is_global}
use Rattle.machine_words.proofs.cil_places.globals.global_of.Given as goal

abbrev pub invariant-loop-g : goal.invariant-loop-g
invariant-loop-g l = find (is_global l.field l.owner) (drop l.g-index l.st.statics) ≡ find (is_global l.field l.owner) l.st.statics
