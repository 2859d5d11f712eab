use Rattle.std.proofs.Common.{◌≡◌, drop}
use Rattle.std.specs.Prelude.{slice_get, find}
use Rattle.rules.specs.step_rules.Objects.{holds_text}
use Rattle.machine_words.proofs.cil_objects.texts.text_object.Given as goal

abbrev pub invariant-loop-at : goal.invariant-loop-at
invariant-loop-at l = find (λ at. holds_text l.units (slice_get l.heap at)) (drop l.at-index l.texts) ≡ find (λ at. holds_text l.units (slice_get l.heap at)) l.texts
