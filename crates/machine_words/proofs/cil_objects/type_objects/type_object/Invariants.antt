use Rattle.std.proofs.Common.{◌≡◌, drop}
use Rattle.std.specs.Prelude.{slice_get, find}
use Rattle.rules.specs.step_rules.CoreTypes.{is_type, typed_at}
use Rattle.machine_words.proofs.cil_objects.type_objects.type_object.Given as goal

abbrev pub invariant-loop-at : goal.invariant-loop-at
invariant-loop-at l = find (λ at. is_type l.ty (typed_at (slice_get l.heap at))) (drop l.at-index l.types) ≡ find (λ at. is_type l.ty (typed_at (slice_get l.heap at))) l.types
