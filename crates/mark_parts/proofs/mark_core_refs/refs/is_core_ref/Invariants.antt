use Rattle.std.proofs.Common.{◌≡◌, ◌-◌}
use Rattle.rules.specs.mark_rules.Attributes.{is_core_ref_within}
use Rattle.mark_parts.proofs.mark_core_refs.refs.is_core_ref.Given as goal

abbrev pub invariant-loop : goal.invariant-loop
invariant-loop l = is_core_ref_within l.rec (l.count - l.counter) l.at ≡ is_core_ref_within l.rec l.count l.token
