use Rattle.std.proofs.Common.{◌≡◌, ◌-◌, [], ◌∷◌}
use Rattle.rules.specs.link_rules.Cycles.{led_to, same_row, interface_rows}
use Rattle.type_tables.proofs.lemmas.subtypes.Looking.{Looked}
use Rattle.mark_parts.specs.mark_tables.Assemblies.{all_of}
use Rattle.base_laws.proofs.lemmas.type_laws.Places.{rows_decide}
use Rattle.mark_items.proofs.mark_calls.implied.led_to.Given as goal

abbrev pub invariant-loop-round : goal.invariant-loop-round
invariant-loop-round l = record {
  led : led_to same_row (interface_rows (all_of l.marker)) (l.rounds - l.round) l.found.items ≡ led_to same_row (interface_rows (all_of l.marker)) l.rounds (l.fn.at ∷ []);
  looked : Looked same_row rows_decide (interface_rows (all_of l.marker)) l.looked_at l.found.items;
}
