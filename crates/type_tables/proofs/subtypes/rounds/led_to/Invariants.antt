use Rattle.std.proofs.Common.{◌≡◌, ◌-◌, [], ◌∷◌}
use Rattle.il_base.specs.world_model.Exprs.{same_expr}
use Rattle.il_base.proofs.lemmas.world_model.SameExpr.{same_decides}
use Rattle.rules.specs.link_rules.Cycles.{led_to}
use Rattle.type_tables.specs.subtypes.Steps.{next_by}
use Rattle.type_tables.proofs.lemmas.subtypes.Looking.{Looked}
use Rattle.type_tables.proofs.subtypes.rounds.led_to.Given as goal

abbrev pub invariant-loop-round : goal.invariant-loop-round
invariant-loop-round l = record {
  led : led_to same_expr (next_by l.tables.world.now.recs l.step) (l.rounds - l.round) l.found.items ≡ led_to same_expr (next_by l.tables.world.now.recs l.step) l.rounds (l.ty ∷ []);
  looked : Looked same_expr same_decides (next_by l.tables.world.now.recs l.step) l.looked_at l.found.items;
}
