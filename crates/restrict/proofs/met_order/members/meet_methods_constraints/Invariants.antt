use Rattle.std.proofs.Common.{◌≡◌, suc, ◌++◌, drop}
use Rattle.std.specs.List.{flat_map}
use Rattle.il_base.specs.declared.table.TheConstants.{METHOD_DEF}
use Rattle.il_base.specs.world_model.Tokens.{token_of}
use Rattle.rules.specs.declared.link_rules.row_at.RowAt.{RowAt}
use Rattle.mark_parts.specs.mark_tables.Assemblies.{all_of}
use Rattle.rules.specs.merge_rules.Order.{met_constraints}
use Rattle.restrict.proofs.met_order.members.meet_methods_constraints.Given as goal

abbrev pub invariant-loop-at : goal.invariant-loop-at
invariant-loop-at l =
    l.mets ++ flat_map (λ (m : RowAt). met_constraints (all_of l.world.marker.now) m (token_of METHOD_DEF (suc m.row))) (drop l.at-index l.methods) ≡ l.initial.mets ++ flat_map (λ (m : RowAt). met_constraints (all_of l.world.marker.now) m (token_of METHOD_DEF (suc m.row))) l.methods
