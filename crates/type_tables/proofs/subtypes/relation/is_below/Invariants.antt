use Rattle.std.proofs.Common.{◌≡◌}
use Rattle.il_base.specs.world_model.Exprs.{levels}
use Rattle.rules.specs.type_rules.Subtypes.{is_subtype}
use Rattle.type_tables.proofs.subtypes.relation.is_below.Given as goal

abbrev pub invariant-levels : goal.invariant-levels
invariant-levels l = is_subtype l.tables.world.now.recs l.below l.wanted ≡ is_subtype l.tables.world.now.recs l.a l.b

abbrev pub decreases-levels : goal.decreases-levels
decreases-levels l = levels l.below
