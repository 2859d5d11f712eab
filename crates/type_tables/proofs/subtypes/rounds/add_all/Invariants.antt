use Rattle.std.proofs.Common.{◌≡◌}
use Rattle.il_base.specs.world_model.Exprs.{same_expr}
use Rattle.rules.specs.link_rules.Cycles.{add_all}
use Rattle.type_tables.proofs.subtypes.rounds.add_all.Given as goal

abbrev pub invariant-loop-ty : goal.invariant-loop-ty
invariant-loop-ty l = l.found.items ≡ add_all same_expr l.initial.found.items l.yielded
