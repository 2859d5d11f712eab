use Rattle.std.proofs.Common.{◌≡◌, ◌++◌, drop, map}
use Rattle.std.specs.List.{flat_map}
use Rattle.il_base.specs.declared.world_model.expr.TypeExpr.{TypeExpr}
use Rattle.rules.specs.mark_rules.Naming.{types_in}
use Rattle.mark_parts.specs.mark_facts.Told.{said_of}
use Rattle.mark_parts.proofs.mark_facts.exprs.+saying.Given as goal

abbrev pub invariant-say_all-loop-ty : goal.invariant-say_all-loop-ty
invariant-say_all-loop-ty l =
    l.facts ++ flat_map (λ (e : TypeExpr). map (said_of l.said) (types_in e)) (drop l.ty-index l.types) ≡ l.initial.facts ++ flat_map (λ (e : TypeExpr). map (said_of l.said) (types_in e)) l.types
