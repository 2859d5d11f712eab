use Rattle.std.proofs.Common.{◌≡◌, ◌++◌, drop}
use Rattle.std.specs.List.{flat_map}
use Rattle.il_base.specs.declared.world_model.expr.TypeExpr.{TypeExpr}
use Rattle.rules.specs.link_rules.Cycles.{listed, home_of}
use Rattle.rules.specs.type_rules.Rows.{methods_of_type}
use Rattle.mark_parts.specs.mark_tables.Assemblies.{all_of}
use Rattle.marking.proofs.mark_known.rows.add_methods.Given as goal

abbrev pub invariant-loop-ty : goal.invariant-loop-ty
invariant-loop-ty l =
    l.methods.items ++ flat_map (λ (i : TypeExpr). flat_map (methods_of_type (all_of l.marker)) (listed (home_of (all_of l.marker) i))) (drop l.ty-index l.instances) ≡ l.initial.methods.items ++ flat_map (λ (i : TypeExpr). flat_map (methods_of_type (all_of l.marker)) (listed (home_of (all_of l.marker) i))) l.instances
