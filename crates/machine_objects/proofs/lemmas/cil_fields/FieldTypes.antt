-- The place of an instance's field by the type of the field alone.
use Rattle.std.proofs.Common.{◌≡◌, ℕ, [], refl}
use Rattle.std.specs.Prelude.{Option, Some, None}
use Rattle.std.specs.Option.{option_map}
use Rattle.il_base.specs.declared.world_model.expr.TypeExpr.{TypeExpr}
use Rattle.il_base.specs.declared.cil_values.layout.Layout.{Layout}
use Rattle.il_base.specs.declared.cil_values.path.Path.{Path}
use Rattle.il_base.specs.declared.cil_values.path.Root.TheVariants as root
use Rattle.rules.specs.step_rules.Closing.{Accessed}
use Rattle.rules.specs.step_rules.Fields.{instance_path}

abbrev pub typed_path : ℕ → Accessed → TypeExpr → Path
typed_path o a e = record { root = root.Field o (record { 0 = a.id }); steps = []; of = e }

pub typed : (o : ℕ) (a : Accessed) (x : Option Layout) → option_map (typed_path o a) (option_map (λ (l : Layout). l.typ) x) ≡ option_map (instance_path o a) x
typed o a None = refl
typed o a (Some l) = refl
