-- How the members of Activator make objects.
use Rattle.std.specs.Prelude.{Bool, true, false}
use Rattle.il_base.specs.declared.world_model.expr.TypeExpr.{TypeExpr}
use Rattle.il_base.specs.declared.cil_values.value.Value.{Value}
use Rattle.il_base.specs.declared.cil_values.state.State.{State}
use Rattle.rules.specs.step_rules.Next.{Next}
use Rattle.rules.specs.step_rules.CoreWords.{Gives, gives_value}
use Rattle.rules.specs.step_rules.CoreMaking.{gives_box}

-- what is given for a value type's zero value: a box, or the value
abbrev pub zero_by : Bool → TypeExpr → State → Gives → Value → Next
zero_by true e s give zero = gives_box e s give zero
zero_by false e s give zero = gives_value zero s give
