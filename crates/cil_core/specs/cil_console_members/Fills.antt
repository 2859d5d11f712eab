-- Arrays that are filled, as the code has it.
use Rattle.std.specs.Prelude.{ℕ, List, Option, Some, None}
use Rattle.il_base.specs.declared.world_model.expr.TypeExpr.{TypeExpr}
use Rattle.il_base.specs.declared.core_table.names.CoreName.TheVariants.{ArgumentException}
use Rattle.il_base.specs.declared.cil_values.value.Value.{Value}
use Rattle.il_base.specs.declared.cil_values.layout.Shape.{Shape}
use Rattle.il_base.specs.declared.cil_values.layout.Shape.TheVariants.{Integer as integer}
use Rattle.il_base.specs.declared.cil_values.state.State.{State}
use Rattle.rules.specs.step_rules.Queries.{Queries}
use Rattle.rules.specs.step_rules.Next.{Next}
use Rattle.rules.specs.step_rules.Words.{had}
use Rattle.rules.specs.step_rules.Raising.{raise}
use Rattle.rules.specs.step_rules.CoreWords.{Gives}
use Rattle.rules.specs.step_rules.CoreArrays.{fill_from}

-- the element type of the integers that a place holds
abbrev pub code_in : Shape → Option ℕ
code_in (integer code) = Some code
code_in _ = None

abbrev pub fill_by_code : Queries → State → Gives → ℕ → TypeExpr → List Value → ℕ → Option ℕ → Next
fill_by_code q s give a of cells f (Some code) = had (q.field f) s (λ d. fill_from q s give a of cells code d.first)
fill_by_code q s give a of cells f None = raise q ArgumentException s
