-- What a virtual call of a member runs.
use Rattle.std.specs.Prelude.{ℕ, List}
use Rattle.il_base.specs.declared.cil_values.value.Value.{Value}
use Rattle.il_base.specs.declared.cil_values.value.Value.TheVariants as value
use Rattle.il_base.specs.declared.cil_values.state.State.{State}
use Rattle.il_base.specs.declared.cil_values.core_call.CoreCall.{CoreCall}
use Rattle.rules.specs.step_rules.Queries.{Queries}
use Rattle.rules.specs.step_rules.Next.{Next}
use Rattle.rules.specs.step_rules.Words.{given}
use Rattle.rules.specs.step_rules.Closing.{Callee}
use Rattle.rules.specs.step_rules.CoreWords.{Gives}
use Rattle.rules.specs.step_rules.Core.{found_args, run_found}

-- the method that was found for an object, with these arguments after it
abbrev pub runs_on : Queries → CoreCall → List Value → ℕ → List Value → State → Gives → Callee → Next
runs_on q k args a vs s give found = given (found_args q s found (value.Object a) vs) s (λ ws. run_found q k args found ws s give (q.core found.called.method.0))
