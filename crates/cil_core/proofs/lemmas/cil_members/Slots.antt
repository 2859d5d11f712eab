-- Arguments after others.
use Rattle.std.proofs.Common.{◌≡◌, refl, List, ◌++◌}
use Rattle.std.specs.Prelude.{Option, Some, None}
use Rattle.std.specs.Option.{option_map}
use Rattle.il_base.specs.declared.cil_values.value.Value.{Value}
use Rattle.il_base.specs.declared.cil_values.state.State.{State}
use Rattle.rules.specs.step_rules.Next.{Next}
use Rattle.rules.specs.step_rules.Words.{given}

pub given_after : (first : List Value) (x : Option (List Value)) (s : State) (f : List Value → Next)
    → given x s (λ rest. f (first ++ rest)) ≡ given (option_map (λ rest. first ++ rest) x) s f
given_after first None s f = refl
given_after first (Some xs) s f = refl
