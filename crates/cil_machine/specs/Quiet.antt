-- What a simple step leaves.
use Rattle.std.specs.Prelude.{◌≡◌, [], Bool, true, false}
use Rattle.il_base.specs.declared.cil_values.state.State.{State}
use Rattle.rules.specs.step_rules.Next.{Next, went}

-- where it was made, the state in which the run goes on, in the same frame; else the state as it was
abbrev pub QuietBy : Bool → Next → State → State → Type 0
QuietBy true next old new = (next ≡ went new []) × (new.top.method ≡ old.top.method)
QuietBy false next old new = new ≡ old
