use Rattle.std.proofs.Common.{◌≡◌, Some, sym, ◌∙◌}
use Rattle.std.specs.Option.{option_and_then}
use Rattle.rules.specs.step_rules.Words.{object_at}
use Rattle.rules.specs.step_rules.Places.{boxed_in}
use Rattle.machine_calls.proofs.cil_making.making.gives_value.Goals as goal

pub returns : goal.returns
returns c =
    let is : option_and_then boxed_in (object_at c.args.st.now c.args.a) ≡ Some c.in-Some.v = sym c.in_ok-v.ensures ∙ c.in-Some.is in
    λ bytes. rw is (c.in_ok-out.ensures bytes c.args.returned)
