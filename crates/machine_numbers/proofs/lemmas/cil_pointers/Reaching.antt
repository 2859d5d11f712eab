-- What an instruction finds, by its cases.
use Rattle.std.proofs.Common.{◌≡◌, ◌∙◌, sym, ap, List, []}
use Rattle.il_base.specs.declared.core_table.names.CoreName.TheVariants.{NullReferenceException}
use Rattle.il_base.specs.declared.cil_values.value.Value.{Value}
use Rattle.il_base.specs.declared.cil_values.path.Path.{Path}
use Rattle.il_base.specs.declared.cil_values.state.State.{State}
use Rattle.il_base.specs.declared.cil_values.end.End.TheVariants.{Stopped, Stuck}
use Rattle.rules.specs.step_rules.Queries.{Queries}
use Rattle.rules.specs.step_rules.Next.{Next}
use Rattle.rules.specs.step_rules.Raising.{raise}
use Rattle.machine_words.specs.declared.cil_words.step_out.StepOut.{StepOut}
use Rattle.machine_words.specs.declared.cil_words.step_out.StepOut.TheVariants.{Over}
use Rattle.machine_words.specs.cil_words.Steps.{next_of}
use Rattle.machine_numbers.specs.declared.cil_pointers.reached.Reached.{Reached}
use Rattle.machine_numbers.specs.declared.cil_pointers.reached.Reached.TheVariants.{At, Null, Gone, Refused}
use Rattle.machine_numbers.specs.cil_pointers.Reaching.{reached_by, with_stack}

pub reaches : (q : Queries) (found x : Reached) (s : State) (f : Path → Value → Next) (n : Next) → n ≡ reached_by q found s f → found ≡ x → reached_by q x s f ≡ n
reaches q found x s f n on is = sym (on ∙ ap (λ (y : Reached). reached_by q y s f) is)

module _ (q : Queries) (found : Reached) (s : State) (vs : List Value) (f : Path → Value → Next) (m : Next) (on : m ≡ reached_by q found (with_stack vs s) f) where
  -- a place, and what comes of it
  pub at_place : (p : Path) (v : Value) (n : Next) → found ≡ At p v → n ≡ f p v → n ≡ m
  at_place p v n is e = e ∙ reaches q found (At p v) (with_stack vs s) f m on is

  -- null, with the operands back on the stack
  pub raised : (us : List Value) (n : Next) → found ≡ Null → us ≡ vs → n ≡ raise q NullReferenceException (with_stack us s) → n ≡ m
  raised us n is same e = e ∙ ap (λ (x : List Value). raise q NullReferenceException (with_stack x s)) same ∙ reaches q found Null (with_stack vs s) f m on is

  pub gone : (out : StepOut) (t : State) → found ≡ Gone → out ≡ Over (Stopped s.top.method.method s.top.at) → next_of out t [] ≡ m
  gone out t is e = ap (λ (x : StepOut). next_of x t []) e ∙ reaches q found Gone (with_stack vs s) f m on is

  pub refused : (out : StepOut) (t : State) → found ≡ Refused → out ≡ Over (Stuck s.top.method.method s.top.at) → next_of out t [] ≡ m
  refused out t is e = ap (λ (x : StepOut). next_of x t []) e ∙ reaches q found Refused (with_stack vs s) f m on is
