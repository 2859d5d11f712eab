-- The way of an exception to its handler, frame by frame.
use Rattle.std.proofs.Common.{◌≡◌, ℕ, true, false, nat_eq, List, [], ◌∷◌, Some, None, refl}
use Rattle.il_base.specs.declared.cil_values.value.Value.TheVariants as value
use Rattle.il_base.specs.declared.cil_values.definition.Method.{Method}
use Rattle.il_base.specs.declared.cil_values.resolved.Code.{Code}
use Rattle.il_base.specs.declared.cil_values.state.State.{State}
use Rattle.il_base.specs.declared.cil_values.frame.Frame.{Frame}
use Rattle.il_base.specs.declared.cil_values.frame.Unwinding.{Unwinding}
use Rattle.il_base.specs.declared.cil_values.frame.Reason.TheVariants.{Caught as caught, Unwinding as unwinding}
use Rattle.il_base.specs.declared.cil_values.end.End.{End}
use Rattle.rules.specs.step_rules.Next.{over}
use Rattle.rules.specs.step_rules.Queries.{Queries}
use Rattle.rules.specs.step_rules.Words.{here_of, here_in, stuck}
use Rattle.rules.specs.step_rules.Raising.{handler_begins, outer, outside, unwind_to}
use Rattle.machine_words.specs.cil_words.Steps.{next_of}
use Rattle.machine_words.specs.declared.cil_words.step_out.StepOut.{StepOut}
use Rattle.machine_words.specs.declared.cil_words.step_out.StepOut.TheVariants.{Over}

-- an end is the same whatever the state is
pub ends : (o : StepOut) (t : State) (e : End) → o ≡ Over e → next_of o t [] ≡ over e
ends o t e is = rw is refl

module _ (q : Queries) (u : Unwinding) (s : State) where
  pub no_body : here_of q s.top ≡ None → unwind_to q u s [] ≡ stuck s
  unfolding unwind_to
  no_body is = rw is refl

  pub out_of_member : (f : Frame) (fs : List Frame) → here_of q s.top ≡ None → unwind_to q u s (f ∷ fs) ≡ unwind_to q (outer q s u f) (outside s u f fs) fs
  unfolding unwind_to
  out_of_member f fs is = rw is refl

  module _ (m : Method) (code : Code) (is : here_of q s.top ≡ Some (here_in s.top m code)) where
    pub next_one : (fs : List Frame) (n : ℕ) (ns : List ℕ) → u.left ≡ n ∷ ns → unwind_to q u s fs ≡ handler_begins code n (unwinding (record u { left = ns })) [] s
    unfolding unwind_to
    next_one [] n ns left = rw (is, left) refl
    next_one (f ∷ fs) n ns left = rw (is, left) refl

    pub catches_it : (fs : List Frame) → u.left ≡ [] → nat_eq s.top.number u.frame ≡ true → unwind_to q u s fs ≡ handler_begins code u.clause (caught u.object) (value.Object u.object ∷ []) s
    unfolding unwind_to
    catches_it [] left here = rw (is, left, here) refl
    catches_it (f ∷ fs) left here = rw (is, left, here) refl

    pub none_below : u.left ≡ [] → nat_eq s.top.number u.frame ≡ false → unwind_to q u s [] ≡ stuck s
    unfolding unwind_to
    none_below left here = rw (is, left, here) refl

    pub goes_out : (f : Frame) (fs : List Frame) → u.left ≡ [] → nat_eq s.top.number u.frame ≡ false → unwind_to q u s (f ∷ fs) ≡ unwind_to q (outer q s u f) (outside s u f fs) fs
    unfolding unwind_to
    goes_out f fs left here = rw (is, left, here) refl
