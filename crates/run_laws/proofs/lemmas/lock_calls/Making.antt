-- `call`, `callvirt`, `newobj` and the prefixes.
use Rattle.std.proofs.Common.{◌≡◌, ℕ, Bool, true, false, ◌&&◌, ◌||◌, not, List, ◌∷◌, length, Option, Some, None, refl, sym, ap, subst, ◌∙◌}
use Rattle.std.specs.Prelude.{IsTrue, nat_eq, ◌==◌}
use Rattle.std.specs.Option.{option_map, option_and_then}
use Rattle.std.specs.Cmp.{first_so, second_so}
use Rattle.std.proofs.lemmas.Bool.{and_from, false≢true}
use Rattle.std.proofs.lemmas.List.{length-map}
use Rattle.il_base.specs.declared.body.Form.TheVariants as form
use Rattle.il_base.specs.declared.opcode.TheConstants.{CONSTRAINED, READONLY}
use Rattle.il_base.specs.declared.type_flags.TheConstants as type_flags
use Rattle.il_base.specs.declared.world_model.known.Known.{Known}
use Rattle.il_base.specs.declared.world_model.known.Known.TheVariants.{Good}
use Rattle.il_base.specs.declared.world_model.expr.TypeExpr.{TypeExpr}
use Rattle.il_base.specs.declared.world_model.expr.MethodUse.{MethodUse}
use Rattle.il_base.specs.declared.ids.MethodId.{MethodId}
use Rattle.il_base.specs.declared.cil_values.definition.Method.{Method}
use Rattle.il_base.specs.world_model.Exprs as exprs
use Rattle.il_base.specs.declared.cil_values.value.Value.{Value}
use Rattle.il_base.specs.declared.cil_values.value.Value.TheVariants as value
use Rattle.il_base.specs.declared.cil_values.object.Obj.{Obj}
use Rattle.il_base.specs.declared.cil_values.object.Obj.TheVariants as object
use Rattle.il_base.specs.declared.cil_values.resolved.Instruction.{Instruction}
use Rattle.il_base.specs.declared.cil_values.resolved.Use.{Use}
use Rattle.il_base.specs.declared.cil_values.resolved.Use.TheVariants.{Typ as typ, Method as method}
use Rattle.il_base.specs.declared.cil_values.definition.Head.{Head}
use Rattle.il_base.specs.declared.cil_values.state.State.{State}
use Rattle.il_base.specs.declared.cil_values.frame.Prefix.{Prefix}
use Rattle.il_base.specs.declared.cil_values.frame.Prefix.TheVariants as prefixed
use Rattle.il_base.specs.declared.cil_values.frame.Waits.TheVariants as waits
use Rattle.rules.specs.step_rules.Queries.{Queries}
use Rattle.rules.specs.step_rules.Next.{Next}
use Rattle.rules.specs.step_rules.Words.{Here, stuck, given, taken, made, goes_with, may_go, object_at}
use Rattle.rules.specs.step_rules.Closing.{plain, Callee, closed, closed_use}
use Rattle.rules.specs.step_rules.Stores.{is_value, zero_of}
use Rattle.rules.specs.step_rules.Places.{boxed_in}
use Rattle.rules.specs.step_rules.Objects.{new_instance}
use Rattle.rules.specs.step_rules.Frames.{head_has}
use Rattle.rules.specs.step_rules.Dispatch.{slots_of, path_into_box}
use Rattle.rules.specs.step_rules.CoreWords.{Gives}
use Rattle.rules.specs.step_rules.Calls.{invoke, waiting, with_args, begins, begun_for, may_call, calls, call, may_make, gives_made, constructs, constructs_value, makes_with, makes, new_object, goes_under, other_prefix, prefix}
use Rattle.rules.specs.change_rules.Change.{Change}
use Rattle.rules.specs.change_rules.Moves.{move_expr, move_value, move_values}
use Rattle.rules.specs.change_rules.Answers.{move_here, move_operand, move_instruction, move_callee}
use Rattle.rules.specs.change_rules.States.{move_prefix, move_state}
use Rattle.rules.specs.change_rules.Keeps.{keeps_expr, shows_expr, makes_expr, news_expr, keeps_made, begins_expr, keeps_use, is_of_owner, calls_own, keeps_called, keeps_value, keeps_values, if_good, keeps_operand, keeps_of_form}
use Rattle.rules.specs.change_rules.Covered.{keeps_prefix, Covered}
use Rattle.rules.specs.change_rules.Agree.{Agree}
use Rattle.rules.specs.change_rules.Lock.{Lock, GivesLock}
use Rattle.base_laws.proofs.lemmas.change_laws.Lists.{all_push}
use Rattle.base_laws.proofs.lemmas.change_laws.Values.{move_object, move_pointer, keeps_object, keeps_pointer}
use Rattle.base_laws.proofs.lemmas.change_laws.Cells.{zeros_move}
use Rattle.run_laws.proofs.lemmas.lock_words.Words.{stuck_lock, ends_at_lock, given_moved, had_moved, required_lock, if_lock, made_lock, may_go_moved, goes_with_lock}
use Rattle.run_laws.proofs.lemmas.lock_words.Types.{in_names}
use Rattle.run_laws.proofs.lemmas.lock_words.Definitions.{Begins as MayBegin, begins_closed, passes_closed, makes_closed}
use Rattle.run_laws.proofs.lemmas.lock_words.Fits.{is_value_moved}
use Rattle.run_laws.proofs.lemmas.lock_throwing.Objects.{zeros_kept}
use Rattle.run_laws.proofs.lemmas.lock_throwing.Here.{KeptHere}
use Rattle.run_laws.proofs.lemmas.lock_places.Closing.{weaker, use_owner, KeptCallee, closed_lock, closed_use_lock}
use Rattle.run_laws.proofs.lemmas.lock_places.Stores.{zero_moved, zero_kept}
use Rattle.run_laws.proofs.lemmas.lock_places.Places.{move_taken, taken_moved, KeptTaken, taken_kept, boxed_at, boxed_kept}
use Rattle.run_laws.proofs.lemmas.lock_frames.Entering.{head_moved, started_lock}
use Rattle.run_laws.proofs.lemmas.lock_frames.Dispatching.{slots_moved}
use Rattle.run_laws.proofs.lemmas.lock_types.Types.{known_is}
use Rattle.run_laws.proofs.lemmas.lock_calls.Invoking.{invoke_lock, runs_lock, received_lock}

module _ (k : Change) (after before : Queries) (a : Agree k after before) where
  waiting_covered : (stack : List Value) (s : State) → Covered k.keep before s → IsTrue (keeps_values k.keep stack) → Covered k.keep before (waiting stack s)
  waiting_covered stack s c h =
      record {
        heap = c.heap;
        statics = c.statics;
        inits = c.inits;
        below = c.below;
        top = record { method = c.top.method; args = c.top.args; locals = c.top.locals; stack = h; prefix = refl; waits = c.top.waits };
      }

  begun_lock : (d : Callee) (s : State) (f g : State → Next) → KeptCallee k.keep before d → MayBegin k.keep d.called.owner → Covered k.keep before s → Lock k before (f (move_state k before s)) (g s)
      → Lock k before (begun_for after (move_callee k.rho d) (move_state k before s) f) (begun_for before d s g)
  unfolding begun_for
  begun_lock d s f g hd b c l =
      if_lock k before _ (begins d) _ _ _ _ refl (λ e. started_lock k after before a d.called.owner (use_owner k.keep d.called hd.named) s c f g l false b) (λ e. l)

  taken_slots : (d : Callee) (s : State) → taken (slots_of (move_callee k.rho d).signature) (move_values k.rho s.top.stack) ≡ option_map (move_taken k.rho) (taken (slots_of d.signature) s.top.stack)
  taken_slots d s = ap (λ (n : ℕ). taken n (move_values k.rho s.top.stack)) (slots_moved k after before a d.signature) ∙ taken_moved k.rho (slots_of d.signature) s.top.stack

  taken_params : (d : Callee) (s : State) → taken (length (move_callee k.rho d).signature.params) (move_values k.rho s.top.stack) ≡ option_map (move_taken k.rho) (taken (length d.signature.params) s.top.stack)
  taken_params d s = ap (λ (n : ℕ). taken n (move_values k.rho s.top.stack)) (length-map d.signature.params (move_expr k.rho)) ∙ taken_moved k.rho (length d.signature.params) s.top.stack

  module _ (here : Here) (i : Instruction) where
    -- ---- `call`, `callvirt`

    with_args_lock : (d : Callee) (s : State) (t : List Value × List Value) → KeptCallee k.keep before d → IsTrue (calls_own before d.called) → Covered k.keep before s → KeptTaken k.keep t
        → Lock k before (with_args after (move_here k.rho here) (move_instruction k.rho i) (move_callee k.rho d) (move_state k before s) (move_taken k.rho t)) (with_args before here i d s t)
    with_args_lock d s t hd own c ht =
        if_lock k before _ d.signature.this _ _ _ _ refl
        (λ e. received_lock k after before a here i d t.0 (waiting t.1 s) s.top.prefix hd own ht.args (waiting_covered t.1 s c ht.rest) c.top.prefix)
        (λ e. runs_lock k after before a here i d t.0 (waiting t.1 s) hd ht.args (waiting_covered t.1 s c ht.rest))

    taken_lock : (d : Callee) (s : State) → KeptCallee k.keep before d → IsTrue (calls_own before d.called) → Covered k.keep before s
        → Lock k before (given (taken (slots_of (move_callee k.rho d).signature) (move_values k.rho s.top.stack)) (move_state k before s) (with_args after (move_here k.rho here) (move_instruction k.rho i) (move_callee k.rho d) (move_state k before s)))
        (given (taken (slots_of d.signature) s.top.stack) s (with_args before here i d s))
    taken_lock d s hd own c =
        given_moved k before (move_taken k.rho) (taken (slots_of d.signature) s.top.stack) _ s _ _ (taken_slots d s) (λ t is. with_args_lock d s t hd own c (taken_kept k.keep (slots_of d.signature) s.top.stack t c.top.stack is))

    calls_lock : (s : State) (d : Callee) → KeptCallee k.keep before d → IsTrue (calls_own before d.called) → MayBegin k.keep d.called.owner → Covered k.keep before s
        → Lock k before (calls after (move_here k.rho here) (move_instruction k.rho i) (move_state k before s) (move_callee k.rho d)) (calls before here i s d)
    calls_lock s d hd own b c =
        required_lock k before _ (may_call i d) s _ _ refl (λ e.
        begun_lock d s (λ t. given (taken (slots_of (move_callee k.rho d).signature) t.top.stack) t (with_args after (move_here k.rho here) (move_instruction k.rho i) (move_callee k.rho d) t))
        (λ t. given (taken (slots_of d.signature) t.top.stack) t (with_args before here i d t)) hd b c (taken_lock d s hd own c))

    -- ---- `newobj`

    gives_made_lock : (w v : Value) → w ≡ move_value k.rho v → IsTrue (keeps_value k.keep v) → GivesLock k before (gives_made (move_here k.rho here) (move_instruction k.rho i) w) (gives_made here i v)
    gives_made_lock w v e hv s r bytes c h =
        subst (λ (x : Value). Lock k before (goes_with (move_here k.rho here) (move_instruction k.rho i) (x ∷ move_values k.rho s.top.stack) (move_state k before s) bytes) (goes_with here i (v ∷ s.top.stack) s bytes)) (sym e)
        (goes_with_lock k before here i (v ∷ s.top.stack) s bytes c (all_push (keeps_value k.keep) v s.top.stack hv c.top.stack))

    constructs_lock : (d : Callee) (vs : List Value) (n : ℕ) (s : State) → KeptCallee k.keep before d → IsTrue (keeps_values k.keep vs) → Covered k.keep before s
        → Lock k before (constructs after (move_here k.rho here) (move_instruction k.rho i) (move_callee k.rho d) (move_values k.rho vs) n (move_state k before s)) (constructs before here i d vs n s)
    constructs_lock d vs n s hd hv c =
        let f : Gives = gives_made (move_here k.rho here) (move_instruction k.rho i) (value.Object n) in
        let g : Gives = gives_made here i (value.Object n) in
        subst (λ (v : Value). Lock k before (invoke after (move_callee k.rho d) (v ∷ move_values k.rho vs) (waits.Makes n) (move_state k before s) f) (invoke before d (value.Object n ∷ vs) (waits.Makes n) s g)) (move_object k.rho n)
        (invoke_lock k after before a d (value.Object n ∷ vs) (waits.Makes n) s f g hd (and_from (keeps_value k.keep (value.Object n)) (keeps_values k.keep vs) (keeps_object k.keep n) hv) refl c
        (gives_made_lock (value.Object n) (value.Object n) (sym (move_object k.rho n)) (keeps_object k.keep n)))

    abbrev value_made : Here → Instruction → ℕ → Gives
    value_made h j n t result bytes = given (option_and_then boxed_in (object_at t n)) t (λ v. gives_made h j v t result bytes)

    value_made_lock : (n : ℕ) → GivesLock k before (value_made (move_here k.rho here) (move_instruction k.rho i) n) (value_made here i n)
    value_made_lock n t r bytes c h =
        given_moved k before (move_value k.rho) (option_and_then boxed_in (object_at t n)) _ t _ _ (boxed_at k after before a t n) (λ v is.
        gives_made_lock (move_value k.rho v) v refl (boxed_kept k after before a t n v c is) t r bytes c h)

    constructs_value_lock : (d : Callee) (vs : List Value) (n : ℕ) (s : State) → KeptCallee k.keep before d → IsTrue (keeps_values k.keep vs) → Covered k.keep before s
        → Lock k before (constructs_value after (move_here k.rho here) (move_instruction k.rho i) (move_callee k.rho d) (move_values k.rho vs) n (move_state k before s)) (constructs_value before here i d vs n s)
    constructs_value_lock d vs n s hd hv c =
        let f : Gives = value_made (move_here k.rho here) (move_instruction k.rho i) n in
        let g : Gives = value_made here i n in
        let p : Value = value.Pointer (path_into_box n d.called.owner) in
        let hp : IsTrue (keeps_value k.keep p) = keeps_pointer k.keep (path_into_box n d.called.owner) ∙ use_owner k.keep d.called hd.named in
        subst (λ (v : Value). Lock k before (invoke after (move_callee k.rho d) (v ∷ move_values k.rho vs) (waits.MakesValue n) (move_state k before s) f) (invoke before d (p ∷ vs) (waits.MakesValue n) s g)) (move_pointer k.rho (path_into_box n d.called.owner))
        (invoke_lock k after before a d (p ∷ vs) (waits.MakesValue n) s f g hd (and_from (keeps_value k.keep p) (keeps_values k.keep vs) hp hv) refl c (value_made_lock n))

    makes_with_lock : (d : Callee) (s : State) (zero : Value) (t : List Value × List Value) → KeptCallee k.keep before d → IsTrue (keeps_made k.keep d.called.owner) → IsTrue (keeps_value k.keep zero) → Covered k.keep before s → KeptTaken k.keep t
        → Lock k before (makes_with after (move_here k.rho here) (move_instruction k.rho i) (move_callee k.rho d) (move_state k before s) (move_value k.rho zero) (move_taken k.rho t)) (makes_with before here i d s zero t)
    makes_with_lock d s zero t hd hm hz c ht =
        let e : TypeExpr = d.called.owner in
        let he : IsTrue (keeps_expr k.keep e) = use_owner k.keep d.called hd.named in
        let w : State = waiting t.1 s in
        let cw : Covered k.keep before w = waiting_covered t.1 s c ht.rest in
        if_lock k before _ (is_value before e) _ _ _ _ (is_value_moved k after before a e he)
        (λ b. made_lock k before (object.Boxed e zero) w (constructs_value after (move_here k.rho here) (move_instruction k.rho i) (move_callee k.rho d) (move_values k.rho t.0)) (constructs_value before here i d t.0) cw
        (and_from (keeps_made k.keep e) (keeps_value k.keep zero) hm hz) (λ n u cu. constructs_value_lock d t.0 n u hd ht.args cu))
        (λ b. subst (λ (o : Obj). Lock k before (made o (move_state k before w) (constructs after (move_here k.rho here) (move_instruction k.rho i) (move_callee k.rho d) (move_values k.rho t.0))) (made (new_instance before e) w (constructs before here i d t.0)))
        (sym (ap (object.Instance (move_expr k.rho e)) (zeros_move k after before a e he)))
        (made_lock k before (new_instance before e) w (constructs after (move_here k.rho here) (move_instruction k.rho i) (move_callee k.rho d) (move_values k.rho t.0)) (constructs before here i d t.0) cw
        (and_from (keeps_made k.keep e) _ hm (zeros_kept k after before a e he)) (λ n u cu. constructs_lock d t.0 n u hd ht.args cu)))

    may_make_moved : (d : Callee) → KeptCallee k.keep before d → may_make after (move_callee k.rho d) ≡ may_make before d
    may_make_moved d hd =
        ap (λ (h : Option Head). d.method.constructor && d.signature.this && not (head_has type_flags.ABSTRACT h || head_has type_flags.INTERFACE h)) (head_moved k after before a d.called.owner (use_owner k.keep d.called hd.named))

    makes_taken : (d : Callee) (s : State) (zero : Value) → KeptCallee k.keep before d → IsTrue (keeps_made k.keep d.called.owner) → IsTrue (keeps_value k.keep zero) → Covered k.keep before s
        → Lock k before (given (taken (length (move_callee k.rho d).signature.params) (move_values k.rho s.top.stack)) (move_state k before s) (makes_with after (move_here k.rho here) (move_instruction k.rho i) (move_callee k.rho d) (move_state k before s) (move_value k.rho zero)))
        (given (taken (length d.signature.params) s.top.stack) s (makes_with before here i d s zero))
    makes_taken d s zero hd hm hz c =
        given_moved k before (move_taken k.rho) (taken (length d.signature.params) s.top.stack) _ s _ _ (taken_params d s) (λ t is.
        makes_with_lock d s zero t hd hm hz c (taken_kept k.keep (length d.signature.params) s.top.stack t c.top.stack is))

    makes_lock : (s : State) (d : Callee) → KeptCallee k.keep before d → MayBegin k.keep d.called.owner → IsTrue (keeps_made k.keep d.called.owner) → Covered k.keep before s
        → Lock k before (makes after (move_here k.rho here) (move_instruction k.rho i) (move_state k before s) (move_callee k.rho d)) (makes before here i s d)
    makes_lock s d hd b hm c =
        let he : IsTrue (keeps_expr k.keep d.called.owner) = use_owner k.keep d.called hd.named in
        required_lock k before _ (may_make before d) s _ _ (may_make_moved d hd) (λ e.
        had_moved k before (move_value k.rho) (zero_of before d.called.owner) _ s
        (λ zero. begun_for after (move_callee k.rho d) (move_state k before s) (λ t. given (taken (length (move_callee k.rho d).signature.params) t.top.stack) t (makes_with after (move_here k.rho here) (move_instruction k.rho i) (move_callee k.rho d) t zero)))
        (λ zero. begun_for before d s (λ t. given (taken (length d.signature.params) t.top.stack) t (makes_with before here i d t zero)))
        (zero_moved k after before a d.called.owner he) (λ zero is.
        begun_lock d s (λ t. given (taken (length (move_callee k.rho d).signature.params) t.top.stack) t (makes_with after (move_here k.rho here) (move_instruction k.rho i) (move_callee k.rho d) t (move_value k.rho zero)))
        (λ t. given (taken (length d.signature.params) t.top.stack) t (makes_with before here i d t zero)) hd b c (makes_taken d s zero hd hm (zero_kept k after before a d.called.owner zero he is) c)))

    -- ---- prefixes

    under_lock : (s : State) (p : Prefix) → IsTrue (keeps_prefix k.keep p) → Covered k.keep before s
        → Lock k before (goes_under (move_here k.rho here) (move_instruction k.rho i) (move_state k before s) (move_prefix k.rho p)) (goes_under here i s p)
    under_lock s p hp c =
        required_lock k before _ (may_go here.code i.at i.next) s _ _ (may_go_moved k before here.code i.at i.next) (λ e.
        record {
          same = refl;
          kept = record {
            heap = c.heap;
            statics = c.statics;
            inits = c.inits;
            below = c.below;
            top = record { method = c.top.method; args = c.top.args; locals = c.top.locals; stack = c.top.stack; prefix = hp; waits = c.top.waits };
          };
        })

    other_lock : (s : State) → Covered k.keep before s → Lock k before (other_prefix (move_here k.rho here) (move_instruction k.rho i) (move_state k before s)) (other_prefix here i s)
    other_lock s c = if_lock k before _ (i.opcode == READONLY) _ _ _ _ refl (λ e. under_lock s prefixed.Readonly refl c) (λ e. under_lock s prefixed.None refl c)

    -- ---- the forms

    module _ (r : KeptHere k.keep before here) (s : State) (c : Covered k.keep before s) where
      named_uses : (o : Known MethodUse) → IsTrue (if_good (keeps_called k.keep before) o) → IsTrue (if_good (keeps_use k.keep) o)
      named_uses o h = weaker (keeps_called k.keep before) (keeps_use k.keep) (λ u g. first_so (keeps_use k.keep u) (begins_expr k.keep u.owner) (first_so _ (calls_own before u) g)) o h

      begins_at : (o : Known MethodUse) (u : MethodUse) (d : Callee) → IsTrue (if_good (keeps_called k.keep before) o) → o ≡ Good u → plain (exprs.subst here.targs here.margs u.owner) ≡ d.called.owner → MayBegin k.keep d.called.owner
      begins_at o u d h e is =
          subst (MayBegin k.keep) is (begins_closed k.keep here.targs here.margs u.owner (second_so (keeps_use k.keep u) (begins_expr k.keep u.owner) (first_so _ (calls_own before u) (known_is (keeps_called k.keep before) o u e h))))

      own_closed : (u : MethodUse) (f : Option Method) → IsTrue (is_of_owner f u.owner) → IsTrue (is_of_owner f (plain (exprs.subst here.targs here.margs u.owner)))
      own_closed u None h = refl
      own_closed u (Some f) h = passes_closed (nat_eq f.owner) here.targs here.margs u.owner h

      owned_at : (o : Known MethodUse) (u : MethodUse) (d : Callee) → IsTrue (if_good (keeps_called k.keep before) o) → o ≡ Good u → u.method ≡ d.called.method → plain (exprs.subst here.targs here.margs u.owner) ≡ d.called.owner → IsTrue (calls_own before d.called)
      owned_at o u d h e m is =
          subst (λ (x : MethodId). IsTrue (is_of_owner (before.method x.0) d.called.owner)) m
          (subst (λ (x : TypeExpr). IsTrue (is_of_owner (before.method u.method.0) x)) is
          (own_closed u (before.method u.method.0) (second_so _ (calls_own before u) (known_is (keeps_called k.keep before) o u e h))))

      call_by : (u : Use) → IsTrue (keeps_operand k.keep before u)
          → Lock k before (elim (move_operand k.rho u) [ method m ↦ closed_use after (move_here k.rho here) m (move_state k before s) (calls after (move_here k.rho here) (move_instruction k.rho i) (move_state k before s)) | _ ↦ stuck (move_state k before s) ])
          (elim u [ method m ↦ closed_use before here m s (calls before here i s) | _ ↦ stuck s ])
      call_by (method o) h = closed_use_lock k after before a here r s o _ _ (named_uses o h) (λ u d e m is hd. calls_lock s d hd (owned_at o u d h e m is) (begins_at o u d h e is) c)
      call_by _ h = stuck_lock k before s

      pub call_lock : IsTrue (keeps_operand k.keep before i.operand) → Lock k before (call after (move_here k.rho here) (move_instruction k.rho i) (move_state k before s)) (call before here i s)
      unfolding call
      call_lock h = ends_at_lock k before s _ _ (call_by i.operand h)

      abbrev MakesOwner : MethodUse → Bool
      MakesOwner u = shows_expr k.keep u.owner && news_expr k.keep u.owner

      made_at : (o : Known MethodUse) (u : MethodUse) (d : Callee) → IsTrue (if_good MakesOwner o) → o ≡ Good u → plain (exprs.subst here.targs here.margs u.owner) ≡ d.called.owner → IsTrue (keeps_made k.keep d.called.owner)
      made_at o u d h e is =
          let g : IsTrue (MakesOwner u) = known_is MakesOwner o u e h in
          subst (λ (t : TypeExpr). IsTrue (keeps_made k.keep t)) is
          (and_from (shows_expr k.keep (plain (exprs.subst here.targs here.margs u.owner))) (makes_expr k.keep (plain (exprs.subst here.targs here.margs u.owner)))
          ((in_names k after before a here.targs here.margs r.targs r.margs u.owner).shown (first_so (shows_expr k.keep u.owner) (news_expr k.keep u.owner) g))
          (makes_closed k.keep here.targs here.margs u.owner (second_so (shows_expr k.keep u.owner) (news_expr k.keep u.owner) g)))

      new_by : (u : Use) → IsTrue (keeps_operand k.keep before u) → IsTrue (keeps_of_form k.keep i.opcode form.NewObj u)
          → Lock k before (elim (move_operand k.rho u) [ method m ↦ closed_use after (move_here k.rho here) m (move_state k before s) (makes after (move_here k.rho here) (move_instruction k.rho i) (move_state k before s)) | _ ↦ stuck (move_state k before s) ])
          (elim u [ method m ↦ closed_use before here m s (makes before here i s) | _ ↦ stuck s ])
      new_by (method o) h g = closed_use_lock k after before a here r s o _ _ (named_uses o h) (λ u d e m is hd. makes_lock s d hd (begins_at o u d h e is) (made_at o u d g e is) c)
      new_by _ h g = stuck_lock k before s

      pub new_object_lock : IsTrue (keeps_operand k.keep before i.operand) → IsTrue (keeps_of_form k.keep i.opcode form.NewObj i.operand)
          → Lock k before (new_object after (move_here k.rho here) (move_instruction k.rho i) (move_state k before s)) (new_object before here i s)
      unfolding new_object
      new_object_lock h g = new_by i.operand h g

      shown_in : (e d : TypeExpr) → plain (exprs.subst here.targs here.margs e) ≡ d → IsTrue (shows_expr k.keep e) → IsTrue (shows_expr k.keep d)
      shown_in e d is h = subst (λ (x : TypeExpr). IsTrue (shows_expr k.keep x)) is ((in_names k after before a here.targs here.margs r.targs r.margs e).shown h)

      -- of other prefixes nothing is shown
      shown_where : (b c : Bool) → b ≡ true → IsTrue (not b || c) → IsTrue c
      shown_where true c e h = h
      shown_where false c e h = absurd (false≢true e)

      constrained_by : (u : Use) → (i.opcode == CONSTRAINED) ≡ true → IsTrue (keeps_operand k.keep before u) → IsTrue (keeps_of_form k.keep i.opcode form.Prefix u)
          → Lock k before (elim (move_operand k.rho u) [ typ e ↦ closed after (move_here k.rho here) e (move_state k before s) (λ d. goes_under (move_here k.rho here) (move_instruction k.rho i) (move_state k before s) (prefixed.Constrained d)) | _ ↦ stuck (move_state k before s) ])
          (elim u [ typ e ↦ closed before here e s (λ d. goes_under here i s (prefixed.Constrained d)) | _ ↦ stuck s ])
      constrained_by (typ o) b h g =
          closed_lock k after before a here r s o (λ d. goes_under (move_here k.rho here) (move_instruction k.rho i) (move_state k before s) (prefixed.Constrained d)) (λ d. goes_under here i s (prefixed.Constrained d)) h
          (λ e d at is hd. under_lock s (prefixed.Constrained d) (shown_in e d is (known_is (shows_expr k.keep) o e at (shown_where (i.opcode == CONSTRAINED) (if_good (shows_expr k.keep) o) b g))) c)
      constrained_by _ b h g = stuck_lock k before s

      pub prefix_form_lock : IsTrue (keeps_operand k.keep before i.operand) → IsTrue (keeps_of_form k.keep i.opcode form.Prefix i.operand)
          → Lock k before (prefix after (move_here k.rho here) (move_instruction k.rho i) (move_state k before s)) (prefix before here i s)
      unfolding prefix
      prefix_form_lock h g = if_lock k before _ (i.opcode == CONSTRAINED) _ _ _ _ refl (λ e. constrained_by i.operand e h g) (λ e. other_lock s c)
