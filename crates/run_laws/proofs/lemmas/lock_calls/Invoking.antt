-- What is called runs, for each kind of receiver.
use Rattle.std.proofs.Common.{◌≡◌, ℕ, Bool, true, false, ◌||◌, not, List, [], ◌∷◌, Option, Some, None, refl, sym, ap, subst, ◌∙◌}
use Rattle.std.specs.Prelude.{IsTrue, ◌==◌, if◌then◌else◌}
use Rattle.std.specs.Option.{option_map}
use Rattle.std.specs.Cmp.{first_so, second_so}
use Rattle.std.proofs.lemmas.Bool.{and_from}
use Rattle.il_base.specs.declared.opcode.TheConstants.{CALL}
use Rattle.il_base.specs.declared.world_model.expr.TypeExpr.{TypeExpr}
use Rattle.il_base.specs.world_model.Exprs.{same_expr}
use Rattle.il_base.specs.declared.core_table.names.CoreName.TheVariants as name
use Rattle.il_base.specs.declared.cil_values.path.Path.{Path}
use Rattle.il_base.specs.declared.cil_values.value.Value.{Value, out-Value, roll-Value}
use Rattle.il_base.specs.declared.cil_values.value.Value.TheVariants as value
use Rattle.il_base.specs.declared.cil_values.object.Obj.TheVariants as object
use Rattle.il_base.specs.declared.cil_values.definition.Signature.{Signature}
use Rattle.il_base.specs.declared.cil_values.resolved.Instruction.{Instruction}
use Rattle.il_base.specs.declared.cil_values.core_call.CoreCall.{CoreCall}
use Rattle.il_base.specs.declared.cil_values.state.State.{State}
use Rattle.il_base.specs.declared.cil_values.frame.Prefix.{Prefix}
use Rattle.il_base.specs.declared.cil_values.frame.Prefix.TheVariants as prefixed
use Rattle.il_base.specs.declared.cil_values.frame.Waits.{Waits}
use Rattle.il_base.specs.declared.cil_values.frame.Waits.TheVariants as waits
use Rattle.rules.specs.step_rules.Queries.{Queries}
use Rattle.rules.specs.step_rules.Next.{Next}
use Rattle.rules.specs.step_rules.Words.{Here, stuck, goes_with, object_at}
use Rattle.rules.specs.step_rules.Closing.{Callee}
use Rattle.rules.specs.step_rules.Stores.{all_fit, is_value}
use Rattle.rules.specs.step_rules.Objects.{type_of}
use Rattle.rules.specs.step_rules.Frames.{definition_of}
use Rattle.rules.specs.step_rules.Dispatch.{is_abstract, is_virtual, found_from, this_for}
use Rattle.rules.specs.step_rules.CoreWords.{Gives}
use Rattle.rules.specs.step_rules.Calls.{after_this, slot_values, invoked, invoke, pushed, gives_result, runs, runs_on, call_on, virtual_on, call_virtual, same_definition, is_own, boxed_on, constrained_found, constrained_at, constrained_on, by_prefix, receives, received}
use Rattle.rules.specs.change_rules.Change.{Change}
use Rattle.rules.specs.change_rules.Moves.{move_expr, move_path, move_value, move_values}
use Rattle.rules.specs.change_rules.Answers.{move_signature, move_here, move_instruction, move_callee}
use Rattle.rules.specs.change_rules.States.{move_obj, move_prefix, move_waits, move_state}
use Rattle.rules.specs.change_rules.Keeps.{keeps_expr, shows_expr, makes_expr, keeps_made, calls_own, keeps_path, keeps_value, keeps_values, keeps_signature}
use Rattle.rules.specs.change_rules.Covered.{keeps_obj, keeps_prefix, keeps_waits, Covered}
use Rattle.rules.specs.change_rules.Agree.{Agree, is_asked}
use Rattle.rules.specs.change_rules.Lock.{Lock, keeps_result, GivesLock}
use Rattle.base_laws.proofs.lemmas.change_laws.Same.{same_exprs_moved, same_types_moved}
use Rattle.base_laws.proofs.lemmas.change_laws.Values.{move_object, move_pointer, keeps_object, keeps_pointer}
use Rattle.run_laws.proofs.lemmas.lock_words.Words.{stuck_lock, given_moved, required_lock, if_lock, made_lock, goes_with_lock}
use Rattle.run_laws.proofs.lemmas.lock_words.Cases.{kept_cases}
use Rattle.run_laws.proofs.lemmas.lock_words.Definitions.{definition_moved}
use Rattle.run_laws.proofs.lemmas.lock_words.Fits.{is_value_moved}
use Rattle.run_laws.proofs.lemmas.lock_throwing.Objects.{shown_kept, type_of_moved, type_of_made, object_moved, object_kept}
use Rattle.run_laws.proofs.lemmas.lock_throwing.Searching.{raise_lock}
use Rattle.run_laws.proofs.lemmas.lock_places.Options.{Made, made_is}
use Rattle.run_laws.proofs.lemmas.lock_places.Closing.{use_called, use_method, use_owner, KeptCallee}
use Rattle.run_laws.proofs.lemmas.lock_places.Stores.{all_fit_moved, all_fit_kept}
use Rattle.run_laws.proofs.lemmas.lock_places.Places.{alive_lock, at_place_lock}
use Rattle.run_laws.proofs.lemmas.lock_frames.Entering.{enter_lock}
use Rattle.run_laws.proofs.lemmas.lock_frames.Dispatching.{dispatched_lock, this_moved, this_kept}
use Rattle.run_laws.proofs.lemmas.lock_members.Members.{core_call_lock}

null_asked : IsTrue (is_asked name.NullReferenceException)
unfolding is_asked
null_asked = refl

module _ (k : Change) where
  pub pushed_moved : (o : Option Value) (stack : List Value) → pushed (option_map (move_value k.rho) o) (move_values k.rho stack) ≡ move_values k.rho (pushed o stack)
  pushed_moved None stack = refl
  pushed_moved (Some v) stack = refl

  pub pushed_kept : (o : Option Value) (stack : List Value) → IsTrue (keeps_result k.keep o) → IsTrue (keeps_values k.keep stack) → IsTrue (keeps_values k.keep (pushed o stack))
  pushed_kept None stack h g = g
  pushed_kept (Some v) stack h g = and_from (keeps_value k.keep v) (keeps_values k.keep stack) h g

  definitions_by : (o p : Option ℕ) → same_definition (option_map k.rho.typ o) (option_map k.rho.typ p) ≡ same_definition o p
  definitions_by None None = refl
  definitions_by None (Some n) = refl
  definitions_by (Some m) None = refl
  definitions_by (Some m) (Some n) = same_types_moved k.back k.rho k.undone m n

  own_moved : (owner e : TypeExpr) → is_own (move_expr k.rho owner) (move_expr k.rho e) ≡ is_own owner e
  own_moved owner e =
      let same : same_definition (definition_of (move_expr k.rho owner)) (definition_of (move_expr k.rho e)) ≡ same_definition (definition_of owner) (definition_of e)
      = (λ j. same_definition (definition_moved k.rho owner j) (definition_moved k.rho e j)) ∙ definitions_by (definition_of owner) (definition_of e) in
      λ i. same_exprs_moved k.back k.rho k.undone owner e i || same i

module _ (k : Change) (after before : Queries) (a : Agree k after before) where
  -- ---- arguments as slots keep them

  rest_by : (v : Value) (o : Option (List Value)) → option_map (λ ws. move_value k.rho v ∷ ws) (option_map (move_values k.rho) o) ≡ option_map (move_values k.rho) (option_map (λ ws. v ∷ ws) o)
  rest_by v None = refl
  rest_by v (Some ws) = refl

  after_this_moved : (sig : Signature) → IsTrue (keeps_signature k.keep sig) → (vs : List Value) → after_this after (move_signature k.rho sig) (move_values k.rho vs) ≡ option_map (move_values k.rho) (after_this before sig vs)
  after_this_moved sig h [] = refl
  after_this_moved sig h (v ∷ vs) =
      ap (option_map (λ ws. move_value k.rho v ∷ ws)) (all_fit_moved k after before a sig.params vs (first_so _ _ h)) ∙ rest_by v (all_fit before sig.params vs)

  after_this_kept : (sig : Signature) (vs ws : List Value) → IsTrue (keeps_values k.keep vs) → after_this before sig vs ≡ Some ws → IsTrue (keeps_values k.keep ws)
  after_this_kept sig [] ws h e = cc
  after_this_kept sig (v ∷ vs) ws h e =
      let m : Made (λ xs. v ∷ xs) (all_fit before sig.params vs) ws = made_is _ _ _ e in
      subst (λ (xs : List Value). IsTrue (keeps_values k.keep xs)) m.is
      (and_from (keeps_value k.keep v) (keeps_values k.keep m.x) (first_so (keeps_value k.keep v) (keeps_values k.keep vs) h)
      (all_fit_kept k after before a sig.params vs m.x (second_so (keeps_value k.keep v) (keeps_values k.keep vs) h) m.there))

  slots_by : (b : Bool) (sig : Signature) → IsTrue (keeps_signature k.keep sig) → (vs : List Value)
      → (if b then after_this after (move_signature k.rho sig) (move_values k.rho vs) else all_fit after (move_signature k.rho sig).params (move_values k.rho vs))
      ≡ option_map (move_values k.rho) (if b then after_this before sig vs else all_fit before sig.params vs)
  slots_by true sig h vs = after_this_moved sig h vs
  slots_by false sig h vs = all_fit_moved k after before a sig.params vs (first_so _ _ h)

  slots_kept : (b : Bool) (sig : Signature) (vs ws : List Value) → IsTrue (keeps_values k.keep vs) → (if b then after_this before sig vs else all_fit before sig.params vs) ≡ Some ws → IsTrue (keeps_values k.keep ws)
  slots_kept true sig vs ws h e = after_this_kept sig vs ws h e
  slots_kept false sig vs ws h e = all_fit_kept k after before a sig.params vs ws h e

  -- ---- what is called runs

  invoked_lock : (d : Callee) (vs : List Value) (w : Waits) (s : State) (f g : Gives) → KeptCallee k.keep before d → IsTrue (keeps_values k.keep vs) → IsTrue (keeps_waits k.keep w) → Covered k.keep before s → GivesLock k before f g → (o : Option CoreCall)
      → before.core d.called.method.0 ≡ o → Lock k before (invoked after (move_callee k.rho d) (move_values k.rho vs) (move_waits k.rho w) (move_state k before s) f o) (invoked before d vs w s g o)
  invoked_lock d vs w s f g hd hv hw c gl (Some m) is =
      core_call_lock k after before a d m (a.searches_nothing d.called.method.0 m (use_called k.keep d.called hd.named) is) vs s f g hd hv c gl
  invoked_lock d vs w s f g hd hv hw c gl None is =
      given_moved k before (move_values k.rho) (slot_values before d.signature vs) _ s _ _ (slots_by d.signature.this d.signature hd.signature vs) (λ ws is.
      enter_lock k after before a d ws w s hd (slots_kept d.signature.this d.signature vs ws hv is) hw c)

  pub invoke_lock : (d : Callee) (vs : List Value) (w : Waits) (s : State) (f g : Gives) → KeptCallee k.keep before d → IsTrue (keeps_values k.keep vs) → IsTrue (keeps_waits k.keep w) → Covered k.keep before s → GivesLock k before f g
      → Lock k before (invoke after (move_callee k.rho d) (move_values k.rho vs) (move_waits k.rho w) (move_state k before s) f) (invoke before d vs w s g)
  unfolding invoke
  invoke_lock d vs w s f g hd hv hw c gl =
      subst (λ (o : Option CoreCall). Lock k before (invoked after (move_callee k.rho d) (move_values k.rho vs) (move_waits k.rho w) (move_state k before s) f o) (invoked before d vs w s g (before.core d.called.method.0)))
      (sym (a.core d.called.method.0 (use_method k.keep d.called hd.named))) (invoked_lock d vs w s f g hd hv hw c gl (before.core d.called.method.0) refl)

  module _ (here : Here) (i : Instruction) where
    gives_result_lock : GivesLock k before (gives_result (move_here k.rho here) (move_instruction k.rho i)) (gives_result here i)
    gives_result_lock s v bytes c h =
        subst (λ (stack : List Value). Lock k before (goes_with (move_here k.rho here) (move_instruction k.rho i) stack (move_state k before s) bytes) (goes_with here i (pushed v s.top.stack) s bytes)) (sym (pushed_moved k v s.top.stack))
        (goes_with_lock k before here i (pushed v s.top.stack) s bytes c (pushed_kept k v s.top.stack h c.top.stack))

    pub runs_lock : (d : Callee) (vs : List Value) (s : State) → KeptCallee k.keep before d → IsTrue (keeps_values k.keep vs) → Covered k.keep before s
        → Lock k before (runs after (move_here k.rho here) (move_instruction k.rho i) (move_callee k.rho d) (move_values k.rho vs) (move_state k before s)) (runs before here i d vs s)
    runs_lock d vs s hd hv c = invoke_lock d vs waits.Nothing s (gives_result (move_here k.rho here) (move_instruction k.rho i)) (gives_result here i) hd hv refl c gives_result_lock

    runs_this : (d : Callee) (w v : Value) (vs : List Value) (s : State) → w ≡ move_value k.rho v → KeptCallee k.keep before d → IsTrue (keeps_value k.keep v) → IsTrue (keeps_values k.keep vs) → Covered k.keep before s
        → Lock k before (runs after (move_here k.rho here) (move_instruction k.rho i) (move_callee k.rho d) (w ∷ move_values k.rho vs) (move_state k before s)) (runs before here i d (v ∷ vs) s)
    runs_this d w v vs s e hd hv hvs c =
        subst (λ (x : Value). Lock k before (runs after (move_here k.rho here) (move_instruction k.rho i) (move_callee k.rho d) (x ∷ move_values k.rho vs) (move_state k before s)) (runs before here i d (v ∷ vs) s)) (sym e)
        (runs_lock d (v ∷ vs) s hd (and_from (keeps_value k.keep v) (keeps_values k.keep vs) hv hvs) c)

    module _ (vs : List Value) (hvs : IsTrue (keeps_values k.keep vs)) where
      runs_on_lock : (d : Callee) (w v : Value) (s : State) → w ≡ move_value k.rho v → KeptCallee k.keep before d → IsTrue (keeps_value k.keep v) → Covered k.keep before s
          → Lock k before (runs_on after (move_here k.rho here) (move_instruction k.rho i) (move_values k.rho vs) (move_state k before s) w (move_callee k.rho d)) (runs_on before here i vs s v d)
      runs_on_lock d w v s e hd hv c =
          subst (λ (x : Value). Lock k before (runs_on after (move_here k.rho here) (move_instruction k.rho i) (move_values k.rho vs) (move_state k before s) x (move_callee k.rho d)) (runs_on before here i vs s v d)) (sym e)
          (given_moved k before (move_value k.rho) (this_for before s d v) _ s
          (λ this. runs after (move_here k.rho here) (move_instruction k.rho i) (move_callee k.rho d) (this ∷ move_values k.rho vs) (move_state k before s)) (λ this. runs before here i d (this ∷ vs) s)
          (this_moved k after before a s d v hd) (λ this is. runs_this d (move_value k.rho this) this vs s refl hd (this_kept k after before a s d v this c hv is) hvs c))

      module _ (s : State) (c : Covered k.keep before s) where
        -- ---- `call`

        call_on_lock : (d : Callee) → KeptCallee k.keep before d → (v : Value) → IsTrue (keeps_value k.keep v)
            → Lock k before (call_on after (move_here k.rho here) (move_instruction k.rho i) (move_callee k.rho d) (move_values k.rho vs) (move_state k before s) (move_value k.rho v)) (call_on before here i d vs s v)
        unfolding roll-Value denote.Hole.Carrier.roll out-Value denote.Hole.Carrier.out
        call_on_lock d hd =
            let out : Lock k before (stuck (move_state k before s)) (stuck s) = stuck_lock k before s in
            let owner : is_value after (move_expr k.rho d.called.owner) ≡ is_value before d.called.owner = is_value_moved k after before a d.called.owner (use_owner k.keep d.called hd.named) in
            kept_cases k (λ w v. Lock k before (call_on after (move_here k.rho here) (move_instruction k.rho i) (move_callee k.rho d) (move_values k.rho vs) (move_state k before s) w) (call_on before here i d vs s v))
            (raise_lock k after before a name.NullReferenceException null_asked s c) (λ n. out) (λ n. out) (λ n. out)
            (λ n. required_lock k before _ (not (is_value before d.called.owner)) s _ _ (ap not owner) (λ e. runs_this d (value.Object n) (value.Object n) vs s (sym (move_object k.rho n)) hd (keeps_object k.keep n) hvs c))
            (λ p h. required_lock k before _ (is_value before d.called.owner) s _ _ owner (λ e. runs_this d (value.Pointer (move_path k.rho p)) (value.Pointer p) vs s (sym (move_pointer k.rho p)) hd (keeps_pointer k.keep p ∙ h) hvs c))
            (λ e cells h q. out) (λ e h. out) (λ e h. out)

        -- ---- `callvirt`

        found_from_lock : (d : Callee) (e : TypeExpr) (f g : Callee → Next) → KeptCallee k.keep before d → IsTrue (calls_own before d.called) → IsTrue (keeps_made k.keep e) → ((x : Callee) → KeptCallee k.keep before x → Lock k before (f (move_callee k.rho x)) (g x))
            → Lock k before (found_from after (move_callee k.rho d) (move_expr k.rho e) (move_state k before s) f) (found_from before d e s g)
        unfolding found_from
        found_from_lock d e f g hd ho he l =
            if_lock k before _ (is_virtual d.method) _ _ _ _ refl (λ b. dispatched_lock k after before a d e s f g hd ho he l) (λ b. required_lock k before _ (not (is_abstract d.method)) s _ _ refl (λ n. l d hd))

        virtual_lock : (d : Callee) → KeptCallee k.keep before d → IsTrue (calls_own before d.called) → (n : ℕ)
            → Lock k before (virtual_on after (move_here k.rho here) (move_instruction k.rho i) (move_callee k.rho d) (move_values k.rho vs) (move_state k before s) n) (virtual_on before here i d vs s n)
        virtual_lock d hd own n =
            given_moved k before (move_obj k before) (object_at s n) _ s _ _ (object_moved k after before a s n) (λ o is.
            let ho : IsTrue (keeps_obj k.keep before o) = object_kept k after before a s c n o is in
            subst (λ (t : TypeExpr). Lock k before (found_from after (move_callee k.rho d) t (move_state k before s) (runs_on after (move_here k.rho here) (move_instruction k.rho i) (move_values k.rho vs) (move_state k before s) (value.Object n)))
            (found_from before d (type_of before o) s (runs_on before here i vs s (value.Object n)))) (sym (type_of_moved k after before a o))
            (found_from_lock d (type_of before o) (runs_on after (move_here k.rho here) (move_instruction k.rho i) (move_values k.rho vs) (move_state k before s) (value.Object n)) (runs_on before here i vs s (value.Object n)) hd own (type_of_made k after before a o ho)
            (λ x hx. runs_on_lock x (value.Object n) (value.Object n) s (sym (move_object k.rho n)) hx (keeps_object k.keep n) c)))

        call_virtual_lock : (d : Callee) → KeptCallee k.keep before d → IsTrue (calls_own before d.called) → (v : Value) → IsTrue (keeps_value k.keep v)
            → Lock k before (call_virtual after (move_here k.rho here) (move_instruction k.rho i) (move_callee k.rho d) (move_values k.rho vs) (move_state k before s) (move_value k.rho v)) (call_virtual before here i d vs s v)
        unfolding roll-Value denote.Hole.Carrier.roll out-Value denote.Hole.Carrier.out
        call_virtual_lock d hd own =
            let out : Lock k before (stuck (move_state k before s)) (stuck s) = stuck_lock k before s in
            kept_cases k (λ w v. Lock k before (call_virtual after (move_here k.rho here) (move_instruction k.rho i) (move_callee k.rho d) (move_values k.rho vs) (move_state k before s) w) (call_virtual before here i d vs s v))
            (raise_lock k after before a name.NullReferenceException null_asked s c) (λ n. out) (λ n. out) (λ n. out) (λ n. virtual_lock d hd own n) (λ p h. out) (λ e cells h q. out) (λ e h. out) (λ e h. out)

        -- ---- `constrained.`

        boxed_lock : (e : TypeExpr) (p : Path) (d : Callee) → IsTrue (keeps_made k.keep e) → IsTrue (keeps_path k.keep p) → KeptCallee k.keep before d
            → Lock k before (boxed_on after (move_here k.rho here) (move_instruction k.rho i) (move_values k.rho vs) (move_state k before s) (move_expr k.rho e) (move_path k.rho p) (move_callee k.rho d)) (boxed_on before here i vs s e p d)
        boxed_lock e p d he hp hd =
            at_place_lock k after before a p s _ _ c hp (λ v hv.
            made_lock k before (object.Boxed e v) s (λ n t. runs_on after (move_here k.rho here) (move_instruction k.rho i) (move_values k.rho vs) t (value.Object n) (move_callee k.rho d)) (λ n t. runs_on before here i vs t (value.Object n) d) c
            (and_from (keeps_made k.keep e) (keeps_value k.keep v) he hv) (λ n t ct. runs_on_lock d (value.Object n) (value.Object n) t (sym (move_object k.rho n)) hd (keeps_object k.keep n) ct))

        found_lock : (e : TypeExpr) (p : Path) (d : Callee) → IsTrue (keeps_made k.keep e) → IsTrue (keeps_path k.keep p) → KeptCallee k.keep before d
            → Lock k before (constrained_found after (move_here k.rho here) (move_instruction k.rho i) (move_values k.rho vs) (move_state k before s) (move_expr k.rho e) (move_path k.rho p) (move_callee k.rho d)) (constrained_found before here i vs s e p d)
        found_lock e p d he hp hd =
            if_lock k before _ (is_own d.called.owner e) _ _ _ _ (own_moved k d.called.owner e)
            (λ b. runs_this d (value.Pointer (move_path k.rho p)) (value.Pointer p) vs s (sym (move_pointer k.rho p)) hd (keeps_pointer k.keep p ∙ hp) hvs c) (λ b. boxed_lock e p d he hp hd)

        at_lock : (d : Callee) (e : TypeExpr) (p : Path) → KeptCallee k.keep before d → IsTrue (calls_own before d.called) → IsTrue (shows_expr k.keep e) → IsTrue (keeps_path k.keep p)
            → Lock k before (constrained_at after (move_here k.rho here) (move_instruction k.rho i) (move_callee k.rho d) (move_values k.rho vs) (move_state k before s) (move_expr k.rho e) (move_path k.rho p)) (constrained_at before here i d vs s e p)
        at_lock d e p hd own shown hp =
            let he : IsTrue (keeps_expr k.keep e) = shown_kept k.keep e shown in
            if_lock k before _ (is_value before e) _ _ _ _ (is_value_moved k after before a e he)
            (λ b. let made : IsTrue (keeps_made k.keep e) = and_from (shows_expr k.keep e) (makes_expr k.keep e) shown (a.makes_values e he b) in
            found_from_lock d e (constrained_found after (move_here k.rho here) (move_instruction k.rho i) (move_values k.rho vs) (move_state k before s) (move_expr k.rho e) (move_path k.rho p)) (constrained_found before here i vs s e p) hd own made
            (λ x hx. found_lock e p x made hp hx))
            (λ b. at_place_lock k after before a p s (call_virtual after (move_here k.rho here) (move_instruction k.rho i) (move_callee k.rho d) (move_values k.rho vs) (move_state k before s)) (call_virtual before here i d vs s) c hp (λ v hv. call_virtual_lock d hd own v hv))

        constrained_lock : (d : Callee) (e : TypeExpr) → KeptCallee k.keep before d → IsTrue (calls_own before d.called) → IsTrue (shows_expr k.keep e) → (v : Value) → IsTrue (keeps_value k.keep v)
            → Lock k before (constrained_on after (move_here k.rho here) (move_instruction k.rho i) (move_callee k.rho d) (move_values k.rho vs) (move_state k before s) (move_expr k.rho e) (move_value k.rho v)) (constrained_on before here i d vs s e v)
        unfolding roll-Value denote.Hole.Carrier.roll out-Value denote.Hole.Carrier.out
        constrained_lock d e hd own shown =
            let out : Lock k before (stuck (move_state k before s)) (stuck s) = stuck_lock k before s in
            kept_cases k (λ w v. Lock k before (constrained_on after (move_here k.rho here) (move_instruction k.rho i) (move_callee k.rho d) (move_values k.rho vs) (move_state k before s) (move_expr k.rho e) w) (constrained_on before here i d vs s e v))
            (raise_lock k after before a name.NullReferenceException null_asked s c) (λ n. out) (λ n. out) (λ n. out) (λ n. out)
            (λ p h. alive_lock k before p s _ _ (required_lock k before _ (same_expr p.of e) s _ _ (same_exprs_moved k.back k.rho k.undone p.of e) (λ b. at_lock d e p hd own shown h)))
            (λ t cells h q. out) (λ t h. out) (λ t h. out)

        prefix_lock : (d : Callee) → KeptCallee k.keep before d → IsTrue (calls_own before d.called) → (v : Value) → IsTrue (keeps_value k.keep v) → (p : Prefix) → IsTrue (keeps_prefix k.keep p)
            → Lock k before (by_prefix after (move_here k.rho here) (move_instruction k.rho i) (move_callee k.rho d) (move_values k.rho vs) (move_state k before s) (move_prefix k.rho p) (move_value k.rho v)) (by_prefix before here i d vs s p v)
        prefix_lock d hd own v hv (prefixed.Constrained e) hp = constrained_lock d e hd own hp v hv
        prefix_lock d hd own v hv prefixed.None hp = call_virtual_lock d hd own v hv
        prefix_lock d hd own v hv prefixed.Readonly hp = call_virtual_lock d hd own v hv

        pub receives_lock : (d : Callee) → KeptCallee k.keep before d → IsTrue (calls_own before d.called) → (v : Value) → IsTrue (keeps_value k.keep v) → (p : Prefix) → IsTrue (keeps_prefix k.keep p)
            → Lock k before (receives after (move_here k.rho here) (move_instruction k.rho i) (move_callee k.rho d) (move_values k.rho vs) (move_state k before s) (move_prefix k.rho p) (move_value k.rho v)) (receives before here i d vs s p v)
        receives_lock d hd own v hv p hp = if_lock k before _ (i.opcode == CALL) _ _ _ _ refl (λ e. call_on_lock d hd v hv) (λ e. prefix_lock d hd own v hv p hp)

    pub received_lock : (d : Callee) (vs : List Value) (s : State) (p : Prefix) → KeptCallee k.keep before d → IsTrue (calls_own before d.called) → IsTrue (keeps_values k.keep vs) → Covered k.keep before s → IsTrue (keeps_prefix k.keep p)
        → Lock k before (received after (move_here k.rho here) (move_instruction k.rho i) (move_callee k.rho d) (move_values k.rho vs) (move_state k before s) (move_prefix k.rho p)) (received before here i d vs s p)
    received_lock d [] s p hd own hv c hp = stuck_lock k before s
    received_lock d (v ∷ vs) s p hd own hv c hp = receives_lock vs (second_so (keeps_value k.keep v) (keeps_values k.keep vs) hv) s c d hd own v (first_so (keeps_value k.keep v) (keeps_values k.keep vs) hv) p hp
