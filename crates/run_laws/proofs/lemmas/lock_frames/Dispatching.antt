-- Which method a virtual call runs, and what it takes as `this`.
use Rattle.std.proofs.Common.{◌≡◌, ℕ, ◌+◌, Bool, true, false, ◌&&◌, not, length, Option, Some, None, refl, sym, ap, subst, ◌∙◌}
use Rattle.std.specs.Prelude.{IsTrue, nat_eq, if◌then◌else◌}
use Rattle.std.specs.Bool.{beq}
use Rattle.std.specs.Option.{option_map}
use Rattle.std.specs.Cmp.{first_so, second_so}
use Rattle.std.proofs.lemmas.List.{length-map}
use Rattle.il_base.specs.declared.world_model.expr.TypeExpr.{TypeExpr}
use Rattle.il_base.specs.declared.world_model.expr.MethodUse.{MethodUse}
use Rattle.il_base.specs.declared.cil_values.value.Value.{Value, out-Value, roll-Value}
use Rattle.il_base.specs.declared.cil_values.value.Value.TheOpen.{Value-F}
use Rattle.il_base.specs.declared.cil_values.value.Value.TheVariants as value
use Rattle.il_base.specs.declared.cil_values.object.Obj.{Obj}
use Rattle.il_base.specs.declared.cil_values.object.Obj.TheVariants as object
use Rattle.il_base.specs.declared.cil_values.definition.Method.{Method}
use Rattle.il_base.specs.declared.cil_values.definition.Signature.{Signature}
use Rattle.il_base.specs.declared.cil_values.state.State.{State}
use Rattle.rules.specs.step_rules.Queries.{Queries}
use Rattle.rules.specs.step_rules.Next.{Next}
use Rattle.rules.specs.step_rules.Words.{object_at}
use Rattle.rules.specs.step_rules.Closing.{Callee, callee_of}
use Rattle.rules.specs.step_rules.Stores.{is_value}
use Rattle.rules.specs.step_rules.Dispatch.{is_abstract, slots_of, is_called_alike, found_use, dispatched, path_into_box, box_pointer, this_in, this_for}
use Rattle.rules.specs.change_rules.Change.{Change}
use Rattle.rules.specs.change_rules.Moves.{move_expr, move_use, move_value}
use Rattle.rules.specs.change_rules.Answers.{move_signature, move_method, move_callee}
use Rattle.rules.specs.change_rules.States.{move_obj, move_state}
use Rattle.rules.specs.change_rules.Keeps.{keeps_expr, keeps_made, keeps_use, calls_own, keeps_value, keeps_signature, if_good}
use Rattle.rules.specs.change_rules.Covered.{keeps_obj, Covered}
use Rattle.rules.specs.change_rules.Agree.{Agree}
use Rattle.rules.specs.change_rules.Lock.{Lock}
use Rattle.base_laws.proofs.lemmas.change_laws.Values.{move_rolled, move_null, move_i4, move_i8, move_native, move_object, move_pointer, move_handle, move_field_handle, keeps_pointer}
use Rattle.run_laws.proofs.lemmas.lock_words.Words.{given_moved, known_moved, had_moved, required_lock}
use Rattle.run_laws.proofs.lemmas.lock_words.Types.{is_void_moved}
use Rattle.run_laws.proofs.lemmas.lock_words.Fits.{is_value_moved}
use Rattle.run_laws.proofs.lemmas.lock_words.Cases.{moved_cases}
use Rattle.run_laws.proofs.lemmas.lock_throwing.Objects.{made_kept, object_moved, object_kept}
use Rattle.run_laws.proofs.lemmas.lock_places.Options.{Made, made_is, some_is}
use Rattle.run_laws.proofs.lemmas.lock_places.Closing.{use_call, use_method, use_owner, use_args, use_from, KeptCallee, callee_moved, callee_kept}

module _ (k : Change) (after before : Queries) (a : Agree k after before) where
  -- ---- what is found

  slots_by : (n m : ℕ) → n ≡ m → (b : Bool) → (n + (if b then 1 else 0)) ≡ (m + (if b then 1 else 0))
  slots_by n m e b = ap (λ (x : ℕ). x + (if b then 1 else 0)) e

  pub slots_moved : (sig : Signature) → slots_of (move_signature k.rho sig) ≡ slots_of sig
  slots_moved sig = slots_by _ (length sig.params) (length-map sig.params (move_expr k.rho)) sig.this

  alike_moved : (x y : Signature) → is_called_alike (move_signature k.rho x) (move_signature k.rho y) ≡ is_called_alike x y
  alike_moved x y = λ i. nat_eq (slots_moved x i) (slots_moved y i) && beq (is_void_moved k.rho x.ret i) (is_void_moved k.rho y.ret i)

  found_by : (c : Callee) (o : Option MethodUse)
      → option_map (λ (u : MethodUse). record u { args = (move_callee k.rho c).called.args }) (option_map (move_use k.rho) o) ≡ option_map (move_use k.rho) (option_map (λ (u : MethodUse). record u { args = c.called.args }) o)
  found_by c None = refl
  found_by c (Some u) = refl

  found_moved : (e : TypeExpr) (c : Callee) → IsTrue (keeps_made k.keep e) → KeptCallee k.keep before c → IsTrue (calls_own before c.called) → found_use after (move_expr k.rho e) (move_callee k.rho c) ≡ option_map (move_use k.rho) (found_use before e c)
  found_moved e c h hc ho =
      ap (option_map (λ (u : MethodUse). record u { args = (move_callee k.rho c).called.args })) (a.answers e c.called.owner c.called.method.0 h (use_owner k.keep c.called hc.named) (use_method k.keep c.called hc.named) ho)
      ∙ found_by c (before.answers e c.called.owner c.called.method.0)

  found_kept : (e : TypeExpr) (c : Callee) (u : MethodUse) → IsTrue (keeps_made k.keep e) → KeptCallee k.keep before c → IsTrue (calls_own before c.called) → found_use before e c ≡ Some u → IsTrue (keeps_use k.keep u)
  found_kept e c u h hc ho is =
      let m : Made (λ (u : MethodUse). record u { args = c.called.args }) (before.answers e c.called.owner c.called.method.0) u = made_is _ _ _ is in
      let g : IsTrue (keeps_use k.keep m.x) = a.keeps_answers e c.called.owner c.called.method.0 m.x h (use_owner k.keep c.called hc.named) (use_method k.keep c.called hc.named) ho m.there in
      subst (λ (v : MethodUse). IsTrue (keeps_use k.keep v)) m.is
      (use_from k.keep (record m.x { args = c.called.args }) (use_call k.keep m.x g) (use_owner k.keep m.x g) (use_args k.keep c.called hc.named))

  sig_kept : (m : ℕ) (x : Method) → IsTrue (k.keep.method m) → before.method m ≡ Some x → IsTrue (if_good (keeps_signature k.keep) x.signature)
  sig_kept m x h e = second_so _ (if_good (keeps_signature k.keep) x.signature) (first_so _ _ (a.keeps_methods m x h e))

  pub dispatched_lock : (c : Callee) (e : TypeExpr) (s : State) (f g : Callee → Next) → KeptCallee k.keep before c → IsTrue (calls_own before c.called) → IsTrue (keeps_made k.keep e)
      → ((d : Callee) → KeptCallee k.keep before d → Lock k before (f (move_callee k.rho d)) (g d))
      → Lock k before (dispatched after (move_callee k.rho c) (move_expr k.rho e) (move_state k before s) f) (dispatched before c e s g)
  unfolding dispatched
  dispatched_lock c e s f g hc ho he l =
      given_moved k before (move_use k.rho) (found_use before e c) _ s _ _ (found_moved e c he hc ho) (λ u is.
      let hu : IsTrue (keeps_use k.keep u) = found_kept e c u he hc ho is in
      given_moved k before (move_method k.rho) (before.method u.method.0) _ s _ _ (a.method u.method.0 (use_method k.keep u hu)) (λ m there.
      required_lock k before _ (not (is_abstract m)) s _ _ refl (λ n.
      known_moved k before (move_signature k.rho) (keeps_signature k.keep) m.signature s _ _ (sig_kept u.method.0 m (use_method k.keep u hu) there) (λ sig hs.
      required_lock k before _ (is_called_alike sig c.signature) s _ _ (alike_moved sig c.signature) (λ al.
      had_moved k before (move_callee k.rho) (callee_of before u) _ s f g (callee_moved k after before a u hu) (λ d there. l d (callee_kept k after before a u hu d there).kept))))))

  -- ---- `this`

  box_moved : (n : ℕ) (o : Option Obj) → box_pointer n (option_map (move_obj k before) o) ≡ option_map (move_value k.rho) (box_pointer n o)
  box_moved n None = refl
  box_moved n (Some (object.Instance of cells)) = refl
  box_moved n (Some (object.Boxed of v)) = ap (λ (x : Value). Some x) (sym (move_pointer k.rho (path_into_box n of)))
  box_moved n (Some (object.Array of cells)) = refl
  box_moved n (Some (object.Str units)) = refl
  box_moved n (Some (object.TypeOf e)) = refl
  box_moved n (Some (object.Member i e)) = refl

  object_this : (n : ℕ) (s : State) (b : Bool) → (if b then box_pointer n (object_at (move_state k before s) n) else Some (value.Object n)) ≡ option_map (move_value k.rho) (if b then box_pointer n (object_at s n) else Some (value.Object n))
  object_this n s true = ap (box_pointer n) (object_moved k after before a s n) ∙ box_moved n (object_at s n)
  object_this n s false = ap (λ (x : Value). Some x) (sym (move_object k.rho n))

  some_moved : (v w : Value) → move_value k.rho v ≡ w → Some w ≡ option_map (move_value k.rho) (Some v)
  some_moved v w e = ap (λ (x : Value). Some x) (sym e)

  this_in_moved : (s : State) (owner : TypeExpr) → IsTrue (keeps_expr k.keep owner) → (v : Value)
      → this_in after (move_state k before s) (move_expr k.rho owner) (move_value k.rho v) ≡ option_map (move_value k.rho) (this_in before s owner v)
  unfolding roll-Value denote.Hole.Carrier.roll out-Value denote.Hole.Carrier.out
  this_in_moved s owner h =
      moved_cases k.rho (λ w v. this_in after (move_state k before s) (move_expr k.rho owner) w ≡ option_map (move_value k.rho) (this_in before s owner v))
      (some_moved value.Null _ (move_null k.rho)) (λ n. some_moved (value.I4 n) _ (move_i4 k.rho n)) (λ n. some_moved (value.I8 n) _ (move_i8 k.rho n)) (λ n. some_moved (value.Native n) _ (move_native k.rho n))
      (λ n. ap (λ (b : Bool). if b then box_pointer n (object_at (move_state k before s) n) else Some (value.Object n)) (is_value_moved k after before a owner h) ∙ object_this n s (is_value before owner))
      (λ p. some_moved (value.Pointer p) _ (move_pointer k.rho p))
      (λ e cells. some_moved (roll-Value (Value-F.Struct e cells)) _ (move_rolled k.rho (Value-F.Struct e cells)))
      (λ e. some_moved (value.Handle e) _ (move_handle k.rho e)) (λ f. some_moved (value.FieldHandle f) _ (move_field_handle k.rho f))

  pub this_moved : (s : State) (c : Callee) (v : Value) → KeptCallee k.keep before c
      → this_for after (move_state k before s) (move_callee k.rho c) (move_value k.rho v) ≡ option_map (move_value k.rho) (this_for before s c v)
  unfolding this_for
  this_moved s c v h = this_in_moved s c.called.owner (use_owner k.keep c.called h.named) v

  abbrev KeptV : Value → Type 0
  KeptV v = IsTrue (keeps_value k.keep v)

  box_kept : (n : ℕ) (o : Option Obj) (w : Value) → ((x : Obj) → o ≡ Some x → IsTrue (keeps_obj k.keep before x)) → box_pointer n o ≡ Some w → KeptV w
  box_kept n None w f e = cc
  box_kept n (Some (object.Instance of cells)) w f e = cc
  box_kept n (Some (object.Boxed of v)) w f e =
      some_is KeptV (value.Pointer (path_into_box n of)) w e (keeps_pointer k.keep (path_into_box n of) ∙ made_kept k.keep of (first_so (keeps_made k.keep of) _ (f (object.Boxed of v) refl)))
  box_kept n (Some (object.Array of cells)) w f e = cc
  box_kept n (Some (object.Str units)) w f e = cc
  box_kept n (Some (object.TypeOf t)) w f e = cc
  box_kept n (Some (object.Member i t)) w f e = cc

  object_this_kept : (n : ℕ) (s : State) (b : Bool) (w : Value) → Covered k.keep before s → KeptV (value.Object n) → (if b then box_pointer n (object_at s n) else Some (value.Object n)) ≡ Some w → KeptV w
  object_this_kept n s true w c h e = box_kept n (object_at s n) w (λ x is. object_kept k after before a s c n x is) e
  object_this_kept n s false w c h e = some_is KeptV (value.Object n) w e h

  this_in_kept : (s : State) (owner : TypeExpr) (v w : Value) → Covered k.keep before s → KeptV v → this_in before s owner v ≡ Some w → KeptV w
  this_in_kept s owner value.Null w c h e = some_is KeptV value.Null w e h
  this_in_kept s owner (value.I4 n) w c h e = some_is KeptV (value.I4 n) w e h
  this_in_kept s owner (value.I8 n) w c h e = some_is KeptV (value.I8 n) w e h
  this_in_kept s owner (value.Native n) w c h e = some_is KeptV (value.Native n) w e h
  this_in_kept s owner (value.Object n) w c h e = object_this_kept n s (is_value before owner) w c h e
  this_in_kept s owner (value.Pointer p) w c h e = some_is KeptV (value.Pointer p) w e h
  this_in_kept s owner (value.Handle t) w c h e = some_is KeptV (value.Handle t) w e h
  this_in_kept s owner (value.FieldHandle f) w c h e = some_is KeptV (value.FieldHandle f) w e h
  this_in_kept s owner v w c h e = some_is KeptV v w e h

  pub this_kept : (s : State) (c : Callee) (v w : Value) → Covered k.keep before s → IsTrue (keeps_value k.keep v) → this_for before s c v ≡ Some w → IsTrue (keeps_value k.keep w)
  unfolding this_for
  this_kept s c v w cs h e = this_in_kept s c.called.owner v w cs h e
