-- How a member goes on, and the arguments that it takes.
use Rattle.std.proofs.Common.{◌≡◌, ℕ, ℤ, Bool, true, false, List, [], ◌∷◌, Option, Some, None, refl, sym, ap, subst, ◌∙◌}
use Rattle.std.specs.Prelude.{IsTrue, if◌then◌else◌}
use Rattle.std.specs.List.{list_all}
use Rattle.std.specs.Option.{option_map, option_and_then}
use Rattle.std.specs.Cmp.{first_so, second_so}
use Rattle.std.proofs.lemmas.Bool.{and_from}
use Rattle.il_base.specs.declared.world_model.expr.TypeExpr.{TypeExpr}
use Rattle.il_base.specs.world_model.Exprs.{same_expr}
use Rattle.il_base.specs.declared.core_table.names.CoreName.TheVariants as name
use Rattle.il_base.specs.declared.cil_values.value.Value.{Value, out-Value, roll-Value}
use Rattle.il_base.specs.declared.cil_values.value.Value.TheOpen.{Value-F}
use Rattle.il_base.specs.declared.cil_values.value.Value.TheVariants as value
use Rattle.il_base.specs.declared.cil_values.state.State.{State}
use Rattle.rules.specs.step_rules.Queries.{Queries}
use Rattle.rules.specs.step_rules.Next.{Next}
use Rattle.rules.specs.step_rules.Words.{stuck, object_at}
use Rattle.rules.specs.step_rules.Closing.{Callee}
use Rattle.rules.specs.step_rules.Stores.{fits, is_value}
use Rattle.rules.specs.step_rules.Objects.{is_a}
use Rattle.rules.specs.step_rules.Places.{place_value}
use Rattle.rules.specs.step_rules.CoreWords.{Gives, gives_nothing, gives_value, gives_truth, gives_int, gives_text, pointed_this, object_this, core_this, of_type, core_arg, core_args, checked_args, with_this, checked}
use Rattle.rules.specs.change_rules.Change.{Change}
use Rattle.rules.specs.change_rules.Moves.{move_expr, move_exprs, move_value, move_values}
use Rattle.rules.specs.change_rules.Answers.{move_callee}
use Rattle.rules.specs.change_rules.States.{move_state}
use Rattle.rules.specs.change_rules.Keeps.{keeps_expr, keeps_value, keeps_values}
use Rattle.rules.specs.change_rules.Covered.{Covered}
use Rattle.rules.specs.change_rules.Agree.{Agree, is_asked}
use Rattle.rules.specs.change_rules.Lock.{Lock, GivesLock}
use Rattle.base_laws.proofs.lemmas.change_laws.Same.{same_exprs_moved}
use Rattle.base_laws.proofs.lemmas.change_laws.Values.{move_rolled, move_null, move_i4, move_i8, move_native, move_object, move_pointer, move_handle, move_field_handle, keeps_i4, keeps_object}
use Rattle.run_laws.proofs.lemmas.lock_words.Words.{stuck_lock, given_moved, required_lock, if_lock}
use Rattle.run_laws.proofs.lemmas.lock_words.Cases.{moved_cases, kept_cases}
use Rattle.run_laws.proofs.lemmas.lock_words.Fits.{fits_moved, fits_kept, is_value_moved}
use Rattle.run_laws.proofs.lemmas.lock_throwing.Objects.{is_a_at}
use Rattle.run_laws.proofs.lemmas.lock_throwing.Searching.{raise_lock}
use Rattle.run_laws.proofs.lemmas.lock_places.Options.{Through, through_is, front_moved_by, front_kept, some_is}
use Rattle.run_laws.proofs.lemmas.lock_places.Closing.{use_owner, KeptCallee}
use Rattle.run_laws.proofs.lemmas.lock_places.Places.{alive_lock, place_moved, place_kept}
use Rattle.run_laws.proofs.lemmas.lock_fields.Texts.{made_text_lock}

null_asked : IsTrue (is_asked name.NullReferenceException)
unfolding is_asked
null_asked = refl

module _ (k : Change) (after before : Queries) (a : Agree k after before) (f g : Gives) (gl : GivesLock k before f g) where
  pub nothing_lock : (s : State) → Covered k.keep before s → Lock k before (gives_nothing (move_state k before s) f) (gives_nothing s g)
  nothing_lock s c = gl s None [] c refl

  pub value_lock : (v : Value) (s : State) → Covered k.keep before s → IsTrue (keeps_value k.keep v) → Lock k before (gives_value (move_value k.rho v) (move_state k before s) f) (gives_value v s g)
  value_lock v s c h = gl s (Some v) [] c h

  pub still_lock : (w v : Value) (s : State) → w ≡ move_value k.rho v → Covered k.keep before s → IsTrue (keeps_value k.keep v) → Lock k before (gives_value w (move_state k before s) f) (gives_value v s g)
  still_lock w v s e c h = subst (λ (x : Value). Lock k before (gives_value x (move_state k before s) f) (gives_value v s g)) (sym e) (value_lock v s c h)

  pub int_lock : (n : ℤ) (s : State) → Covered k.keep before s → Lock k before (gives_int n (move_state k before s) f) (gives_int n s g)
  int_lock n s c = still_lock (value.I4 n) (value.I4 n) s (sym (move_i4 k.rho n)) c (keeps_i4 k.keep n)

  pub truth_lock : (b : Bool) (s : State) → Covered k.keep before s → Lock k before (gives_truth b (move_state k before s) f) (gives_truth b s g)
  truth_lock true s c = int_lock _ s c
  truth_lock false s c = int_lock _ s c

  pub text_lock : (units : List ℕ) (s : State) → Covered k.keep before s → Lock k before (gives_text units (move_state k before s) f) (gives_text units s g)
  text_lock units s c =
      made_text_lock k after before a units s (λ n t. gives_value (value.Object n) t f) (λ n t. gives_value (value.Object n) t g) c
      (λ n t ct. still_lock (value.Object n) (value.Object n) t (sym (move_object k.rho n)) ct (keeps_object k.keep n))

module _ (k : Change) (after before : Queries) (a : Agree k after before) where
  -- ---- arguments

  some_moved : (v w : Value) → move_value k.rho v ≡ w → Some w ≡ option_map (move_value k.rho) (Some v)
  some_moved v w e = ap (λ (x : Value). Some x) (sym e)

  object_if : (b : Bool) (n : ℕ) → (if b then Some (value.Object n) else None) ≡ option_map (move_value k.rho) (if b then Some (value.Object n) else None)
  object_if true n = some_moved (value.Object n) _ (move_object k.rho n)
  object_if false n = refl

  of_type_moved : (s : State) → Covered k.keep before s → (e : TypeExpr) → IsTrue (keeps_expr k.keep e) → (v : Value)
      → of_type after (move_state k before s) (move_expr k.rho e) (move_value k.rho v) ≡ option_map (move_value k.rho) (of_type before s e v)
  unfolding roll-Value denote.Hole.Carrier.roll out-Value denote.Hole.Carrier.out
  of_type_moved s c e h =
      moved_cases k.rho (λ w v. of_type after (move_state k before s) (move_expr k.rho e) w ≡ option_map (move_value k.rho) (of_type before s e v))
      (some_moved value.Null _ (move_null k.rho)) (λ n. some_moved (value.I4 n) _ (move_i4 k.rho n)) (λ n. some_moved (value.I8 n) _ (move_i8 k.rho n)) (λ n. some_moved (value.Native n) _ (move_native k.rho n))
      (λ n. ap (λ (b : Bool). if b then Some (value.Object n) else None) (is_a_at k after before a s c e h n) ∙ object_if (is_a before e (object_at s n)) n)
      (λ p. some_moved (value.Pointer p) _ (move_pointer k.rho p))
      (λ d cells. some_moved (roll-Value (Value-F.Struct d cells)) _ (move_rolled k.rho (Value-F.Struct d cells)))
      (λ d. some_moved (value.Handle d) _ (move_handle k.rho d)) (λ d. some_moved (value.FieldHandle d) _ (move_field_handle k.rho d))

  abbrev KeptV : Value → Type 0
  KeptV v = IsTrue (keeps_value k.keep v)

  if_kept : (b : Bool) (v w : Value) → KeptV v → (if b then Some v else None) ≡ Some w → KeptV w
  if_kept true v w h e = some_is KeptV v w e h
  if_kept false v w h e = cc

  of_type_kept : (s : State) (e : TypeExpr) (v w : Value) → KeptV v → of_type before s e v ≡ Some w → KeptV w
  of_type_kept s e value.Null w h is = some_is KeptV value.Null w is h
  of_type_kept s e (value.I4 n) w h is = some_is KeptV (value.I4 n) w is h
  of_type_kept s e (value.I8 n) w h is = some_is KeptV (value.I8 n) w is h
  of_type_kept s e (value.Native n) w h is = some_is KeptV (value.Native n) w is h
  of_type_kept s e (value.Object n) w h is = if_kept (is_a before e (object_at s n)) (value.Object n) w h is
  of_type_kept s e (value.Pointer p) w h is = some_is KeptV (value.Pointer p) w is h
  of_type_kept s e (value.Handle d) w h is = some_is KeptV (value.Handle d) w is h
  of_type_kept s e (value.FieldHandle d) w h is = some_is KeptV (value.FieldHandle d) w is h
  of_type_kept s e v w h is = some_is KeptV v w is h

  types_by : (s : State) → Covered k.keep before s → (e : TypeExpr) → IsTrue (keeps_expr k.keep e) → (o : Option Value)
      → option_and_then (of_type after (move_state k before s) (move_expr k.rho e)) (option_map (move_value k.rho) o) ≡ option_map (move_value k.rho) (option_and_then (of_type before s e) o)
  types_by s c e h None = refl
  types_by s c e h (Some v) = of_type_moved s c e h v

  core_arg_moved : (s : State) → Covered k.keep before s → (e : TypeExpr) → IsTrue (keeps_expr k.keep e) → (v : Value)
      → core_arg after (move_state k before s) (move_expr k.rho e) (move_value k.rho v) ≡ option_map (move_value k.rho) (core_arg before s e v)
  core_arg_moved s c e h v = ap (option_and_then (of_type after (move_state k before s) (move_expr k.rho e))) (fits_moved k after before a e v h) ∙ types_by s c e h (fits before e v)

  core_arg_kept : (s : State) (e : TypeExpr) (v w : Value) → KeptV v → core_arg before s e v ≡ Some w → KeptV w
  core_arg_kept s e v w h is =
      let t : Through (of_type before s e) (fits before e v) w = through_is _ _ _ is in
      of_type_kept s e t.x w (fits_kept k after before a e v t.x h t.there) t.is

  core_args_moved : (s : State) → Covered k.keep before s → (es : List TypeExpr) (vs : List Value) → IsTrue (list_all (keeps_expr k.keep) es)
      → core_args after (move_state k before s) (move_exprs k.rho es) (move_values k.rho vs) ≡ option_map (move_values k.rho) (core_args before s es vs)
  unfolding core_args
  core_args_moved s c [] [] h = refl
  core_args_moved s c [] (v ∷ vs) h = refl
  core_args_moved s c (e ∷ es) [] h = refl
  core_args_moved s c (e ∷ es) (v ∷ vs) h =
      front_moved_by (move_value k.rho) (core_arg before s e v) (core_args before s es vs) _ _ (core_arg_moved s c e (first_so (keeps_expr k.keep e) (list_all (keeps_expr k.keep) es) h) v)
      (core_args_moved s c es vs (second_so (keeps_expr k.keep e) (list_all (keeps_expr k.keep) es) h))

  core_args_kept : (s : State) (es : List TypeExpr) (vs ws : List Value) → IsTrue (keeps_values k.keep vs) → core_args before s es vs ≡ Some ws → IsTrue (keeps_values k.keep ws)
  unfolding core_args
  core_args_kept s [] [] ws h e = some_is (λ (ys : List Value). IsTrue (keeps_values k.keep ys)) [] ws e refl
  core_args_kept s [] (v ∷ vs) ws h e = cc
  core_args_kept s (d ∷ es) [] ws h e = cc
  core_args_kept s (d ∷ es) (v ∷ vs) ws h e =
      front_kept (keeps_value k.keep) (core_arg before s d v) (core_args before s es vs) ws e
      (λ y is. core_arg_kept s d v y (first_so (keeps_value k.keep v) (keeps_values k.keep vs) h) is)
      (λ zs is. core_args_kept s es vs zs (second_so (keeps_value k.keep v) (keeps_values k.keep vs) h) is)

  module _ (s : State) (c : Covered k.keep before s) where
    -- ---- `this`

    pointed_lock : (e : TypeExpr) (f g : Value → Next) → ((v : Value) → KeptV v → Lock k before (f (move_value k.rho v)) (g v)) → (v : Value) → KeptV v
        → Lock k before (pointed_this after (move_expr k.rho e) (move_value k.rho v) (move_state k before s) f) (pointed_this before e v s g)
    unfolding roll-Value denote.Hole.Carrier.roll out-Value denote.Hole.Carrier.out
    pointed_lock e f g l =
        let out : Lock k before (stuck (move_state k before s)) (stuck s) = stuck_lock k before s in
        kept_cases k (λ w v. Lock k before (pointed_this after (move_expr k.rho e) w (move_state k before s) f) (pointed_this before e v s g))
        (raise_lock k after before a name.NullReferenceException null_asked s c) (λ n. out) (λ n. out) (λ n. out) (λ n. out)
        (λ p h. alive_lock k before p s _ _ (required_lock k before _ (same_expr p.of e) s _ _ (same_exprs_moved k.back k.rho k.undone p.of e) (λ b.
        given_moved k before (move_value k.rho) (place_value before s p) _ s f g (place_moved k after before a s c p h) (λ v is. l v (place_kept k after before a s c p v h is)))))
        (λ d cells h q. out) (λ d h. out) (λ d h. out)

    object_this_lock : (e : TypeExpr) → IsTrue (keeps_expr k.keep e) → (f g : Value → Next) → ((v : Value) → KeptV v → Lock k before (f (move_value k.rho v)) (g v)) → (v : Value) → KeptV v
        → Lock k before (object_this after (move_expr k.rho e) (move_value k.rho v) (move_state k before s) f) (object_this before e v s g)
    unfolding roll-Value denote.Hole.Carrier.roll out-Value denote.Hole.Carrier.out
    object_this_lock e he f g l =
        let out : Lock k before (stuck (move_state k before s)) (stuck s) = stuck_lock k before s in
        kept_cases k (λ w v. Lock k before (object_this after (move_expr k.rho e) w (move_state k before s) f) (object_this before e v s g))
        (raise_lock k after before a name.NullReferenceException null_asked s c) (λ n. out) (λ n. out) (λ n. out)
        (λ n. required_lock k before _ (is_a before e (object_at s n)) s _ _ (is_a_at k after before a s c e he n) (λ b.
        subst (λ (v : Value). Lock k before (f v) (g (value.Object n))) (move_object k.rho n) (l (value.Object n) (keeps_object k.keep n))))
        (λ p h. out) (λ d cells h q. out) (λ d h. out) (λ d h. out)

    core_this_lock : (e : TypeExpr) → IsTrue (keeps_expr k.keep e) → (f g : Value → Next) → ((v : Value) → KeptV v → Lock k before (f (move_value k.rho v)) (g v)) → (v : Value) → KeptV v
        → Lock k before (core_this after (move_expr k.rho e) (move_value k.rho v) (move_state k before s) f) (core_this before e v s g)
    unfolding core_this
    core_this_lock e he f g l v hv =
        if_lock k before _ (is_value before e) _ _ _ _ (is_value_moved k after before a e he) (λ b. pointed_lock e f g l v hv) (λ b. object_this_lock e he f g l v hv)

    -- ---- all arguments

    module _ (d : Callee) (hd : KeptCallee k.keep before d) where
      checked_args_lock : (vs : List Value) (f g : List Value → Next) → IsTrue (keeps_values k.keep vs) → ((ws : List Value) → IsTrue (keeps_values k.keep ws) → Lock k before (f (move_values k.rho ws)) (g ws))
          → Lock k before (checked_args after (move_callee k.rho d) (move_values k.rho vs) (move_state k before s) f) (checked_args before d vs s g)
      checked_args_lock vs f g hv l =
          given_moved k before (move_values k.rho) (core_args before s d.signature.params vs) _ s f g (core_args_moved s c d.signature.params vs (first_so (list_all (keeps_expr k.keep) d.signature.params) _ hd.signature))
          (λ ws is. l ws (core_args_kept s d.signature.params vs ws hv is))

      with_this_lock : (vs : List Value) (f g : List Value → Next) → IsTrue (keeps_values k.keep vs) → ((ws : List Value) → IsTrue (keeps_values k.keep ws) → Lock k before (f (move_values k.rho ws)) (g ws))
          → Lock k before (with_this after (move_callee k.rho d) (move_values k.rho vs) (move_state k before s) f) (with_this before d vs s g)
      with_this_lock [] f g hv l = stuck_lock k before s
      with_this_lock (v ∷ vs) f g hv l =
          core_this_lock d.called.owner (use_owner k.keep d.called hd.named)
          (λ this. checked_args after (move_callee k.rho d) (move_values k.rho vs) (move_state k before s) (λ args. f (this ∷ args))) (λ this. checked_args before d vs s (λ args. g (this ∷ args)))
          (λ this ht. checked_args_lock vs (λ args. f (move_value k.rho this ∷ args)) (λ args. g (this ∷ args)) (second_so (keeps_value k.keep v) (keeps_values k.keep vs) hv)
          (λ ws hw. l (this ∷ ws) (and_from (keeps_value k.keep this) (keeps_values k.keep ws) ht hw)))
          v (first_so (keeps_value k.keep v) (keeps_values k.keep vs) hv)

      pub checked_lock : (vs : List Value) (f g : List Value → Next) → IsTrue (keeps_values k.keep vs) → ((ws : List Value) → IsTrue (keeps_values k.keep ws) → Lock k before (f (move_values k.rho ws)) (g ws))
          → Lock k before (checked after (move_callee k.rho d) (move_values k.rho vs) (move_state k before s) f) (checked before d vs s g)
      unfolding checked
      checked_lock vs f g hv l = if_lock k before _ d.signature.this _ _ _ _ refl (λ b. with_this_lock vs f g hv l) (λ b. checked_args_lock vs f g hv l)
