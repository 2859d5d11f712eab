-- All members of the core library, those that call a method of the program too.
use Rattle.std.proofs.Common.{◌≡◌, ℕ, Bool, true, false, List, [], ◌∷◌, Option, Some, None, refl, sym, ap, subst, ◌∙◌}
use Rattle.std.specs.Prelude.{IsTrue, nat_eq, not}
use Rattle.std.specs.Option.{option_map}
use Rattle.std.specs.Cmp.{first_so}
use Rattle.std.proofs.lemmas.Bool.{and_from}
use Rattle.il_base.specs.declared.element.TheConstants.{BOOLEAN, OBJECT}
use Rattle.il_base.specs.declared.world_model.expr.TypeExpr.{TypeExpr}
use Rattle.il_base.specs.declared.world_model.expr.TypeExpr.TheVariants as expr
use Rattle.il_base.specs.declared.world_model.expr.MethodUse.{MethodUse}
use Rattle.il_base.specs.declared.cil_values.definition.Method.{Method}
use Rattle.run_laws.proofs.lemmas.lock_words.Definitions.{passes_prim}
use Rattle.il_base.specs.declared.cil_values.value.Value.{Value, out-Value, roll-Value}
use Rattle.il_base.specs.declared.cil_values.value.Value.TheVariants as value
use Rattle.il_base.specs.declared.cil_values.state.State.{State}
use Rattle.il_base.specs.declared.cil_values.core_call.CoreCall.{CoreCall}
use Rattle.il_base.specs.declared.cil_values.core_call.CoreCall.TheVariants as core
use Rattle.il_base.specs.declared.cil_values.core_call.Printed.TheVariants as printed
use Rattle.rules.specs.step_rules.Queries.{Queries}
use Rattle.il_base.specs.declared.cil_values.frame.Waits.TheVariants as waits
use Rattle.rules.specs.step_rules.Next.{Next}
use Rattle.rules.specs.step_rules.Words.{stuck, given, object_at}
use Rattle.rules.specs.step_rules.Closing.{Callee, callee_of}
use Rattle.rules.specs.step_rules.Integers.{narrowed}
use Rattle.rules.specs.step_rules.Stores.{all_fit}
use Rattle.rules.specs.step_rules.Objects.{type_of}
use Rattle.rules.specs.step_rules.Dispatch.{dispatched, this_for}
use Rattle.rules.specs.step_rules.CoreWords.{Gives, gives_value, gives_truth}
use Rattle.rules.specs.step_rules.CoreConsole.{print_form}
use Rattle.rules.specs.step_rules.CoreObjects.{is_same}
use Rattle.rules.specs.step_rules.Core.{simple, without_result, with_result, with_option, resumed, run_found, found_args, object_slot, calls_slot, print_object, equal_by, equal_form, own_member, member, member_of, core_call}
use Rattle.rules.specs.step_rules.CoreSearches.{searches}
use Rattle.rules.specs.change_rules.Change.{Change}
use Rattle.rules.specs.change_rules.Moves.{move_exprs, move_use, move_value, move_values}
use Rattle.rules.specs.change_rules.Answers.{move_callee}
use Rattle.rules.specs.change_rules.States.{move_obj, move_state}
use Rattle.rules.specs.change_rules.Keeps.{Names, can_call, keeps_use, is_of_owner, calls_own, keeps_value, keeps_values}
use Rattle.rules.specs.change_rules.Covered.{keeps_obj, Covered}
use Rattle.rules.specs.change_rules.Agree.{Agree}
use Rattle.rules.specs.change_rules.Lock.{Lock, keeps_result, GivesLock}
use Rattle.base_laws.proofs.lemmas.change_laws.Exprs.{move_prim}
use Rattle.base_laws.proofs.lemmas.change_laws.Subst.{names_prim}
use Rattle.base_laws.proofs.lemmas.change_laws.Values.{move_null, move_object, keeps_null, keeps_object}
use Rattle.run_laws.proofs.lemmas.lock_words.Words.{stuck_lock, given_same, given_moved, had_moved}
use Rattle.run_laws.proofs.lemmas.lock_words.Fits.{narrowed_moved}
use Rattle.run_laws.proofs.lemmas.lock_words.Cases.{kept_cases}
use Rattle.run_laws.proofs.lemmas.lock_throwing.Objects.{type_of_moved, type_of_made, object_moved, object_kept}
use Rattle.run_laws.proofs.lemmas.lock_places.Options.{front_moved_by, front_kept}
use Rattle.run_laws.proofs.lemmas.lock_places.Closing.{use_method, use_from, KeptCallee, callee_moved, callee_kept}
use Rattle.run_laws.proofs.lemmas.lock_places.Stores.{narrowed_kept, all_fit_moved, all_fit_kept}
use Rattle.run_laws.proofs.lemmas.lock_frames.Entering.{enter_lock}
use Rattle.run_laws.proofs.lemmas.lock_frames.Dispatching.{dispatched_lock, this_moved, this_kept}
use Rattle.run_laws.proofs.lemmas.lock_members.Giving.{value_lock, truth_lock, checked_lock}
use Rattle.run_laws.proofs.lemmas.lock_members.Objects.{head_kept, tail_kept, is_same_moved, halt_lock, idle_lock, type_name_lock, same_lock, number_text_lock, number_is_lock, int_equals_lock, int_compare_lock, exception_text_lock, exception_inner_lock, exception_parameter_lock, get_message_lock, get_inner_lock, array_length_lock, fill_array_lock}
use Rattle.run_laws.proofs.lemmas.lock_members.Texts.{string_length_lock, string_unit_lock, string_index_lock, string_concat_lock, string_from_lock, string_part_lock, string_itself_lock, string_same_lock, string_other_lock, string_is_lock, string_is_empty_lock, string_compare_lock, int_parse_lock}
use Rattle.run_laws.proofs.lemmas.lock_members.Types.{type_from_handle_lock, object_type_lock, type_text_lock, type_full_name_lock, type_namespace_lock, member_name_lock, member_owner_lock, type_other_lock, type_fits_lock, type_has_lock, type_is_value_lock, type_is_interface_lock, type_is_array_lock}
use Rattle.run_laws.proofs.lemmas.lock_members.Console.{print_lock, line_end_lock, read_unit_lock, read_line_lock}

module _ (k : Change) (after before : Queries) (a : Agree k after before) where
  -- ---- members that call nothing

  pub simple_lock : (m : CoreCall) (args : List Value) (s : State) (f g : Gives) → IsTrue (keeps_values k.keep args) → Covered k.keep before s → GivesLock k before f g
      → Lock k before (simple m after (move_values k.rho args) (move_state k before s) f) (simple m before args s g)
  unfolding simple
  simple_lock core.Halts args s f g h c gl = halt_lock k after before a s c f g gl args h
  simple_lock core.Idle args s f g h c gl = idle_lock k after before a s c f g gl args h
  simple_lock core.TypeName args s f g h c gl = type_name_lock k after before a s c f g gl args h
  simple_lock core.IsObject args s f g h c gl = same_lock k after before a s c f g gl args h
  simple_lock core.SameReference args s f g h c gl = same_lock k after before a s c f g gl args h
  simple_lock (core.NumberText code) args s f g h c gl = number_text_lock k after before a s c f g gl code args h
  simple_lock (core.NumberIs code) args s f g h c gl = number_is_lock k after before a s c f g gl code args h
  simple_lock core.IntEquals args s f g h c gl = int_equals_lock k after before a s c f g gl args h
  simple_lock core.IntCompare args s f g h c gl = int_compare_lock k after before a s c f g gl args h
  simple_lock core.IntParse args s f g h c gl = int_parse_lock k after before a s c f g gl args h
  simple_lock core.StringLength args s f g h c gl = string_length_lock k after before a s c f g gl args h
  simple_lock core.StringUnit args s f g h c gl = string_unit_lock k after before a s c f g gl args h
  simple_lock core.StringConcat args s f g h c gl = string_concat_lock k after before a s c f g gl args h
  simple_lock core.StringSame args s f g h c gl = string_same_lock k after before a s c f g gl args h
  simple_lock core.StringOther args s f g h c gl = string_other_lock k after before a s c f g gl args h
  simple_lock core.StringIs args s f g h c gl = string_is_lock k after before a s c f g gl args h
  simple_lock core.StringItself args s f g h c gl = string_itself_lock k after before a s c f g gl args h
  simple_lock core.StringFrom args s f g h c gl = string_from_lock k after before a s c f g gl args h
  simple_lock core.StringPart args s f g h c gl = string_part_lock k after before a s c f g gl args h
  simple_lock core.StringIndex args s f g h c gl = string_index_lock k after before a s c f g gl args h
  simple_lock core.StringIsEmpty args s f g h c gl = string_is_empty_lock k after before a s c f g gl args h
  simple_lock core.StringCompare args s f g h c gl = string_compare_lock k after before a s c f g gl args h
  simple_lock core.ArrayLength args s f g h c gl = array_length_lock k after before a s c f g gl args h
  simple_lock (core.Prints line kind) args s f g h c gl = print_lock k after before a s c f g gl line kind args h
  simple_lock core.PrintsLineEnd args s f g h c gl = line_end_lock k after before a s c f g gl args h
  simple_lock core.ReadLine args s f g h c gl = read_line_lock k after before a s c f g gl args h
  simple_lock core.ReadUnit args s f g h c gl = read_unit_lock k after before a s c f g gl args h
  simple_lock core.ExceptionPlain args s f g h c gl = idle_lock k after before a s c f g gl args h
  simple_lock core.ExceptionText args s f g h c gl = exception_text_lock k after before a s c f g gl args h
  simple_lock core.ExceptionInner args s f g h c gl = exception_inner_lock k after before a s c f g gl args h
  simple_lock (core.ExceptionParameter n) args s f g h c gl = exception_parameter_lock k after before a s c f g gl n args h
  simple_lock core.GetMessage args s f g h c gl = get_message_lock k after before a s c f g gl args h
  simple_lock core.GetInner args s f g h c gl = get_inner_lock k after before a s c f g gl args h
  simple_lock core.FillArray args s f g h c gl = fill_array_lock k after before a s c f g gl args h
  simple_lock core.TypeFromHandle args s f g h c gl = type_from_handle_lock k after before a s c f g gl args h
  simple_lock core.TypeOf args s f g h c gl = object_type_lock k after before a s c f g gl args h
  simple_lock core.TypeText args s f g h c gl = type_text_lock k after before a s c f g gl args h
  simple_lock core.TypeFullName args s f g h c gl = type_full_name_lock k after before a s c f g gl args h
  simple_lock core.TypeNamespace args s f g h c gl = type_namespace_lock k after before a s c f g gl args h
  simple_lock core.MemberName args s f g h c gl = member_name_lock k after before a s c f g gl args h
  simple_lock core.MemberOwner args s f g h c gl = member_owner_lock k after before a s c f g gl args h
  simple_lock core.TypeSame args s f g h c gl = same_lock k after before a s c f g gl args h
  simple_lock core.TypeOther args s f g h c gl = type_other_lock k after before a s c f g gl args h
  simple_lock core.TypeIs args s f g h c gl = same_lock k after before a s c f g gl args h
  simple_lock core.TypeFits args s f g h c gl = type_fits_lock k after before a s c f g gl args h
  simple_lock core.TypeHas args s f g h c gl = type_has_lock k after before a s c f g gl args h
  simple_lock core.TypeIsValue args s f g h c gl = type_is_value_lock k after before a s c f g gl args h
  simple_lock core.TypeIsInterface args s f g h c gl = type_is_interface_lock k after before a s c f g gl args h
  simple_lock core.TypeIsArray args s f g h c gl = type_is_array_lock k after before a s c f g gl args h
  simple_lock (core.TypeFind throws) args s f g h c gl = stuck_lock k before s
  simple_lock (core.MemberFind w) args s f g h c gl = stuck_lock k before s
  simple_lock (core.MemberList w) args s f g h c gl = stuck_lock k before s
  simple_lock core.MethodIsStatic args s f g h c gl = stuck_lock k before s
  simple_lock (core.MemberType w) args s f g h c gl = stuck_lock k before s
  simple_lock core.MemberSame args s f g h c gl = stuck_lock k before s
  simple_lock core.MemberOther args s f g h c gl = stuck_lock k before s
  simple_lock core.Create args s f g h c gl = stuck_lock k before s
  simple_lock core.CreateOf args s f g h c gl = stuck_lock k before s
  simple_lock core.Invoke args s f g h c gl = stuck_lock k before s
  simple_lock core.FieldGet args s f g h c gl = stuck_lock k before s
  simple_lock core.FieldSet args s f g h c gl = stuck_lock k before s
  simple_lock core.PropertyGet args s f g h c gl = stuck_lock k before s
  simple_lock core.PropertySet args s f g h c gl = stuck_lock k before s
  simple_lock core.AreEqual args s f g h c gl = stuck_lock k before s

  -- ---- what a member does with a result: none waits that searches

  with_result_lock : (m : CoreCall) → searches m ≡ false → (args : List Value) (v : Value) (s : State) (f g : Gives) → IsTrue (keeps_value k.keep v) → Covered k.keep before s → GivesLock k before f g
      → Lock k before (with_result m after (move_values k.rho args) (move_value k.rho v) (move_state k before s) f) (with_result m before args v s g)
  unfolding searches
  with_result_lock core.Invoke plain args v s f g h c gl = absurd (let f : true ≡ false = plain in cc)
  with_result_lock core.PropertyGet plain args v s f g h c gl = absurd (let f : true ≡ false = plain in cc)
  with_result_lock core.PropertySet plain args v s f g h c gl = absurd (let f : true ≡ false = plain in cc)
  with_result_lock (core.Prints line printed.OfObject) plain args v s f g h c gl = print_lock k after before a s c f g gl line printed.OfObject (v ∷ []) (and_from (keeps_value k.keep v) true h refl)
  with_result_lock core.AreEqual plain args v s f g h c gl =
      given_moved k before (move_value k.rho) (narrowed BOOLEAN v) _ s (λ b. gives_value b (move_state k before s) f) (λ b. gives_value b s g) (narrowed_moved k.rho BOOLEAN v) (λ b e. value_lock k after before a f g gl b s c (narrowed_kept k BOOLEAN v b e))
  with_result_lock _ plain args v s f g h c gl = stuck_lock k before s

  -- the method that a member called returned nothing
  without_result_lock : (m : CoreCall) → searches m ≡ false → (args : List Value) (s : State) (f g : Gives) → Lock k before (without_result m after (move_values k.rho args) (move_state k before s) f) (without_result m before args s g)
  unfolding searches
  without_result_lock core.Create plain args s f g = absurd (let f : true ≡ false = plain in cc)
  without_result_lock core.CreateOf plain args s f g = absurd (let f : true ≡ false = plain in cc)
  without_result_lock core.Invoke plain args s f g = absurd (let f : true ≡ false = plain in cc)
  without_result_lock core.PropertyGet plain args s f g = absurd (let f : true ≡ false = plain in cc)
  without_result_lock core.PropertySet plain args s f g = absurd (let f : true ≡ false = plain in cc)
  without_result_lock _ plain args s f g = stuck_lock k before s

  pub with_option_lock : (m : CoreCall) → searches m ≡ false → (args : List Value) (s : State) (f g : Gives) → Covered k.keep before s → GivesLock k before f g → (o : Option Value) → IsTrue (keeps_result k.keep o)
      → Lock k before (with_option m after (move_values k.rho args) (move_state k before s) f (option_map (move_value k.rho) o)) (with_option m before args s g o)
  with_option_lock m plain args s f g c gl None h = without_result_lock m plain args s f g
  with_option_lock m plain args s f g c gl (Some v) h = with_result_lock m plain args v s f g h c gl

  resumed_lock : (m : CoreCall) → searches m ≡ false → (args : List Value) (f g : Gives) → GivesLock k before f g → GivesLock k before (resumed m after (move_values k.rho args) f) (resumed m before args g)
  resumed_lock m plain args f g gl s v bytes c h = with_option_lock m plain args s f g c gl v h

  -- ---- a virtual call of a slot of Object

  run_lock : (m : CoreCall) → searches m ≡ false → (args : List Value) (d : Callee) (vs : List Value) (s : State) (f g : Gives) → IsTrue (keeps_values k.keep args) → KeptCallee k.keep before d → IsTrue (keeps_values k.keep vs)
      → Covered k.keep before s → GivesLock k before f g → (o : Option CoreCall)
      → Lock k before (run_found after m (move_values k.rho args) (move_callee k.rho d) (move_values k.rho vs) (move_state k before s) f o) (run_found before m args d vs s g o)
  run_lock m plain args d vs s f g ha hd hv c gl (Some found) =
      checked_lock k after before a s c d hd vs (λ ws. simple found after ws (move_state k before s) (resumed m after (move_values k.rho args) f)) (λ ws. simple found before ws s (resumed m before args g)) hv
      (λ ws hw. simple_lock found ws s (resumed m after (move_values k.rho args) f) (resumed m before args g) hw c (resumed_lock m plain args f g gl))
  run_lock m plain args d vs s f g ha hd hv c gl None =
      enter_lock k after before a d vs (waits.Core m args) s hd hv (and_from (keeps_values k.keep args) (not (searches m)) ha (ap not plain)) c

  found_args_moved : (s : State) (d : Callee) (this : Value) (vs : List Value) → KeptCallee k.keep before d
      → found_args after (move_state k before s) (move_callee k.rho d) (move_value k.rho this) (move_values k.rho vs) ≡ option_map (move_values k.rho) (found_args before s d this vs)
  found_args_moved s d this vs hd =
      front_moved_by (move_value k.rho) (this_for before s d this) (all_fit before d.signature.params vs) _ _ (this_moved k after before a s d this hd)
      (all_fit_moved k after before a d.signature.params vs (first_so _ _ hd.signature))

  slot_moved : (m : ℕ) → object_slot (k.rho.method m) ≡ move_use k.rho (object_slot m)
  slot_moved m = λ i. record { method = record { 0 = k.rho.method m }; owner = sym (move_prim k.rho OBJECT) i; args = [] }

  slot_kept : (m : ℕ) → IsTrue (can_call k.keep m) → IsTrue (keeps_use k.keep (object_slot m))
  slot_kept m h = use_from k.keep (object_slot m) h (ap (λ (n : Names). n.kept) (names_prim k.keep OBJECT)) refl

  -- a slot of Object is called on Object
  slot_owned : (f : Option Method) → IsTrue (is_of_owner f (expr.Prim OBJECT))
  slot_owned None = refl
  slot_owned (Some f) = passes_prim (nat_eq f.owner) OBJECT

  abbrev goes_found : CoreCall → List Value → ℕ → List Value → State → Gives → Callee → Next
  goes_found w args n vs s f x =
      given (found_args after (move_state k before s) x (value.Object n) (move_values k.rho vs)) (move_state k before s) (λ ws. run_found after w (move_values k.rho args) x ws (move_state k before s) f (after.core x.called.method.0))

  abbrev goes_before : CoreCall → List Value → ℕ → List Value → State → Gives → Callee → Next
  goes_before w args n vs s g x = given (found_args before s x (value.Object n) vs) s (λ ws. run_found before w args x ws s g (before.core x.called.method.0))

  found_kept : (s : State) → Covered k.keep before s → (x : Callee) (n : ℕ) (vs ws : List Value) → IsTrue (keeps_values k.keep vs) → found_args before s x (value.Object n) vs ≡ Some ws → IsTrue (keeps_values k.keep ws)
  found_kept s c x n vs ws hv e =
      front_kept (keeps_value k.keep) (this_for before s x (value.Object n)) (all_fit before x.signature.params vs) ws e
      (λ y is. this_kept k after before a s x (value.Object n) y c (keeps_object k.keep n) is) (λ zs is. all_fit_kept k after before a x.signature.params vs zs hv is)

  slot_lock : (m new : ℕ) → new ≡ k.rho.method m → IsTrue (can_call k.keep m) → (w : CoreCall) → searches w ≡ false → (args : List Value) (n : ℕ) (vs : List Value) (s : State) (f g : Gives)
      → IsTrue (keeps_values k.keep args) → IsTrue (keeps_values k.keep vs) → Covered k.keep before s → GivesLock k before f g
      → Lock k before (calls_slot new after w (move_values k.rho args) n (move_values k.rho vs) (move_state k before s) f) (calls_slot m before w args n vs s g)
  unfolding calls_slot
  slot_lock m new is hm w plain args n vs s f g ha hv c gl =
      had_moved k before (move_callee k.rho) (callee_of before (object_slot m)) _ s _ _
      (ap (λ (x : ℕ). callee_of after (object_slot x)) is ∙ ap (callee_of after) (slot_moved m) ∙ callee_moved k after before a (object_slot m) (slot_kept m hm)) (λ d e.
      let of = callee_kept k after before a (object_slot m) (slot_kept m hm) d e in
      let hd : KeptCallee k.keep before d = of.kept in
      given_moved k before (move_obj k before) (object_at s n) _ s _ _ (object_moved k after before a s n) (λ o there.
      let ho : IsTrue (keeps_obj k.keep before o) = object_kept k after before a s c n o there in
      subst (λ (t : TypeExpr). Lock k before (dispatched after (move_callee k.rho d) t (move_state k before s) (goes_found w args n vs s f)) (dispatched before d (type_of before o) s (goes_before w args n vs s g)))
      (sym (type_of_moved k after before a o))
      (dispatched_lock k after before a d (type_of before o) s (goes_found w args n vs s f) (goes_before w args n vs s g) hd (subst (λ (u : MethodUse). IsTrue (calls_own before u)) of.called (slot_owned (before.method m))) (type_of_made k after before a o ho) (λ x hx.
      subst (λ (this : Value). Lock k before (given (found_args after (move_state k before s) (move_callee k.rho x) this (move_values k.rho vs)) (move_state k before s) (λ ws. run_found after w (move_values k.rho args) (move_callee k.rho x) ws (move_state k before s) f (after.core (move_callee k.rho x).called.method.0)))
      (goes_before w args n vs s g x)) (move_object k.rho n)
      (given_moved k before (move_values k.rho) (found_args before s x (value.Object n) vs) _ s _ _ (found_args_moved s x (value.Object n) vs hx) (λ ws isw.
      subst (λ (o : Option CoreCall). Lock k before (run_found after w (move_values k.rho args) (move_callee k.rho x) (move_values k.rho ws) (move_state k before s) f o) (run_found before w args x ws s g (before.core x.called.method.0)))
      (sym (a.core x.called.method.0 (use_method k.keep x.called hx.named)))
      (run_lock w plain args x ws s f g ha hx (found_kept s c x n vs ws hv isw) c gl (before.core x.called.method.0))))))))

  -- ---- Write and WriteLine of an object, Object.Equals(object, object)

  null_printed : (line : Bool) (s : State) (f g : Gives) → Covered k.keep before s → GivesLock k before f g
      → Lock k before (print_form line printed.OfObject after (value.Null ∷ []) (move_state k before s) f) (print_form line printed.OfObject before (value.Null ∷ []) s g)
  null_printed line s f g c gl =
      subst (λ (v : Value). Lock k before (print_form line printed.OfObject after (v ∷ []) (move_state k before s) f) (print_form line printed.OfObject before (value.Null ∷ []) s g)) (move_null k.rho)
      (print_lock k after before a s c f g gl line printed.OfObject (value.Null ∷ []) (and_from (keeps_value k.keep value.Null) true (keeps_null k.keep) refl))

  text_printed : (line : Bool) (s : State) (f g : Gives) → Covered k.keep before s → GivesLock k before f g → (n : ℕ)
      → Lock k before (calls_slot after.to_string after (core.Prints line printed.OfObject) (value.Object n ∷ []) n [] (move_state k before s) f) (calls_slot before.to_string before (core.Prints line printed.OfObject) (value.Object n ∷ []) n [] s g)
  unfolding searches
  text_printed line s f g c gl n =
      subst (λ (v : Value). Lock k before (calls_slot after.to_string after (core.Prints line printed.OfObject) (v ∷ []) n [] (move_state k before s) f) (calls_slot before.to_string before (core.Prints line printed.OfObject) (value.Object n ∷ []) n [] s g)) (move_object k.rho n)
      (slot_lock before.to_string after.to_string a.to_string a.keeps_to_string (core.Prints line printed.OfObject) refl (value.Object n ∷ []) n [] s f g (and_from (keeps_value k.keep (value.Object n)) true (keeps_object k.keep n) refl) refl c gl)

  object_printed : (line : Bool) (s : State) (f g : Gives) → Covered k.keep before s → GivesLock k before f g → (rest : List Value) (v : Value) → IsTrue (keeps_value k.keep v)
      → Lock k before (print_object line after (move_value k.rho v ∷ move_values k.rho rest) (move_state k before s) f) (print_object line before (v ∷ rest) s g)
  unfolding print_object roll-Value denote.Hole.Carrier.roll out-Value denote.Hole.Carrier.out
  object_printed line s f g c gl [] =
      let out : Lock k before (stuck (move_state k before s)) (stuck s) = stuck_lock k before s in
      kept_cases k (λ w v. Lock k before (print_object line after (w ∷ []) (move_state k before s) f) (print_object line before (v ∷ []) s g))
      (null_printed line s f g c gl) (λ n. out) (λ n. out) (λ n. out) (λ n. text_printed line s f g c gl n) (λ p h. out) (λ d cells h q. out) (λ d h. out) (λ d h. out)
  object_printed line s f g c gl (x ∷ xs) =
      let out : Lock k before (stuck (move_state k before s)) (stuck s) = stuck_lock k before s in
      kept_cases k (λ w v. Lock k before (print_object line after (w ∷ move_value k.rho x ∷ move_values k.rho xs) (move_state k before s) f) (print_object line before (v ∷ x ∷ xs) s g))
      out (λ n. out) (λ n. out) (λ n. out) (λ n. out) (λ p h. out) (λ d cells h q. out) (λ d h. out) (λ d h. out)

  nothing_printed : (line : Bool) (s : State) (f g : Gives) → Lock k before (print_object line after [] (move_state k before s) f) (print_object line before [] s g)
  unfolding print_object
  nothing_printed line s f g = stuck_lock k before s

  print_object_lock : (line : Bool) (args : List Value) (s : State) (f g : Gives) → IsTrue (keeps_values k.keep args) → Covered k.keep before s → GivesLock k before f g
      → Lock k before (print_object line after (move_values k.rho args) (move_state k before s) f) (print_object line before args s g)
  print_object_lock line [] s f g h c gl = nothing_printed line s f g
  print_object_lock line (v ∷ vs) s f g h c gl = object_printed line s f g c gl vs v (head_kept k after before a v vs h)

  equals_called : (s : State) (f g : Gives) → Covered k.keep before s → GivesLock k before f g → (n m : ℕ)
      → Lock k before (calls_slot after.equals after core.AreEqual (value.Object n ∷ value.Object m ∷ []) n (value.Object m ∷ []) (move_state k before s) f) (calls_slot before.equals before core.AreEqual (value.Object n ∷ value.Object m ∷ []) n (value.Object m ∷ []) s g)
  unfolding searches
  equals_called s f g c gl n m =
      let one : IsTrue (keeps_values k.keep (value.Object m ∷ [])) = and_from (keeps_value k.keep (value.Object m)) true (keeps_object k.keep m) refl in
      subst (λ (p : Value × Value). Lock k before (calls_slot after.equals after core.AreEqual (p.0 ∷ p.1 ∷ []) n (p.1 ∷ []) (move_state k before s) f) (calls_slot before.equals before core.AreEqual (value.Object n ∷ value.Object m ∷ []) n (value.Object m ∷ []) s g))
      (λ i. (move_object k.rho n i, move_object k.rho m i))
      (slot_lock before.equals after.equals a.equals a.keeps_equals core.AreEqual refl (value.Object n ∷ value.Object m ∷ []) n (value.Object m ∷ []) s f g (and_from (keeps_value k.keep (value.Object n)) _ (keeps_object k.keep n) one) one c gl)

  equal_lock : (s : State) (f g : Gives) → Covered k.keep before s → GivesLock k before f g → (b : Bool) (v w : Value) → IsTrue (keeps_value k.keep v) → IsTrue (keeps_value k.keep w)
      → Lock k before (equal_by after (move_state k before s) f (move_value k.rho v) (move_value k.rho w) b) (equal_by before s g v w b)
  unfolding roll-Value denote.Hole.Carrier.roll out-Value denote.Hole.Carrier.out
  equal_lock s f g c gl true v w hv hw = truth_lock k after before a f g gl true s c
  equal_lock s f g c gl false v w hv hw =
      let other : Lock k before (gives_truth false (move_state k before s) f) (gives_truth false s g) = truth_lock k after before a f g gl false s c in
      kept_cases k (λ x y. Lock k before (equal_by after (move_state k before s) f x (move_value k.rho w) false) (equal_by before s g y w false))
      other (λ n. other) (λ n. other) (λ n. other)
      (λ n. kept_cases k (λ x y. Lock k before (equal_by after (move_state k before s) f (value.Object n) x false) (equal_by before s g (value.Object n) y false))
      other (λ m. other) (λ m. other) (λ m. other) (λ m. equals_called s f g c gl n m) (λ p h. other) (λ d cells h q. other) (λ d h. other) (λ d h. other) w hw)
      (λ p h. other) (λ d cells h q. other) (λ d h. other) (λ d h. other) v hv

  equal_form_lock : (args : List Value) (s : State) (f g : Gives) → IsTrue (keeps_values k.keep args) → Covered k.keep before s → GivesLock k before f g
      → Lock k before (equal_form after (move_values k.rho args) (move_state k before s) f) (equal_form before args s g)
  unfolding equal_form
  equal_form_lock (v ∷ w ∷ []) s f g h c gl =
      given_same k before _ (is_same v w) s _ _ (is_same_moved k after before a v w) (λ b e.
      equal_lock s f g c gl b v w (head_kept k after before a v (w ∷ []) h) (head_kept k after before a w [] (tail_kept k after before a v (w ∷ []) h)))
  equal_form_lock _ s f g h c gl = stuck_lock k before s

  -- ---- all members but those that search

  pub member_lock : (m : CoreCall) → searches m ≡ false → (args : List Value) (s : State) (f g : Gives) → IsTrue (keeps_values k.keep args) → Covered k.keep before s → GivesLock k before f g
      → Lock k before (member m after (move_values k.rho args) (move_state k before s) f) (member m before args s g)
  unfolding member own_member searches
  member_lock core.Invoke plain args s f g h c gl = absurd (let f : true ≡ false = plain in cc)
  member_lock core.PropertyGet plain args s f g h c gl = absurd (let f : true ≡ false = plain in cc)
  member_lock core.PropertySet plain args s f g h c gl = absurd (let f : true ≡ false = plain in cc)
  member_lock core.FieldGet plain args s f g h c gl = absurd (let f : true ≡ false = plain in cc)
  member_lock core.FieldSet plain args s f g h c gl = absurd (let f : true ≡ false = plain in cc)
  member_lock (core.TypeFind throws) plain args s f g h c gl = absurd (let f : true ≡ false = plain in cc)
  member_lock core.Create plain args s f g h c gl = absurd (let f : true ≡ false = plain in cc)
  member_lock (core.MemberFind w) plain args s f g h c gl = absurd (let f : true ≡ false = plain in cc)
  member_lock (core.MemberList w) plain args s f g h c gl = absurd (let f : true ≡ false = plain in cc)
  member_lock core.MethodIsStatic plain args s f g h c gl = absurd (let f : true ≡ false = plain in cc)
  member_lock (core.MemberType w) plain args s f g h c gl = absurd (let f : true ≡ false = plain in cc)
  member_lock core.MemberSame plain args s f g h c gl = absurd (let f : true ≡ false = plain in cc)
  member_lock core.MemberOther plain args s f g h c gl = absurd (let f : true ≡ false = plain in cc)
  member_lock (core.Prints line printed.OfObject) plain args s f g h c gl = print_object_lock line args s f g h c gl
  member_lock core.AreEqual plain args s f g h c gl = equal_form_lock args s f g h c gl
  member_lock m plain args s f g h c gl = simple_lock m args s f g h c gl

  member_of_lock : (targs : List TypeExpr) (m : CoreCall) → searches m ≡ false → (args : List Value) (s : State) (f g : Gives) → IsTrue (keeps_values k.keep args) → Covered k.keep before s → GivesLock k before f g
      → Lock k before (member_of (move_exprs k.rho targs) m after (move_values k.rho args) (move_state k before s) f) (member_of targs m before args s g)
  unfolding member_of searches
  member_of_lock targs core.CreateOf plain args s f g h c gl = absurd (let f : true ≡ false = plain in cc)
  member_of_lock targs m plain args s f g h c gl = member_lock m plain args s f g h c gl

  pub core_call_lock : (d : Callee) (m : CoreCall) → searches m ≡ false → (vs : List Value) (s : State) (f g : Gives) → KeptCallee k.keep before d → IsTrue (keeps_values k.keep vs) → Covered k.keep before s → GivesLock k before f g
      → Lock k before (core_call after (move_callee k.rho d) m (move_values k.rho vs) (move_state k before s) f) (core_call before d m vs s g)
  unfolding core_call
  core_call_lock d m plain vs s f g hd hv c gl =
      checked_lock k after before a s c d hd vs (λ args. member_of (move_exprs k.rho d.called.args) m after args (move_state k before s) f) (λ args. member_of d.called.args m before args s g) hv (λ ws hw. member_of_lock d.called.args m plain ws s f g hw c gl)
