-- Casts, boxes and handles.
use Rattle.std.proofs.Common.{◌≡◌, ℕ, Bool, true, false, ◌&&◌, ◌||◌, List, ◌∷◌, Option, Some, None, refl, sym, ap, subst, ◌∙◌}
use Rattle.std.specs.Prelude.{IsTrue, ◌==◌}
use Rattle.std.specs.Option.{option_map}
use Rattle.std.specs.Cmp.{first_so, second_so}
use Rattle.std.proofs.lemmas.Bool.{and_from}
use Rattle.il_base.specs.declared.body.Form.TheVariants as form
use Rattle.il_base.specs.declared.opcode.TheConstants.{CASTCLASS, UNBOX}
use Rattle.il_base.specs.declared.world_model.known.Known.{Known}
use Rattle.il_base.specs.declared.world_model.known.Known.TheVariants.{Good}
use Rattle.il_base.specs.declared.world_model.expr.TypeExpr.{TypeExpr, out-TypeExpr}
use Rattle.il_base.specs.declared.world_model.expr.TypeExpr.TheOpen.{TypeExpr-F}
use Rattle.il_base.specs.world_model.Exprs as exprs
use Rattle.il_base.specs.declared.core_table.names.CoreName.TheVariants as name
use Rattle.il_base.specs.declared.cil_values.value.Value.{Value, out-Value, roll-Value}
use Rattle.il_base.specs.declared.cil_values.value.Value.TheVariants as value
use Rattle.il_base.specs.declared.cil_values.object.Obj.{Obj}
use Rattle.il_base.specs.declared.cil_values.object.Obj.TheVariants as object
use Rattle.il_base.specs.declared.cil_values.resolved.Instruction.{Instruction}
use Rattle.il_base.specs.declared.cil_values.resolved.Use.{Use}
use Rattle.il_base.specs.declared.cil_values.resolved.Use.TheVariants as used
use Rattle.il_base.specs.declared.cil_values.state.State.{State}
use Rattle.rules.specs.step_rules.Queries.{Queries}
use Rattle.rules.specs.step_rules.Next.{Next}
use Rattle.rules.specs.step_rules.Words.{Here, stuck, stopped, known, popped, goes, object_at}
use Rattle.rules.specs.step_rules.Closing.{plain, standing, is_sound, if_so, closed, closed_field}
use Rattle.rules.specs.step_rules.Stores.{fits_reference, fits, is_reference, is_value}
use Rattle.rules.specs.step_rules.Objects.{is_a}
use Rattle.rules.specs.step_rules.Dispatch.{path_into_box}
use Rattle.rules.specs.step_rules.Types.{cast_or, cast_with, cast_class, casts, cast, boxes_value, boxes, box, boxed_of, or_invalid, unboxes, unbox_pointer, unbox_value, unboxed, unbox, is_definition_in, closed_handle, load_handle, load_token}
use Rattle.rules.specs.change_rules.Change.{Rho, Change}
use Rattle.rules.specs.change_rules.Moves.{move_expr, move_value, move_values}
use Rattle.rules.specs.change_rules.Answers.{move_here, move_operand, move_instruction}
use Rattle.rules.specs.change_rules.States.{move_obj, move_state}
use Rattle.rules.specs.change_rules.Keeps.{keeps_expr, shows_expr, makes_expr, keeps_made, keeps_value, keeps_values, if_good, keeps_accessed, keeps_operand, keeps_of_form}
use Rattle.rules.specs.change_rules.Covered.{keeps_obj, Covered}
use Rattle.rules.specs.change_rules.Agree.{Agree, is_asked}
use Rattle.rules.specs.change_rules.Lock.{Lock}
use Rattle.base_laws.proofs.lemmas.change_laws.Exprs.{moved_in, out_moved}
use Rattle.base_laws.proofs.lemmas.change_laws.Same.{same_exprs_moved}
use Rattle.base_laws.proofs.lemmas.change_laws.Values.{move_null, move_object, move_pointer, move_handle, move_field_handle, keeps_null, keeps_object, keeps_pointer, keeps_handle, keeps_field_handle}
use Rattle.run_laws.proofs.lemmas.lock_words.Words.{stuck_lock, stopped_lock, given_moved, had_moved, known_moved, required_lock, if_lock, popped_lock, push_lock, made_lock}
use Rattle.run_laws.proofs.lemmas.lock_words.Cases.{kept_cases}
use Rattle.run_laws.proofs.lemmas.lock_words.Types.{in_names, in_moves, standing_moved}
use Rattle.run_laws.proofs.lemmas.lock_words.Fits.{fits_reference_moved, fits_moved, fits_kept, is_value_moved}
use Rattle.run_laws.proofs.lemmas.lock_throwing.Objects.{shown_kept, object_moved, object_kept, is_a_at}
use Rattle.run_laws.proofs.lemmas.lock_throwing.Here.{KeptHere}
use Rattle.run_laws.proofs.lemmas.lock_throwing.Searching.{raise_lock}
use Rattle.run_laws.proofs.lemmas.lock_places.Options.{some_is}
use Rattle.run_laws.proofs.lemmas.lock_places.Closing.{weaker, closed_lock, closed_field_lock}
use Rattle.run_laws.proofs.lemmas.lock_places.Stores.{is_reference_moved, fits_reference_kept}

null_asked : IsTrue (is_asked name.NullReferenceException)
unfolding is_asked
null_asked = refl

cast_asked : IsTrue (is_asked name.InvalidCastException)
unfolding is_asked
cast_asked = refl

pub known_is : {A : Type 0} (p : A → Bool) (o : Known A) (x : A) → o ≡ Good x → IsTrue (if_good p o) → IsTrue (p x)
known_is p o x e h = ap (if_good p) (sym e) ∙ h

so_value : (r : Rho) (b : Bool) (v : Value) → if_so b (move_value r v) ≡ option_map (move_value r) (if_so b v)
so_value r true v = refl
so_value r false v = refl

so_type : (r : Rho) (b : Bool) (e : TypeExpr) → if_so b (move_expr r e) ≡ option_map (move_expr r) (if_so b e)
so_type r true e = refl
so_type r false e = refl

so_is : {A : Type 0} (P : A → Type 0) (b : Bool) (x y : A) → if_so b x ≡ Some y → P x → P y
so_is P true x y e h = some_is P x y e h
so_is P false x y e h = cc

definition_in_moved : (r : Rho) (x : TypeExpr-F TypeExpr) → is_definition_in (moved_in r x) ≡ is_definition_in x
definition_in_moved r (TypeExpr-F.Prim n) = refl
definition_in_moved r (TypeExpr-F.Def t) = refl
definition_in_moved r (TypeExpr-F.Inst t args) = refl
definition_in_moved r (TypeExpr-F.Array x) = refl
definition_in_moved r (TypeExpr-F.ByRef x) = refl
definition_in_moved r (TypeExpr-F.Var n) = refl
definition_in_moved r (TypeExpr-F.MVar n) = refl
definition_in_moved r (TypeExpr-F.Mod required by x) = refl

module _ (k : Change) (after before : Queries) (a : Agree k after before) (here : Here) (i : Instruction) (s : State) (c : Covered k.keep before s) where
  object_lock : (n : ℕ) (stack : List Value) → IsTrue (keeps_values k.keep stack)
      → Lock k before (goes (move_here k.rho here) (move_instruction k.rho i) (value.Object n ∷ move_values k.rho stack) (move_state k before s)) (goes here i (value.Object n ∷ stack) s)
  object_lock n stack hs = push_lock k before here i (value.Object n) (value.Object n) stack s (sym (move_object k.rho n)) c (keeps_object k.keep n) hs

  null_lock : (stack : List Value) → IsTrue (keeps_values k.keep stack)
      → Lock k before (goes (move_here k.rho here) (move_instruction k.rho i) (value.Null ∷ move_values k.rho stack) (move_state k before s)) (goes here i (value.Null ∷ stack) s)
  null_lock stack hs = push_lock k before here i value.Null value.Null stack s (sym (move_null k.rho)) c (keeps_null k.keep) hs

  value_lock : (v : Value) (stack : List Value) → IsTrue (keeps_value k.keep v) → IsTrue (keeps_values k.keep stack)
      → Lock k before (goes (move_here k.rho here) (move_instruction k.rho i) (move_value k.rho v ∷ move_values k.rho stack) (move_state k before s)) (goes here i (v ∷ stack) s)
  value_lock v stack hv hs = push_lock k before here i (move_value k.rho v) v stack s refl c hv hs

  -- ---- casts

  cast_or_lock : (stack : List Value) (n : ℕ) (x y : Next) → IsTrue (keeps_values k.keep stack) → Lock k before x y → (b : Bool)
      → Lock k before (cast_or (move_here k.rho here) (move_instruction k.rho i) (move_state k before s) (move_values k.rho stack) n x b) (cast_or here i s stack n y b)
  cast_or_lock stack n x y hs l true = object_lock n stack hs
  cast_or_lock stack n x y hs l false = l

  cast_with_lock : (e : TypeExpr) → IsTrue (keeps_expr k.keep e) → (stack : List Value) → IsTrue (keeps_values k.keep stack) → (x y : Next) → Lock k before x y → (v : Value) → IsTrue (keeps_value k.keep v)
      → Lock k before (cast_with after (move_here k.rho here) (move_instruction k.rho i) (move_state k before s) (move_expr k.rho e) (move_value k.rho v) (move_values k.rho stack) x) (cast_with before here i s e v stack y)
  unfolding roll-Value denote.Hole.Carrier.roll out-Value denote.Hole.Carrier.out
  cast_with_lock e he stack hs x y l =
      let out : Lock k before (stuck (move_state k before s)) (stuck s) = stuck_lock k before s in
      kept_cases k (λ w v. Lock k before (cast_with after (move_here k.rho here) (move_instruction k.rho i) (move_state k before s) (move_expr k.rho e) w (move_values k.rho stack) x) (cast_with before here i s e v stack y))
      (null_lock stack hs) (λ n. out) (λ n. out) (λ n. out)
      (λ n. subst (λ (b : Bool). Lock k before (cast_or (move_here k.rho here) (move_instruction k.rho i) (move_state k before s) (move_values k.rho stack) n x b) (cast_or here i s stack n y (is_a before e (object_at s n))))
      (sym (is_a_at k after before a s c e he n)) (cast_or_lock stack n x y hs l (is_a before e (object_at s n))))
      (λ p h. out) (λ d cells h g. out) (λ d h. out) (λ f h. out)

  cast_class_lock : (e : TypeExpr) → IsTrue (keeps_expr k.keep e) → (v : Value) (stack : List Value) → IsTrue (keeps_value k.keep v) → IsTrue (keeps_values k.keep stack)
      → Lock k before (cast_class after (move_here k.rho here) (move_instruction k.rho i) (move_state k before s) (move_expr k.rho e) (move_value k.rho v) (move_values k.rho stack)) (cast_class before here i s e v stack)
  cast_class_lock e he v stack hv hs = cast_with_lock e he stack hs _ _ (raise_lock k after before a name.InvalidCastException cast_asked s c) v hv

  casts_lock : (e : TypeExpr) → IsTrue (keeps_expr k.keep e) → Lock k before (casts after (move_here k.rho here) (move_instruction k.rho i) (move_state k before s) (move_expr k.rho e)) (casts before here i s e)
  casts_lock e he =
      popped_lock k before s.top.stack s _ _ c.top.stack (λ v stack hv hs.
      if_lock k before _ (i.opcode == CASTCLASS) _ _ _ _ refl (λ b. cast_class_lock e he v stack hv hs) (λ b. cast_with_lock e he stack hs _ _ (null_lock stack hs) v hv))

  -- ---- boxes

  boxes_value_lock : (e : TypeExpr) (stack : List Value) (v : Value) → IsTrue (keeps_made k.keep e) → IsTrue (keeps_values k.keep stack) → IsTrue (keeps_value k.keep v)
      → Lock k before (boxes_value (move_here k.rho here) (move_instruction k.rho i) (move_state k before s) (move_expr k.rho e) (move_values k.rho stack) (move_value k.rho v)) (boxes_value here i s e stack v)
  boxes_value_lock e stack v he hs hv =
      made_lock k before (object.Boxed e v) s (λ n t. goes (move_here k.rho here) (move_instruction k.rho i) (value.Object n ∷ move_values k.rho stack) t) (λ n t. goes here i (value.Object n ∷ stack) t) c
      (and_from (keeps_made k.keep e) (keeps_value k.keep v) he hv)
      (λ n t ct. push_lock k before here i (value.Object n) (value.Object n) stack t (sym (move_object k.rho n)) ct (keeps_object k.keep n) hs)

  boxes_lock : (e : TypeExpr) → IsTrue (keeps_expr k.keep e) → IsTrue (shows_expr k.keep e) → (v : Value) (stack : List Value) → IsTrue (keeps_value k.keep v) → IsTrue (keeps_values k.keep stack)
      → Lock k before (boxes after (move_here k.rho here) (move_instruction k.rho i) (move_state k before s) (move_expr k.rho e) (move_value k.rho v) (move_values k.rho stack)) (boxes before here i s e v stack)
  boxes_lock e he shown v stack hv hs =
      if_lock k before _ (is_reference before e) _ _ _ _ (is_reference_moved k after before a e he)
      (λ b. given_moved k before (move_value k.rho) (fits_reference v) _ s _ _ (fits_reference_moved k.rho v) (λ w is. value_lock w stack (fits_reference_kept k v w hv is) hs))
      (λ b. required_lock k before _ (is_value before e) s _ _ (is_value_moved k after before a e he) (λ isv.
      given_moved k before (move_value k.rho) (fits before e v) _ s _ _ (fits_moved k after before a e v he) (λ w is.
      boxes_value_lock e stack w (and_from (shows_expr k.keep e) (makes_expr k.keep e) shown (a.makes_values e he isv)) hs (fits_kept k after before a e v w hv is))))

  boxed_of_moved : (e : TypeExpr) (o : Obj) → boxed_of (move_expr k.rho e) (move_obj k before o) ≡ option_map (move_value k.rho) (boxed_of e o)
  boxed_of_moved e (object.Instance of cells) = refl
  boxed_of_moved e (object.Boxed of v) = ap (λ (b : Bool). if_so b (move_value k.rho v)) (same_exprs_moved k.back k.rho k.undone of e) ∙ so_value k.rho (exprs.same_expr of e) v
  boxed_of_moved e (object.Array of cells) = refl
  boxed_of_moved e (object.Str units) = refl
  boxed_of_moved e (object.TypeOf d) = refl
  boxed_of_moved e (object.Member m d) = refl

  boxed_of_kept : (e : TypeExpr) (o : Obj) (v : Value) → IsTrue (keeps_obj k.keep before o) → boxed_of e o ≡ Some v → IsTrue (keeps_value k.keep v)
  boxed_of_kept e (object.Instance of cells) v h is = cc
  boxed_of_kept e (object.Boxed of w) v h is = so_is (λ y. IsTrue (keeps_value k.keep y)) (exprs.same_expr of e) w v is (second_so (keeps_made k.keep of) (keeps_value k.keep w) h)
  boxed_of_kept e (object.Array of cells) v h is = cc
  boxed_of_kept e (object.Str units) v h is = cc
  boxed_of_kept e (object.TypeOf d) v h is = cc
  boxed_of_kept e (object.Member m d) v h is = cc

  invalid_lock : (f g : Value → Next) (o : Option Value) → ((v : Value) → o ≡ Some v → Lock k before (f (move_value k.rho v)) (g v))
      → Lock k before (or_invalid after (move_state k before s) (option_map (move_value k.rho) o) f) (or_invalid before s o g)
  invalid_lock f g None l = raise_lock k after before a name.InvalidCastException cast_asked s c
  invalid_lock f g (Some v) l = l v refl

  unboxes_lock : (e : TypeExpr) (f g : ℕ → Value → Next) → ((n : ℕ) (w : Value) → IsTrue (keeps_value k.keep w) → Lock k before (f n (move_value k.rho w)) (g n w)) → (v : Value) → IsTrue (keeps_value k.keep v)
      → Lock k before (unboxes after (move_state k before s) (move_expr k.rho e) (move_value k.rho v) f) (unboxes before s e v g)
  unfolding roll-Value denote.Hole.Carrier.roll out-Value denote.Hole.Carrier.out
  unboxes_lock e f g l =
      let out : Lock k before (stuck (move_state k before s)) (stuck s) = stuck_lock k before s in
      kept_cases k (λ w v. Lock k before (unboxes after (move_state k before s) (move_expr k.rho e) w f) (unboxes before s e v g))
      (raise_lock k after before a name.NullReferenceException null_asked s c) (λ n. out) (λ n. out) (λ n. out)
      (λ n. given_moved k before (move_obj k before) (object_at s n) _ s _ _ (object_moved k after before a s n) (λ o is.
      subst (λ (x : Option Value). Lock k before (or_invalid after (move_state k before s) x (f n)) (or_invalid before s (boxed_of e o) (g n))) (sym (boxed_of_moved e o))
      (invalid_lock (f n) (g n) (boxed_of e o) (λ v iv. l n v (boxed_of_kept e o v (object_kept k after before a s c n o is) iv)))))
      (λ p h. out) (λ d cells h q. out) (λ d h. out) (λ d h. out)

  unbox_pointer_lock : (e : TypeExpr) → IsTrue (keeps_expr k.keep e) → Lock k before (unbox_pointer after (move_here k.rho here) (move_instruction k.rho i) (move_state k before s) (move_expr k.rho e)) (unbox_pointer before here i s e)
  unbox_pointer_lock e he =
      required_lock k before _ (is_value before e) s _ _ (is_value_moved k after before a e he) (λ b.
      popped_lock k before s.top.stack s _ _ c.top.stack (λ v stack hv hs.
      unboxes_lock e (λ n w. goes (move_here k.rho here) (move_instruction k.rho i) (value.Pointer (path_into_box n (move_expr k.rho e)) ∷ move_values k.rho stack) (move_state k before s)) (λ n w. goes here i (value.Pointer (path_into_box n e) ∷ stack) s)
      (λ n w hw. push_lock k before here i (value.Pointer (path_into_box n (move_expr k.rho e))) (value.Pointer (path_into_box n e)) stack s (sym (move_pointer k.rho (path_into_box n e))) c (keeps_pointer k.keep (path_into_box n e) ∙ he) hs) v hv))

  unbox_value_lock : (e : TypeExpr) → IsTrue (keeps_expr k.keep e) → Lock k before (unbox_value after (move_here k.rho here) (move_instruction k.rho i) (move_state k before s) (move_expr k.rho e)) (unbox_value before here i s e)
  unbox_value_lock e he =
      if_lock k before _ (is_reference before e) _ _ _ _ (is_reference_moved k after before a e he)
      (λ b. popped_lock k before s.top.stack s _ _ c.top.stack (λ v stack hv hs. cast_class_lock e he v stack hv hs))
      (λ b. required_lock k before _ (is_value before e) s _ _ (is_value_moved k after before a e he) (λ isv.
      popped_lock k before s.top.stack s _ _ c.top.stack (λ v stack hv hs.
      unboxes_lock e (λ n w. goes (move_here k.rho here) (move_instruction k.rho i) (w ∷ move_values k.rho stack) (move_state k before s)) (λ n w. goes here i (w ∷ stack) s) (λ n w hw. value_lock w stack hw hs) v hv)))

  -- ---- the forms

  module _ (r : KeptHere k.keep before here) where
    shown_in : (e d : TypeExpr) → plain (exprs.subst here.targs here.margs e) ≡ d → IsTrue (shows_expr k.keep e) → IsTrue (shows_expr k.keep d)
    shown_in e d is h = subst (λ (x : TypeExpr). IsTrue (shows_expr k.keep x)) is ((in_names k after before a here.targs here.margs r.targs r.margs e).shown h)

    cast_by : (u : Use) → IsTrue (keeps_operand k.keep before u)
        → Lock k before (elim (move_operand k.rho u) [ used.Typ e ↦ closed after (move_here k.rho here) e (move_state k before s) (casts after (move_here k.rho here) (move_instruction k.rho i) (move_state k before s)) | _ ↦ stuck (move_state k before s) ])
        (elim u [ used.Typ e ↦ closed before here e s (casts before here i s) | _ ↦ stuck s ])
    cast_by (used.Typ o) h = closed_lock k after before a here r s o _ _ h (λ e d at is hd. casts_lock d hd)
    cast_by _ h = stuck_lock k before s

    pub cast_lock : IsTrue (keeps_operand k.keep before i.operand) → Lock k before (cast after (move_here k.rho here) (move_instruction k.rho i) (move_state k before s)) (cast before here i s)
    unfolding cast
    cast_lock h = cast_by i.operand h

    box_by : (u : Use) → IsTrue (keeps_operand k.keep before u) → IsTrue (keeps_of_form k.keep i.opcode form.Box u)
        → Lock k before (elim (move_operand k.rho u) [ used.Typ e ↦ closed after (move_here k.rho here) e (move_state k before s) (λ d. popped (move_values k.rho s.top.stack) (move_state k before s) (boxes after (move_here k.rho here) (move_instruction k.rho i) (move_state k before s) d)) | _ ↦ stuck (move_state k before s) ])
        (elim u [ used.Typ e ↦ closed before here e s (λ d. popped s.top.stack s (boxes before here i s d)) | _ ↦ stuck s ])
    box_by (used.Typ o) h g =
        closed_lock k after before a here r s o _ _ h (λ e d at is hd.
        popped_lock k before s.top.stack s (boxes after (move_here k.rho here) (move_instruction k.rho i) (move_state k before s) (move_expr k.rho d)) (boxes before here i s d) c.top.stack (λ v stack hv hs.
        boxes_lock d hd (shown_in e d is (known_is (shows_expr k.keep) o e at g)) v stack hv hs))
    box_by _ h g = stuck_lock k before s

    pub box_lock : IsTrue (keeps_operand k.keep before i.operand) → IsTrue (keeps_of_form k.keep i.opcode form.Box i.operand) → Lock k before (box after (move_here k.rho here) (move_instruction k.rho i) (move_state k before s)) (box before here i s)
    unfolding box
    box_lock h g = box_by i.operand h g

    unbox_by : (u : Use) → IsTrue (keeps_operand k.keep before u)
        → Lock k before (elim (move_operand k.rho u) [ used.Typ e ↦ closed after (move_here k.rho here) e (move_state k before s) (unboxed after (move_here k.rho here) (move_instruction k.rho i) (move_state k before s)) | _ ↦ stuck (move_state k before s) ])
        (elim u [ used.Typ e ↦ closed before here e s (unboxed before here i s) | _ ↦ stuck s ])
    unbox_by (used.Typ o) h =
        closed_lock k after before a here r s o _ _ h (λ e d at is hd.
        if_lock k before _ (i.opcode == UNBOX) _ _ _ _ refl (λ b. unbox_pointer_lock d hd) (λ b. unbox_value_lock d hd))
    unbox_by _ h = stuck_lock k before s

    pub unbox_lock : IsTrue (keeps_operand k.keep before i.operand) → Lock k before (unbox after (move_here k.rho here) (move_instruction k.rho i) (move_state k before s)) (unbox before here i s)
    unfolding unbox
    unbox_lock h = unbox_by i.operand h

    -- ---- handles

    abbrev In : TypeExpr → TypeExpr
    In e = plain (exprs.subst here.targs here.margs e)

    handle_moved : (e : TypeExpr) → IsTrue (keeps_expr k.keep e) → closed_handle after (move_here k.rho here) (move_expr k.rho e) ≡ option_map (move_expr k.rho) (closed_handle before here e)
    unfolding closed_handle
    handle_moved e h =
        let d : TypeExpr = In e in
        let hd : IsTrue (keeps_expr k.keep d) = (in_names k after before a here.targs here.margs r.targs r.margs e).kept h in
        let definition : is_definition_in (out-TypeExpr (move_expr k.rho d)) ≡ is_definition_in (out-TypeExpr d) = ap is_definition_in (out_moved k.rho d) ∙ definition_in_moved k.rho (out-TypeExpr d) in
        ap (λ (x : TypeExpr). if_so (is_definition_in (out-TypeExpr x) || is_sound (standing after.head x)) x) (in_moves k after before a here.targs here.margs r.targs r.margs e)
        ∙ (λ j. if_so (definition j || is_sound (standing_moved k after before a d hd j)) (move_expr k.rho d))
        ∙ so_type k.rho (is_definition_in (out-TypeExpr d) || is_sound (standing before.head d)) d

    handle_shown : (e d : TypeExpr) → IsTrue (shows_expr k.keep e) → closed_handle before here e ≡ Some d → IsTrue (shows_expr k.keep d)
    unfolding closed_handle
    handle_shown e d h is = so_is (λ x. IsTrue (shows_expr k.keep x)) (is_definition_in (out-TypeExpr (In e)) || is_sound (standing before.head (In e))) (In e) d is ((in_names k after before a here.targs here.margs r.targs r.margs e).shown h)

    load_handle_lock : (e : TypeExpr) → IsTrue (shows_expr k.keep e) → Lock k before (load_handle after (move_here k.rho here) (move_instruction k.rho i) (move_state k before s) (move_expr k.rho e)) (load_handle before here i s e)
    load_handle_lock e h =
        had_moved k before (move_expr k.rho) (closed_handle before here e) _ s (λ d. goes (move_here k.rho here) (move_instruction k.rho i) (value.Handle d ∷ move_values k.rho s.top.stack) (move_state k before s)) (λ d. goes here i (value.Handle d ∷ s.top.stack) s) (handle_moved e (shown_kept k.keep e h)) (λ d is.
        push_lock k before here i (value.Handle (move_expr k.rho d)) (value.Handle d) s.top.stack s (sym (move_handle k.rho d)) c (keeps_handle k.keep d ∙ handle_shown e d h is) c.top.stack)

    token_by : (u : Use) → IsTrue (keeps_operand k.keep before u) → IsTrue (keeps_of_form k.keep i.opcode form.LdToken u)
        → Lock k before (elim (move_operand k.rho u) [
          | used.Typ e ↦ known e (move_state k before s) (load_handle after (move_here k.rho here) (move_instruction k.rho i) (move_state k before s))
          | used.Field f ↦ closed_field after (move_here k.rho here) f (move_state k before s) (λ x. goes (move_here k.rho here) (move_instruction k.rho i) (value.FieldHandle (record { 0 = x.id }) ∷ move_values k.rho s.top.stack) (move_state k before s))
          | used.Method m ↦ stopped (move_state k before s)
          | _ ↦ stuck (move_state k before s)
        ])
        (elim u [
          | used.Typ e ↦ known e s (load_handle before here i s)
          | used.Field f ↦ closed_field before here f s (λ x. goes here i (value.FieldHandle (record { 0 = x.id }) ∷ s.top.stack) s)
          | used.Method m ↦ stopped s
          | _ ↦ stuck s
        ])
    token_by (used.Typ o) h g = known_moved k before (move_expr k.rho) (shows_expr k.keep) o s _ _ g (λ e he. load_handle_lock e he)
    token_by (used.Field o) h g =
        closed_field_lock k after before a here r s o (λ x. goes (move_here k.rho here) (move_instruction k.rho i) (value.FieldHandle (record { 0 = x.id }) ∷ move_values k.rho s.top.stack) (move_state k before s)) (λ x. goes here i (value.FieldHandle (record { 0 = x.id }) ∷ s.top.stack) s)
        (weaker (keeps_accessed k.keep before) (λ u. k.keep.field u.field.0 && keeps_expr k.keep u.owner) (λ u g. first_so (k.keep.field u.field.0 && keeps_expr k.keep u.owner) _ g) o h)
        (λ u x e is. push_lock k before here i (value.FieldHandle (record { 0 = k.rho.field x.id })) (value.FieldHandle (record { 0 = x.id })) s.top.stack s (sym (move_field_handle k.rho (record { 0 = x.id }))) c (keeps_field_handle k.keep (record { 0 = x.id }) ∙ is.kept.id) c.top.stack)
    token_by (used.Method m) h g = stopped_lock k before s
    token_by _ h g = stuck_lock k before s

    pub load_token_lock : IsTrue (keeps_operand k.keep before i.operand) → IsTrue (keeps_of_form k.keep i.opcode form.LdToken i.operand) → Lock k before (load_token after (move_here k.rho here) (move_instruction k.rho i) (move_state k before s)) (load_token before here i s)
    unfolding load_token
    load_token_lock h g = token_by i.operand h g
