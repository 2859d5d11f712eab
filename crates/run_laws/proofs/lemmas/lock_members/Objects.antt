-- Members of Object, of the numbers, of exceptions and of Array.
use Rattle.std.proofs.Common.{◌≡◌, ℕ, zero, suc, pos, Bool, ◌&&◌, List, [], ◌∷◌, length, drop, Option, Some, None, refl, sym, ap, subst, ◌∙◌}
use Rattle.std.specs.Prelude.{IsTrue, nat_le, ◌*◌}
use Rattle.std.specs.Option.{option_map}
use Rattle.std.specs.Ordering.{int_eq}
use Rattle.std.specs.Cmp.{first_so, second_so}
use Rattle.std.proofs.lemmas.Bool.{and_from}
use Rattle.std.proofs.lemmas.List.{length-map}
use Rattle.byteorder.specs.Endian.{little_number}
use Rattle.il_base.specs.declared.world_model.known.Known.TheVariants.{Good, Bad}
use Rattle.il_base.specs.declared.world_model.expr.TypeExpr.{TypeExpr}
use Rattle.il_base.specs.declared.world_model.expr.TypeExpr.TheVariants as expr
use Rattle.il_base.specs.world_model.Exprs.{same_expr}
use Rattle.il_base.specs.declared.core_table.names.CoreName.{CoreName}
use Rattle.il_base.specs.declared.core_table.names.CoreName.TheVariants as name
use Rattle.il_base.specs.declared.cil_values.value.Value.{Value, out-Value, roll-Value}
use Rattle.il_base.specs.declared.cil_values.value.Value.TheVariants as value
use Rattle.il_base.specs.declared.cil_values.object.Obj.{Obj}
use Rattle.il_base.specs.declared.cil_values.object.Obj.TheVariants as object
use Rattle.il_base.specs.declared.cil_values.definition.First.{First}
use Rattle.il_base.specs.declared.cil_values.definition.First.TheVariants.{Blank as blank, Bytes as bytes, EmptyText as empty_text}
use Rattle.il_base.specs.declared.cil_values.layout.Cell.{Cell}
use Rattle.il_base.specs.declared.cil_values.layout.Cell.TheVariants.{Message as message, Inner as inner}
use Rattle.il_base.specs.declared.cil_values.layout.Shape.{Shape}
use Rattle.il_base.specs.declared.cil_values.layout.Shape.TheVariants.{Reference as reference, Pointer as pointer, Integer as integer, TypeHandle as type_handle, FieldHandle as field_handle, Structure as structure, NoValue as no_value}
use Rattle.il_base.specs.declared.cil_values.state.State.{State}
use Rattle.rules.specs.step_rules.Queries.{Queries}
use Rattle.rules.specs.step_rules.Words.{stuck, given, object_at}
use Rattle.rules.specs.step_rules.Integers.{width_of, held_number}
use Rattle.rules.specs.step_rules.Places.{cell_in, with_object}
use Rattle.rules.specs.step_rules.Objects.{type_of, units_of, units_of_bytes, default_message, parameter_message}
use Rattle.rules.specs.step_rules.CoreWords.{Gives, gives_nothing, gives_value, gives_truth, gives_int, gives_text}
use Rattle.rules.specs.step_rules.Raising.{raise}
use Rattle.rules.specs.step_rules.CoreObjects.{halt, idle_form, named, type_name_form, is_same, same_form, text_of_number, number_text_form, same_number, is_boxed_number, is_number, number_is_form, ints_equal, int_equals_form, order_of, ints_compared, int_compare_form, cell_at, put_cell, exception_text_form, exception_inner_form, name_units, stored_text, exception_parameter_form, told_message, message_in, get_message_form, get_inner_form}
use Rattle.rules.specs.step_rules.CoreArrays.{length_in, length_at, array_length_form, elements_of, fill_with, fill_from, fill_by, fill_object, fill_array_by, fill_array_at, fill_array_form}
use Rattle.rules.specs.change_rules.Change.{Rho, Keep, Change}
use Rattle.rules.specs.change_rules.Moves.{move_expr, move_value, move_values}
use Rattle.rules.specs.change_rules.Answers.{move_field, move_cell, move_shape}
use Rattle.rules.specs.change_rules.States.{keeps_cell, move_obj, move_state}
use Rattle.rules.specs.change_rules.Keeps.{shows_expr, keeps_value, keeps_values}
use Rattle.rules.specs.change_rules.Covered.{keeps_obj, Covered}
use Rattle.rules.specs.change_rules.Agree.{Agree, is_asked}
use Rattle.rules.specs.change_rules.Lock.{Lock, GivesLock}
use Rattle.base_laws.proofs.lemmas.change_laws.Exprs.{move_prim}
use Rattle.base_laws.proofs.lemmas.change_laws.Same.{same_exprs_moved}
use Rattle.base_laws.proofs.lemmas.change_laws.Values.{move_object, keeps_object}
use Rattle.run_laws.proofs.lemmas.lock_words.Words.{stuck_lock, stopped_lock, given_same, given_moved, had_moved, if_lock}
use Rattle.run_laws.proofs.lemmas.lock_words.Cases.{moved_cases, kept_cases, alike}
use Rattle.run_laws.proofs.lemmas.lock_words.Fits.{number_moved, number_kept}
use Rattle.run_laws.proofs.lemmas.lock_throwing.Objects.{made_shown, shown_kept, type_of_moved, type_of_made, type_of_kept, object_moved, object_kept, cell_in_moved, units_moved, default_message_moved}
use Rattle.run_laws.proofs.lemmas.lock_throwing.Searching.{raise_lock}
use Rattle.run_laws.proofs.lemmas.lock_places.Options.{Through, through_is, some_is}
use Rattle.run_laws.proofs.lemmas.lock_places.Stores.{held_moved}
use Rattle.run_laws.proofs.lemmas.lock_places.Places.{cell_at_moved, cell_is}
use Rattle.run_laws.proofs.lemmas.lock_places.Puts.{with_object_moved, with_object_covered, put_cell_moved, put_cell_covered}
use Rattle.run_laws.proofs.lemmas.lock_fields.Texts.{made_text_lock}
use Rattle.run_laws.proofs.lemmas.lock_members.Giving.{nothing_lock, value_lock, still_lock, truth_lock, int_lock, text_lock}

null_asked : IsTrue (is_asked name.NullReferenceException)
unfolding is_asked
null_asked = refl

argument_asked : IsTrue (is_asked name.ArgumentException)
unfolding is_asked
argument_asked = refl

elements_moved : (r : Rho) (code n : ℕ) (bs : List ℕ) → elements_of code n bs ≡ move_values r (elements_of code n bs)
unfolding elements_of
elements_moved r code zero bs = refl
elements_moved r code (suc n) bs = λ i. sym (number_moved r code (pos (little_number (width_of code) bs))) i ∷ elements_moved r code n (drop (width_of code) bs) i

elements_kept : (k : Keep) (code n : ℕ) (bs : List ℕ) → IsTrue (keeps_values k (elements_of code n bs))
unfolding elements_of
elements_kept k code zero bs = refl
elements_kept k code (suc n) bs = and_from _ _ (number_kept k code (pos (little_number (width_of code) bs))) (elements_kept k code n (drop (width_of code) bs))

module _ (k : Change) (after before : Queries) (a : Agree k after before) where
  -- ---- what is read of values

  pub is_same_moved : (v w : Value) → is_same (move_value k.rho v) (move_value k.rho w) ≡ is_same v w
  unfolding roll-Value denote.Hole.Carrier.roll out-Value denote.Hole.Carrier.out
  is_same_moved v w =
      moved_cases k.rho (λ x y. is_same x (move_value k.rho w) ≡ is_same y w)
      (alike k.rho (is_same value.Null) (λ p. refl) (λ e cells. refl) (λ e. refl) (λ f. refl) w)
      (λ n. refl) (λ n. refl) (λ n. refl)
      (λ n. alike k.rho (is_same (value.Object n)) (λ p. refl) (λ e cells. refl) (λ e. refl) (λ f. refl) w)
      (λ p. refl) (λ e cells. refl) (λ e. refl) (λ f. refl) v

  boxed_number : (code : ℕ) (v : Value) (o : Option Obj) → is_boxed_number code (move_value k.rho v) (option_map (move_obj k before) o) ≡ is_boxed_number code v o
  boxed_number code v None = refl
  boxed_number code v (Some (object.Instance of cells)) = refl
  boxed_number code v (Some (object.Boxed of w)) =
      λ i. (ap (same_expr (move_expr k.rho of)) (sym (move_prim k.rho code)) ∙ same_exprs_moved k.back k.rho k.undone of (expr.Prim code)) i && same_number (held_moved k v i) (held_moved k w i)
  boxed_number code v (Some (object.Array of cells)) = refl
  boxed_number code v (Some (object.Str units)) = refl
  boxed_number code v (Some (object.TypeOf e)) = refl
  boxed_number code v (Some (object.Member m e)) = refl

  is_number_moved : (code : ℕ) (s : State) (v w : Value) → is_number code (move_state k before s) (move_value k.rho v) (move_value k.rho w) ≡ is_number code s v w
  unfolding roll-Value denote.Hole.Carrier.roll out-Value denote.Hole.Carrier.out
  is_number_moved code s v w =
      moved_cases k.rho (λ x y. is_number code (move_state k before s) (move_value k.rho v) x ≡ is_number code s v y)
      refl (λ n. refl) (λ n. refl) (λ n. refl) (λ n. ap (is_boxed_number code (move_value k.rho v)) (object_moved k after before a s n) ∙ boxed_number code v (object_at s n))
      (λ p. refl) (λ e cells. refl) (λ e. refl) (λ f. refl) w

  cell_at_by : (s : State) → Covered k.keep before s → (c : Cell) → IsTrue (keeps_cell k.keep c) → (v : Value)
      → cell_at after (move_state k before s) (move_cell k.rho c) (move_value k.rho v) ≡ option_map (move_value k.rho) (cell_at before s c v)
  unfolding roll-Value denote.Hole.Carrier.roll out-Value denote.Hole.Carrier.out
  cell_at_by s cs c h =
      moved_cases k.rho (λ w v. cell_at after (move_state k before s) (move_cell k.rho c) w ≡ option_map (move_value k.rho) (cell_at before s c v))
      refl (λ n. refl) (λ n. refl) (λ n. refl) (λ n. cell_at_moved k after before a s cs n c h) (λ p. refl) (λ e cells. refl) (λ e. refl) (λ f. refl)

  cell_at_kept : (s : State) → Covered k.keep before s → (c : Cell) → IsTrue (keeps_cell k.keep c) → (v w : Value) → cell_at before s c v ≡ Some w → IsTrue (keeps_value k.keep w)
  cell_at_kept s cs c h value.Null w e = cc
  cell_at_kept s cs c h (value.I4 n) w e = cc
  cell_at_kept s cs c h (value.I8 n) w e = cc
  cell_at_kept s cs c h (value.Native n) w e = cc
  cell_at_kept s cs c h (value.Object n) w e =
      let t : Through (cell_in before c) (object_at s n) w = through_is _ _ _ e in
      cell_is k after before a c h t.x w (object_kept k after before a s cs n t.x t.there) t.is
  cell_at_kept s cs c h (value.Pointer p) w e = cc
  cell_at_kept s cs c h (value.Handle d) w e = cc
  cell_at_kept s cs c h (value.FieldHandle f) w e = cc
  cell_at_kept s cs c h v w e = cc

  put_by : (s : State) → Covered k.keep before s → (c : Cell) → IsTrue (keeps_cell k.keep c) → (x v : Value)
      → put_cell after (move_state k before s) (move_cell k.rho c) (move_value k.rho x) (move_value k.rho v) ≡ option_map (move_state k before) (put_cell before s c x v)
  unfolding roll-Value denote.Hole.Carrier.roll out-Value denote.Hole.Carrier.out
  put_by s cs c h x =
      moved_cases k.rho (λ w v. put_cell after (move_state k before s) (move_cell k.rho c) (move_value k.rho x) w ≡ option_map (move_state k before) (put_cell before s c x v))
      refl (λ n. refl) (λ n. refl) (λ n. refl) (λ n. put_cell_moved k after before a s cs n c h x) (λ p. refl) (λ e cells. refl) (λ e. refl) (λ f. refl)

  put_covered : (s t : State) → Covered k.keep before s → (c : Cell) (x v : Value) → IsTrue (keeps_value k.keep x) → put_cell before s c x v ≡ Some t → Covered k.keep before t
  put_covered s t cs c x value.Null h e = cc
  put_covered s t cs c x (value.I4 n) h e = cc
  put_covered s t cs c x (value.I8 n) h e = cc
  put_covered s t cs c x (value.Native n) h e = cc
  put_covered s t cs c x (value.Object n) h e = put_cell_covered k after before a s t cs n c x h e
  put_covered s t cs c x (value.Pointer p) h e = cc
  put_covered s t cs c x (value.Handle d) h e = cc
  put_covered s t cs c x (value.FieldHandle f) h e = cc
  put_covered s t cs c x v h e = cc

  name_units_moved : (s : State) (v : Value) → name_units (move_state k before s) (move_value k.rho v) ≡ name_units s v
  unfolding roll-Value denote.Hole.Carrier.roll out-Value denote.Hole.Carrier.out
  name_units_moved s v =
      moved_cases k.rho (λ w v. units_of (move_state k before s) w ≡ units_of s v → name_units (move_state k before s) w ≡ name_units s v)
      (λ e. refl) (λ n e. refl) (λ n e. refl) (λ n e. refl) (λ n e. e) (λ p e. refl) (λ d cells e. refl) (λ d e. refl) (λ f e. refl) v (units_moved k after before a s v)

  pub head_kept : (v : Value) (vs : List Value) → IsTrue (keeps_values k.keep (v ∷ vs)) → IsTrue (keeps_value k.keep v)
  head_kept v vs h = first_so (keeps_value k.keep v) (keeps_values k.keep vs) h

  pub tail_kept : (v : Value) (vs : List Value) → IsTrue (keeps_values k.keep (v ∷ vs)) → IsTrue (keeps_values k.keep vs)
  tail_kept v vs h = second_so (keeps_value k.keep v) (keeps_values k.keep vs) h

  module _ (s : State) (c : Covered k.keep before s) (f g : Gives) (gl : GivesLock k before f g) where
    out : Lock k before (stuck (move_state k before s)) (stuck s)
    out = stuck_lock k before s

    -- ---- Object

    pub halt_lock : (args : List Value) → IsTrue (keeps_values k.keep args) → Lock k before (halt after (move_values k.rho args) (move_state k before s) f) (halt before args s g)
    unfolding halt
    halt_lock args h = stopped_lock k before s

    pub idle_lock : (args : List Value) → IsTrue (keeps_values k.keep args) → Lock k before (idle_form after (move_values k.rho args) (move_state k before s) f) (idle_form before args s g)
    unfolding idle_form
    idle_lock args h = nothing_lock k after before a f g gl s c

    text_of_moved : (o : Obj) → IsTrue (keeps_obj k.keep before o) → after.text (type_of after (move_obj k before o)) ≡ before.text (type_of before o)
    text_of_moved o h = ap after.text (type_of_moved k after before a o) ∙ a.text (type_of before o) (made_shown k.keep (type_of before o) (type_of_made k after before a o h))

    named_lock : (v : Value) → IsTrue (keeps_value k.keep v) → Lock k before (named after (move_state k before s) f (move_value k.rho v)) (named before s g v)
    unfolding roll-Value denote.Hole.Carrier.roll out-Value denote.Hole.Carrier.out
    named_lock =
        kept_cases k (λ w v. Lock k before (named after (move_state k before s) f w) (named before s g v)) out (λ n. out) (λ n. out) (λ n. out)
        (λ n. given_moved k before (move_obj k before) (object_at s n) _ s _ _ (object_moved k after before a s n) (λ o is.
        subst (λ (t : List ℕ). Lock k before (gives_text (units_of_bytes t) (move_state k before s) f) (gives_text (units_of_bytes (before.text (type_of before o))) s g))
        (sym (text_of_moved o (object_kept k after before a s c n o is))) (text_lock k after before a f g gl (units_of_bytes (before.text (type_of before o))) s c)))
        (λ p h. out) (λ d cells h q. out) (λ d h. out) (λ d h. out)

    pub type_name_lock : (args : List Value) → IsTrue (keeps_values k.keep args) → Lock k before (type_name_form after (move_values k.rho args) (move_state k before s) f) (type_name_form before args s g)
    unfolding type_name_form
    type_name_lock (v ∷ []) h = named_lock v (head_kept v [] h)
    type_name_lock _ h = out

    pub same_lock : (args : List Value) → IsTrue (keeps_values k.keep args) → Lock k before (same_form after (move_values k.rho args) (move_state k before s) f) (same_form before args s g)
    unfolding same_form
    same_lock (v ∷ w ∷ []) h = given_same k before _ (is_same v w) s _ _ (is_same_moved v w) (λ b e. truth_lock k after before a f g gl b s c)
    same_lock _ h = out

    -- ---- numbers

    pub number_text_lock : (code : ℕ) (args : List Value) → IsTrue (keeps_values k.keep args) → Lock k before (number_text_form code after (move_values k.rho args) (move_state k before s) f) (number_text_form code before args s g)
    unfolding number_text_form
    number_text_lock code (v ∷ []) h = given_same k before _ (held_number v) s _ _ (held_moved k v) (λ n e. text_lock k after before a f g gl (text_of_number code n) s c)
    number_text_lock code _ h = out

    pub number_is_lock : (code : ℕ) (args : List Value) → IsTrue (keeps_values k.keep args) → Lock k before (number_is_form code after (move_values k.rho args) (move_state k before s) f) (number_is_form code before args s g)
    unfolding number_is_form
    number_is_lock code (v ∷ w ∷ []) h =
        subst (λ (b : Bool). Lock k before (gives_truth b (move_state k before s) f) (gives_truth (is_number code s v w) s g)) (sym (is_number_moved code s v w)) (truth_lock k after before a f g gl (is_number code s v w) s c)
    number_is_lock code _ h = out

    ints_equal_lock : (v w : Value) → IsTrue (keeps_value k.keep v) → IsTrue (keeps_value k.keep w) → Lock k before (ints_equal (move_state k before s) f (move_value k.rho v) (move_value k.rho w)) (ints_equal s g v w)
    unfolding roll-Value denote.Hole.Carrier.roll out-Value denote.Hole.Carrier.out
    ints_equal_lock v w hv hw =
        kept_cases k (λ x y. Lock k before (ints_equal (move_state k before s) f x (move_value k.rho w)) (ints_equal s g y w)) out
        (λ n. kept_cases k (λ x y. Lock k before (ints_equal (move_state k before s) f (value.I4 n) x) (ints_equal s g (value.I4 n) y)) out
        (λ m. truth_lock k after before a f g gl (int_eq n m) s c) (λ m. out) (λ m. out) (λ m. out) (λ p h. out) (λ d cells h q. out) (λ d h. out) (λ d h. out) w hw)
        (λ n. out) (λ n. out) (λ n. out) (λ p h. out) (λ d cells h q. out) (λ d h. out) (λ d h. out) v hv

    pub int_equals_lock : (args : List Value) → IsTrue (keeps_values k.keep args) → Lock k before (int_equals_form after (move_values k.rho args) (move_state k before s) f) (int_equals_form before args s g)
    unfolding int_equals_form
    int_equals_lock (v ∷ w ∷ []) h = ints_equal_lock v w (head_kept v (w ∷ []) h) (head_kept w [] (tail_kept v (w ∷ []) h))
    int_equals_lock _ h = out

    ints_compared_lock : (v w : Value) → IsTrue (keeps_value k.keep v) → IsTrue (keeps_value k.keep w) → Lock k before (ints_compared (move_state k before s) f (move_value k.rho v) (move_value k.rho w)) (ints_compared s g v w)
    unfolding roll-Value denote.Hole.Carrier.roll out-Value denote.Hole.Carrier.out
    ints_compared_lock v w hv hw =
        kept_cases k (λ x y. Lock k before (ints_compared (move_state k before s) f x (move_value k.rho w)) (ints_compared s g y w)) out
        (λ n. kept_cases k (λ x y. Lock k before (ints_compared (move_state k before s) f (value.I4 n) x) (ints_compared s g (value.I4 n) y)) out
        (λ m. int_lock k after before a f g gl (order_of n m) s c) (λ m. out) (λ m. out) (λ m. out) (λ p h. out) (λ d cells h q. out) (λ d h. out) (λ d h. out) w hw)
        (λ n. out) (λ n. out) (λ n. out) (λ p h. out) (λ d cells h q. out) (λ d h. out) (λ d h. out) v hv

    pub int_compare_lock : (args : List Value) → IsTrue (keeps_values k.keep args) → Lock k before (int_compare_form after (move_values k.rho args) (move_state k before s) f) (int_compare_form before args s g)
    unfolding int_compare_form
    int_compare_lock (v ∷ w ∷ []) h = ints_compared_lock v w (head_kept v (w ∷ []) h) (head_kept w [] (tail_kept v (w ∷ []) h))
    int_compare_lock _ h = out

    -- ---- exceptions

    pub exception_text_lock : (args : List Value) → IsTrue (keeps_values k.keep args) → Lock k before (exception_text_form after (move_values k.rho args) (move_state k before s) f) (exception_text_form before args s g)
    unfolding exception_text_form
    exception_text_lock (this ∷ v ∷ []) h =
        given_moved k before (move_state k before) (put_cell before s message v this) _ s (λ t. gives_nothing t f) (λ t. gives_nothing t g) (put_by s c message refl v this) (λ t e.
        nothing_lock k after before a f g gl t (put_covered s t c message v this (head_kept v [] (tail_kept this (v ∷ []) h)) e))
    exception_text_lock _ h = out

    pub exception_inner_lock : (args : List Value) → IsTrue (keeps_values k.keep args) → Lock k before (exception_inner_form after (move_values k.rho args) (move_state k before s) f) (exception_inner_form before args s g)
    unfolding exception_inner_form
    exception_inner_lock (this ∷ v ∷ w ∷ []) h =
        let hw : IsTrue (keeps_values k.keep (v ∷ w ∷ [])) = tail_kept this (v ∷ w ∷ []) h in
        given_moved k before (move_state k before) (put_cell before s message v this) _ s
        (λ t. given (put_cell after t inner (move_value k.rho w) (move_value k.rho this)) t (λ u. gives_nothing u f)) (λ t. given (put_cell before t inner w this) t (λ u. gives_nothing u g)) (put_by s c message refl v this) (λ t e.
        let ct : Covered k.keep before t = put_covered s t c message v this (head_kept v (w ∷ []) hw) e in
        given_moved k before (move_state k before) (put_cell before t inner w this) _ t (λ u. gives_nothing u f) (λ u. gives_nothing u g) (put_by t ct inner refl w this) (λ u i.
        nothing_lock k after before a f g gl u (put_covered t u ct inner w this (head_kept w [] (tail_kept v (w ∷ []) hw)) i)))
    exception_inner_lock _ h = out

    stored_lock : (this : Value) (n : ℕ) (t : State) → Covered k.keep before t → Lock k before (stored_text after (move_value k.rho this) f n (move_state k before t)) (stored_text before this g n t)
    stored_lock this n t ct =
        subst (λ (v : Value). Lock k before (given (put_cell after (move_state k before t) message v (move_value k.rho this)) (move_state k before t) (λ u. gives_nothing u f)) (stored_text before this g n t)) (move_object k.rho n)
        (given_moved k before (move_state k before) (put_cell before t message (value.Object n) this) _ t (λ u. gives_nothing u f) (λ u. gives_nothing u g) (put_by t ct message refl (value.Object n) this) (λ u e.
        nothing_lock k after before a f g gl u (put_covered t u ct message (value.Object n) this (keeps_object k.keep n) e)))

    pub exception_parameter_lock : (n : CoreName) (args : List Value) → IsTrue (keeps_values k.keep args)
        → Lock k before (exception_parameter_form n after (move_values k.rho args) (move_state k before s) f) (exception_parameter_form n before args s g)
    unfolding exception_parameter_form
    exception_parameter_lock n (this ∷ v ∷ []) h =
        given_same k before _ (name_units s v) s _ _ (name_units_moved s v) (λ units e.
        made_text_lock k after before a (parameter_message n units) s (stored_text after (move_value k.rho this) f) (stored_text before this g) c (λ m t ct. stored_lock this m t ct))
    exception_parameter_lock n _ h = out

    told_lock : (o : Obj) → IsTrue (keeps_obj k.keep before o) → (v : Value) → IsTrue (keeps_value k.keep v)
        → Lock k before (told_message after (move_obj k before o) (move_state k before s) f (move_value k.rho v)) (told_message before o s g v)
    unfolding roll-Value denote.Hole.Carrier.roll out-Value denote.Hole.Carrier.out
    told_lock o ho =
        let text : default_message after (type_of after (move_obj k before o)) ≡ default_message before (type_of before o)
        = ap (default_message after) (type_of_moved k after before a o) ∙ default_message_moved k after before a (type_of before o) (type_of_kept k after before a o ho) in
        kept_cases k (λ w v. Lock k before (told_message after (move_obj k before o) (move_state k before s) f w) (told_message before o s g v))
        (subst (λ (t : List ℕ). Lock k before (gives_text t (move_state k before s) f) (gives_text (default_message before (type_of before o)) s g)) (sym text) (text_lock k after before a f g gl (default_message before (type_of before o)) s c))
        (λ n. out) (λ n. out) (λ n. out)
        (λ n. still_lock k after before a f g gl (value.Object n) (value.Object n) s (sym (move_object k.rho n)) c (keeps_object k.keep n))
        (λ p h. out) (λ d cells h q. out) (λ d h. out) (λ d h. out)

    message_in_lock : (v : Value) → IsTrue (keeps_value k.keep v) → Lock k before (message_in after (move_state k before s) f (move_value k.rho v)) (message_in before s g v)
    unfolding roll-Value denote.Hole.Carrier.roll out-Value denote.Hole.Carrier.out
    message_in_lock =
        kept_cases k (λ w v. Lock k before (message_in after (move_state k before s) f w) (message_in before s g v)) out (λ n. out) (λ n. out) (λ n. out)
        (λ n. given_moved k before (move_obj k before) (object_at s n) _ s _ _ (object_moved k after before a s n) (λ o is.
        let ho : IsTrue (keeps_obj k.keep before o) = object_kept k after before a s c n o is in
        given_moved k before (move_value k.rho) (cell_in before message o) _ s _ _ (cell_in_moved k after before a message refl o ho) (λ v e. told_lock o ho v (cell_is k after before a message refl o v ho e))))
        (λ p h. out) (λ d cells h q. out) (λ d h. out) (λ d h. out)

    pub get_message_lock : (args : List Value) → IsTrue (keeps_values k.keep args) → Lock k before (get_message_form after (move_values k.rho args) (move_state k before s) f) (get_message_form before args s g)
    unfolding get_message_form
    get_message_lock (this ∷ []) h = message_in_lock this (head_kept this [] h)
    get_message_lock _ h = out

    pub get_inner_lock : (args : List Value) → IsTrue (keeps_values k.keep args) → Lock k before (get_inner_form after (move_values k.rho args) (move_state k before s) f) (get_inner_form before args s g)
    unfolding get_inner_form
    get_inner_lock (this ∷ []) h =
        given_moved k before (move_value k.rho) (cell_at before s inner this) _ s (λ v. gives_value v (move_state k before s) f) (λ v. gives_value v s g) (cell_at_by s c inner refl this) (λ v e.
        value_lock k after before a f g gl v s c (cell_at_kept s c inner refl this v e))
    get_inner_lock _ h = out

    -- ---- Array

    length_in_lock : (o : Obj) → Lock k before (length_in (move_state k before s) f (move_obj k before o)) (length_in s g o)
    length_in_lock (object.Instance of cells) = out
    length_in_lock (object.Boxed of v) = out
    length_in_lock (object.Array of cells) =
        subst (λ (n : ℕ). Lock k before (gives_int (pos n) (move_state k before s) f) (gives_int (pos (length cells)) s g)) (sym (length-map cells (move_value k.rho))) (int_lock k after before a f g gl (pos (length cells)) s c)
    length_in_lock (object.Str units) = out
    length_in_lock (object.TypeOf e) = out
    length_in_lock (object.Member m e) = out

    length_at_lock : (v : Value) → IsTrue (keeps_value k.keep v) → Lock k before (length_at (move_state k before s) f (move_value k.rho v)) (length_at s g v)
    unfolding roll-Value denote.Hole.Carrier.roll out-Value denote.Hole.Carrier.out
    length_at_lock =
        kept_cases k (λ w v. Lock k before (length_at (move_state k before s) f w) (length_at s g v)) out (λ n. out) (λ n. out) (λ n. out)
        (λ n. given_moved k before (move_obj k before) (object_at s n) _ s _ _ (object_moved k after before a s n) (λ o is. length_in_lock o))
        (λ p h. out) (λ d cells h q. out) (λ d h. out) (λ d h. out)

    pub array_length_lock : (args : List Value) → IsTrue (keeps_values k.keep args) → Lock k before (array_length_form after (move_values k.rho args) (move_state k before s) f) (array_length_form before args s g)
    unfolding array_length_form
    array_length_lock (this ∷ []) h = length_at_lock this (head_kept this [] h)
    array_length_lock _ h = out

    raise_argument : Lock k before (raise after name.ArgumentException (move_state k before s)) (raise before name.ArgumentException s)
    raise_argument = raise_lock k after before a name.ArgumentException argument_asked s c

    fill_with_lock : (n : ℕ) (of : TypeExpr) (cells : List Value) (code : ℕ) (bs : List ℕ) → IsTrue (shows_expr k.keep of)
        → Lock k before (fill_with after (move_state k before s) f n (move_expr k.rho of) (move_values k.rho cells) code bs) (fill_with before s g n of cells code bs)
    fill_with_lock n of cells code bs h =
        let new : Obj = object.Array of (elements_of code (length cells) bs) in
        if_lock k before _ (nat_le (length cells * width_of code) (length bs)) _ _ _ _ (ap (λ (m : ℕ). nat_le (m * width_of code) (length bs)) (length-map cells (move_value k.rho)))
        (λ b. given_moved k before (move_state k before) (with_object s n (Some new)) _ s (λ t. gives_nothing t f) (λ t. gives_nothing t g)
        (with_object_moved k after before a s n (Some new) _
        (ap (λ (m : ℕ). Some (object.Array (move_expr k.rho of) (elements_of code m bs))) (length-map cells (move_value k.rho))
        ∙ ap (λ (vs : List Value). Some (object.Array (move_expr k.rho of) vs)) (elements_moved k.rho code (length cells) bs)))
        (λ t e. nothing_lock k after before a f g gl t
        (with_object_covered k after before a s n (Some new) t c (λ x i. some_is (λ y. IsTrue (keeps_obj k.keep before y)) new x i (and_from (shows_expr k.keep of) _ h (elements_kept k.keep code (length cells) bs))) e)))
        (λ b. raise_argument)

    fill_from_lock : (n : ℕ) (of : TypeExpr) (cells : List Value) (code : ℕ) → IsTrue (shows_expr k.keep of) → (x : First)
        → Lock k before (fill_from after (move_state k before s) f n (move_expr k.rho of) (move_values k.rho cells) code x) (fill_from before s g n of cells code x)
    fill_from_lock n of cells code h blank = raise_argument
    fill_from_lock n of cells code h (bytes (Good bs)) = fill_with_lock n of cells code bs h
    fill_from_lock n of cells code h (bytes (Bad why)) = stopped_lock k before s
    fill_from_lock n of cells code h empty_text = raise_argument

    fill_by_lock : (n : ℕ) (of : TypeExpr) (cells : List Value) (x : ℕ) → IsTrue (shows_expr k.keep of) → IsTrue (k.keep.field x) → (y : Shape)
        → Lock k before (fill_by after (move_state k before s) f n (move_expr k.rho of) (move_values k.rho cells) (k.rho.field x) (move_shape k.rho y)) (fill_by before s g n of cells x y)
    fill_by_lock n of cells x h hx (integer code) = had_moved k before (move_field k.rho) (before.field x) _ s _ _ (a.field x hx) (λ d e. fill_from_lock n of cells code h d.first)
    fill_by_lock n of cells x h hx reference = raise_argument
    fill_by_lock n of cells x h hx pointer = raise_argument
    fill_by_lock n of cells x h hx type_handle = raise_argument
    fill_by_lock n of cells x h hx field_handle = raise_argument
    fill_by_lock n of cells x h hx (structure ls) = raise_argument
    fill_by_lock n of cells x h hx no_value = raise_argument

    fill_object_lock : (n x : ℕ) → IsTrue (k.keep.field x) → (o : Obj) → IsTrue (keeps_obj k.keep before o)
        → Lock k before (fill_object after (move_state k before s) f n (k.rho.field x) (move_obj k before o)) (fill_object before s g n x o)
    fill_object_lock n x hx (object.Instance of cells) h = out
    fill_object_lock n x hx (object.Boxed of v) h = out
    fill_object_lock n x hx (object.Array of cells) h =
        let shown : IsTrue (shows_expr k.keep of) = first_so (shows_expr k.keep of) _ h in
        subst (λ (y : Shape). Lock k before (fill_by after (move_state k before s) f n (move_expr k.rho of) (move_values k.rho cells) (k.rho.field x) y) (fill_by before s g n of cells x (before.shape of)))
        (sym (a.shape of (shown_kept k.keep of shown))) (fill_by_lock n of cells x shown hx (before.shape of))
    fill_object_lock n x hx (object.Str units) h = out
    fill_object_lock n x hx (object.TypeOf e) h = out
    fill_object_lock n x hx (object.Member m e) h = out

    fill_handle_lock : (n : ℕ) (v : Value) → IsTrue (keeps_value k.keep v) → Lock k before (fill_array_by after (move_state k before s) f n (move_value k.rho v)) (fill_array_by before s g n v)
    unfolding roll-Value denote.Hole.Carrier.roll out-Value denote.Hole.Carrier.out
    fill_handle_lock n =
        let bad : Lock k before (raise after name.ArgumentException (move_state k before s)) (raise before name.ArgumentException s) = raise_argument in
        kept_cases k (λ w v. Lock k before (fill_array_by after (move_state k before s) f n w) (fill_array_by before s g n v)) bad (λ m. bad) (λ m. bad) (λ m. bad) (λ m. bad) (λ p h. bad) (λ d cells h q. bad) (λ d h. bad)
        (λ x hx. given_moved k before (move_obj k before) (object_at s n) _ s _ _ (object_moved k after before a s n) (λ o is. fill_object_lock n x.0 hx o (object_kept k after before a s c n o is)))

    fill_at_lock : (handle : Value) → IsTrue (keeps_value k.keep handle) → (v : Value) → IsTrue (keeps_value k.keep v)
        → Lock k before (fill_array_at after (move_state k before s) f (move_value k.rho v) (move_value k.rho handle)) (fill_array_at before s g v handle)
    unfolding roll-Value denote.Hole.Carrier.roll out-Value denote.Hole.Carrier.out
    fill_at_lock handle hh =
        kept_cases k (λ w v. Lock k before (fill_array_at after (move_state k before s) f w (move_value k.rho handle)) (fill_array_at before s g v handle))
        (raise_lock k after before a name.NullReferenceException null_asked s c) (λ m. out) (λ m. out) (λ m. out) (λ m. fill_handle_lock m handle hh) (λ p h. out) (λ d cells h q. out) (λ d h. out) (λ d h. out)

    pub fill_array_lock : (args : List Value) → IsTrue (keeps_values k.keep args) → Lock k before (fill_array_form after (move_values k.rho args) (move_state k before s) f) (fill_array_form before args s g)
    unfolding fill_array_form
    fill_array_lock (v ∷ w ∷ []) h = fill_at_lock w (head_kept w [] (tail_kept v (w ∷ []) h)) v (head_kept v (w ∷ []) h)
    fill_array_lock _ h = out
