-- Vectors.
use Rattle.std.proofs.Common.{◌≡◌, ℕ, zero, suc, ℤ, pos, negsuc, Bool, ◌||◌, not, List, ◌∷◌, length, map, replicate, Option, Some, None, refl, sym, ap, subst, ◌∙◌}
use Rattle.std.specs.Prelude.{IsTrue, slice_get, slice_set, nat_le, ◌==◌}
use Rattle.std.specs.List.{list_all}
use Rattle.std.specs.Option.{option_map, option_and_then}
use Rattle.std.specs.Cmp.{first_so, second_so}
use Rattle.std.proofs.lemmas.Bool.{and_from}
use Rattle.std.proofs.lemmas.Option.{slice_get-map}
use Rattle.std.proofs.lemmas.List.{length-map}
use Rattle.il_base.specs.declared.body.Form.TheVariants as form
use Rattle.il_base.specs.declared.opcode.TheConstants as opcode
use Rattle.il_base.specs.declared.world_model.expr.TypeExpr.{TypeExpr}
use Rattle.il_base.specs.world_model.Exprs as exprs
use Rattle.il_base.specs.declared.core_table.names.CoreName.TheVariants as name
use Rattle.il_base.specs.declared.cil_values.value.Value.{Value, out-Value, roll-Value}
use Rattle.il_base.specs.declared.cil_values.value.Value.TheVariants as value
use Rattle.il_base.specs.declared.cil_values.object.Obj.{Obj}
use Rattle.il_base.specs.declared.cil_values.object.Obj.TheVariants as object
use Rattle.il_base.specs.declared.cil_values.resolved.Instruction.{Instruction}
use Rattle.il_base.specs.declared.cil_values.resolved.Use.{Use}
use Rattle.il_base.specs.declared.cil_values.resolved.Use.TheVariants.{Typ as typ}
use Rattle.il_base.specs.declared.cil_values.state.State.{State}
use Rattle.il_base.specs.declared.cil_values.frame.Prefix.{Prefix}
use Rattle.il_base.specs.declared.cil_values.frame.Prefix.TheVariants as prefixed
use Rattle.rules.specs.step_rules.Queries.{Queries}
use Rattle.rules.specs.step_rules.Next.{Next}
use Rattle.rules.specs.step_rules.Words.{Here, stuck, required, made, goes, object_at}
use Rattle.rules.specs.step_rules.Closing.{plain, closed_element}
use Rattle.rules.specs.step_rules.Stores.{Access, by_code, by_reference, element_access, allows, loaded, stored, zero_of}
use Rattle.rules.specs.step_rules.Objects.{is_a}
use Rattle.rules.specs.step_rules.Places.{with_object}
use Rattle.rules.specs.step_rules.Arrays.{array_limit, count_of, new_array, new_array_of, new_array_form, Vector, vector_in, vector_of, element_type, place_in, in_range, index_in, load_length, load_element, put_element, mismatches, store_checked, store_element, element_path, is_readonly, address_checked, address_element, load_access, store_access, store_or_length, plain_element, typed_element, element_form}
use Rattle.rules.specs.change_rules.Change.{Rho, Keep, Change}
use Rattle.rules.specs.change_rules.Moves.{move_expr, move_value, move_values}
use Rattle.rules.specs.change_rules.Answers.{move_here, move_operand, move_instruction, move_access}
use Rattle.rules.specs.change_rules.States.{move_obj, move_prefix, move_state}
use Rattle.rules.specs.change_rules.Keeps.{keeps_expr, shows_expr, keeps_value, keeps_values, keeps_operand, keeps_of_form}
use Rattle.rules.specs.change_rules.Covered.{keeps_obj, Covered}
use Rattle.rules.specs.change_rules.Agree.{Agree, is_asked}
use Rattle.rules.specs.change_rules.Lock.{Lock}
use Rattle.base_laws.proofs.lemmas.change_laws.Same.{same_exprs_moved}
use Rattle.base_laws.proofs.lemmas.change_laws.Lists.{all_push, all_at, all_set}
use Rattle.base_laws.proofs.lemmas.change_laws.Cells.{set_map}
use Rattle.base_laws.proofs.lemmas.change_laws.Values.{move_native, move_object, move_pointer, keeps_native, keeps_object, keeps_pointer}
use Rattle.run_laws.proofs.lemmas.lock_words.Words.{stuck_lock, given_same, given_moved, had_moved, required_lock, within_lock, if_lock, popped_lock, goes_lock, push_lock, made_lock}
use Rattle.run_laws.proofs.lemmas.lock_words.Cases.{moved_cases, kept_cases, alike}
use Rattle.run_laws.proofs.lemmas.lock_words.Types.{in_names, plain_moved, plain_stays}
use Rattle.run_laws.proofs.lemmas.lock_throwing.Objects.{shown_kept, object_moved, object_kept, is_a_at}
use Rattle.run_laws.proofs.lemmas.lock_throwing.Here.{KeptHere}
use Rattle.run_laws.proofs.lemmas.lock_throwing.Searching.{raise_lock}
use Rattle.run_laws.proofs.lemmas.lock_places.Options.{Through, through_is, some_is, either}
use Rattle.run_laws.proofs.lemmas.lock_places.Closing.{closed_element_lock}
use Rattle.run_laws.proofs.lemmas.lock_places.Stores.{Fixed, fixed_none, fixed_code, fixed_reference, keeps_access, allows_moved, loaded_moved, loaded_kept, stored_moved, stored_kept, element_access_moved, element_access_kept, zero_moved, zero_kept}
use Rattle.run_laws.proofs.lemmas.lock_places.Puts.{with_object_moved, with_object_covered}
use Rattle.run_laws.proofs.lemmas.lock_types.Types.{known_is}

null_asked : IsTrue (is_asked name.NullReferenceException)
unfolding is_asked
null_asked = refl

range_asked : IsTrue (is_asked name.IndexOutOfRangeException)
unfolding is_asked
range_asked = refl

mismatch_asked : IsTrue (is_asked name.ArrayTypeMismatchException)
unfolding is_asked
mismatch_asked = refl

overflow_asked : IsTrue (is_asked name.OverflowException)
unfolding is_asked
overflow_asked = refl

load_fixed : (n : ℕ) → Fixed (load_access n)
unfolding load_access
load_fixed n =
    either Fixed (n == opcode.LDELEM_I1) _ _ (fixed_code _)
    (either Fixed (n == opcode.LDELEM_U1) _ _ (fixed_code _)
    (either Fixed (n == opcode.LDELEM_I2) _ _ (fixed_code _)
    (either Fixed (n == opcode.LDELEM_U2) _ _ (fixed_code _)
    (either Fixed (n == opcode.LDELEM_I4) _ _ (fixed_code _)
    (either Fixed (n == opcode.LDELEM_U4) _ _ (fixed_code _)
    (either Fixed (n == opcode.LDELEM_I8) _ _ (fixed_code _)
    (either Fixed (n == opcode.LDELEM_I) _ _ (fixed_code _)
    (either Fixed (n == opcode.LDELEM_REF) _ _ fixed_reference fixed_none))))))))

store_fixed : (n : ℕ) → Fixed (store_access n)
unfolding store_access
store_fixed n =
    either Fixed (n == opcode.STELEM_I1) _ _ (fixed_code _)
    (either Fixed (n == opcode.STELEM_I2) _ _ (fixed_code _)
    (either Fixed (n == opcode.STELEM_I4) _ _ (fixed_code _)
    (either Fixed (n == opcode.STELEM_I8) _ _ (fixed_code _)
    (either Fixed (n == opcode.STELEM_I) _ _ (fixed_code _)
    (either Fixed (n == opcode.STELEM_REF) _ _ fixed_reference fixed_none)))))

map_replicate : {A B : Type 0} (f : A → B) (n : ℕ) (x : A) → replicate n (f x) ≡ map f (replicate n x)
map_replicate f zero x = refl
map_replicate f (suc n) x = ap (λ ys. f x ∷ ys) (map_replicate f n x)

all_replicate : {A : Type 0} (p : A → Bool) (n : ℕ) (x : A) → IsTrue (p x) → IsTrue (list_all p (replicate n x))
all_replicate p zero x h = refl
all_replicate p (suc n) x h = and_from (p x) (list_all p (replicate n x)) h (all_replicate p n x h)

-- ---- vectors

abbrev move_vector : Rho → Vector → Vector
move_vector r v = record { place = v.place; of = move_expr r v.of; cells = move_values r v.cells }

record KeptVector (k : Keep) (v : Vector) : Type 0 where
  of : IsTrue (shows_expr k v.of)
  cells : IsTrue (keeps_values k v.cells)

readonly_moved : (r : Rho) (p : Prefix) → is_readonly (move_prefix r p) ≡ is_readonly p
readonly_moved r prefixed.None = refl
readonly_moved r (prefixed.Constrained e) = refl
readonly_moved r prefixed.Readonly = refl

module _ (k : Change) where
  count_moved : (v : Value) → count_of (move_value k.rho v) ≡ count_of v
  unfolding count_of roll-Value denote.Hole.Carrier.roll out-Value denote.Hole.Carrier.out
  count_moved v = alike k.rho count_of (λ p. refl) (λ e cells. refl) (λ e. refl) (λ f. refl) v

  place_by : (n : ℕ) (o : Option Value) → (elim (option_map (move_value k.rho) o) as (λ x. Option ℕ) [ None ↦ None | Some v ↦ Some n ]) ≡ (elim o as (λ x. Option ℕ) [ None ↦ None | Some v ↦ Some n ])
  place_by n None = refl
  place_by n (Some v) = refl

  place_in_moved : (cells : List Value) (n : ℤ) → place_in (move_values k.rho cells) n ≡ place_in cells n
  place_in_moved cells (pos n) = ap (λ (o : Option Value). elim o as (λ x. Option ℕ) [ None ↦ None | Some v ↦ Some n ]) (slice_get-map (move_value k.rho) cells n) ∙ place_by n (slice_get cells n)
  place_in_moved cells (negsuc n) = refl

  element_type_moved : (v : Vector) → element_type (move_vector k.rho v) ≡ move_expr k.rho (element_type v)
  element_type_moved v = plain_moved k.rho v.of

  element_type_kept : (v : Vector) → KeptVector k.keep v → IsTrue (keeps_expr k.keep (element_type v))
  element_type_kept v h = (plain_stays k.keep v.of).kept (shown_kept k.keep v.of h.of)

  path_moved : (v : Vector) (n : ℕ) → value.Pointer (element_path (move_vector k.rho v) n) ≡ move_value k.rho (value.Pointer (element_path v n))
  path_moved v n = ap (λ (e : TypeExpr). value.Pointer (record (element_path v n) { of = e })) (element_type_moved v) ∙ sym (move_pointer k.rho (element_path v n))

module _ (k : Change) (after before : Queries) (a : Agree k after before) where
  vectors_by : (n : ℕ) (o : Option Obj) → option_and_then (vector_in n) (option_map (move_obj k before) o) ≡ option_map (move_vector k.rho) (option_and_then (vector_in n) o)
  vectors_by n None = refl
  vectors_by n (Some (object.Instance of cells)) = refl
  vectors_by n (Some (object.Boxed of v)) = refl
  vectors_by n (Some (object.Array of cells)) = refl
  vectors_by n (Some (object.Str units)) = refl
  vectors_by n (Some (object.TypeOf e)) = refl
  vectors_by n (Some (object.Member m e)) = refl

  vector_is : (n : ℕ) (o : Obj) (v : Vector) → IsTrue (keeps_obj k.keep before o) → vector_in n o ≡ Some v → KeptVector k.keep v
  vector_is n (object.Instance of cells) v h e = cc
  vector_is n (object.Boxed of w) v h e = cc
  vector_is n (object.Array of cells) v h e =
      some_is (KeptVector k.keep) (record { place = n; of = of; cells = cells }) v e (record { of = first_so (shows_expr k.keep of) _ h; cells = second_so _ (keeps_values k.keep cells) h })
  vector_is n (object.Str units) v h e = cc
  vector_is n (object.TypeOf d) v h e = cc
  vector_is n (object.Member m d) v h e = cc

  module _ (here : Here) (i : Instruction) (s : State) (c : Covered k.keep before s) where
    vector_lock : (f g : Vector → Next) → ((v : Vector) → KeptVector k.keep v → Lock k before (f (move_vector k.rho v)) (g v)) → (v : Value) → IsTrue (keeps_value k.keep v)
        → Lock k before (vector_of after (move_value k.rho v) (move_state k before s) f) (vector_of before v s g)
    unfolding vector_of roll-Value denote.Hole.Carrier.roll out-Value denote.Hole.Carrier.out
    vector_lock f g l =
        let out : Lock k before (stuck (move_state k before s)) (stuck s) = stuck_lock k before s in
        kept_cases k (λ w v. Lock k before (vector_of after w (move_state k before s) f) (vector_of before v s g))
        (raise_lock k after before a name.NullReferenceException null_asked s c) (λ n. out) (λ n. out) (λ n. out)
        (λ n. given_moved k before (move_vector k.rho) (option_and_then (vector_in n) (object_at s n)) _ s f g
        (ap (option_and_then (vector_in n)) (object_moved k after before a s n) ∙ vectors_by n (object_at s n))
        (λ v is. l v (kept_at n v is)))
        (λ p h. out) (λ d cells h q. out) (λ d h. out) (λ d h. out)
      where
        kept_at : (n : ℕ) (v : Vector) → option_and_then (vector_in n) (object_at s n) ≡ Some v → KeptVector k.keep v
        kept_at n v is =
            let t : Through (vector_in n) (object_at s n) v = through_is _ _ _ is in
            vector_is n t.x v (object_kept k after before a s c n t.x t.there) t.is

    range_lock : (f g : ℕ → Next) → ((n : ℕ) → Lock k before (f n) (g n)) → (o : Option ℕ) → Lock k before (in_range after (move_state k before s) f o) (in_range before s g o)
    range_lock f g l None = raise_lock k after before a name.IndexOutOfRangeException range_asked s c
    range_lock f g l (Some n) = l n

    index_lock : (v : Vector) (index : Value) (f g : ℕ → Next) → ((n : ℕ) → Lock k before (f n) (g n))
        → Lock k before (index_in after (move_vector k.rho v) (move_value k.rho index) (move_state k before s) f) (index_in before v index s g)
    unfolding index_in
    index_lock v index f g l =
        given_same k before _ (count_of index) s _ _ (count_moved k index) (λ n is.
        subst (λ (o : Option ℕ). Lock k before (in_range after (move_state k before s) f o) (in_range before s g (place_in v.cells n))) (sym (place_in_moved k v.cells n)) (range_lock f g l (place_in v.cells n)))

    -- ---- `newarr`

    new_lock : (e : TypeExpr) (filler : Value) (stack : List Value) → IsTrue (shows_expr k.keep e) → IsTrue (keeps_value k.keep filler) → IsTrue (keeps_values k.keep stack) → (n : ℤ)
        → Lock k before (new_array after (move_here k.rho here) (move_instruction k.rho i) (move_state k before s) (move_expr k.rho e) (move_value k.rho filler) (move_values k.rho stack) n) (new_array before here i s e filler stack n)
    new_lock e filler stack he hz hs (pos n) =
        within_lock k before _ (nat_le n array_limit) s _ _ refl (λ b.
        subst (λ (vs : List Value). Lock k before (made (object.Array (move_expr k.rho e) vs) (move_state k before s) (λ m t. goes (move_here k.rho here) (move_instruction k.rho i) (value.Object m ∷ move_values k.rho stack) t))
        (made (object.Array e (replicate n filler)) s (λ m t. goes here i (value.Object m ∷ stack) t)))
        (sym (map_replicate (move_value k.rho) n filler))
        (made_lock k before (object.Array e (replicate n filler)) s (λ m t. goes (move_here k.rho here) (move_instruction k.rho i) (value.Object m ∷ move_values k.rho stack) t) (λ m t. goes here i (value.Object m ∷ stack) t) c
        (and_from (shows_expr k.keep e) _ he (all_replicate (keeps_value k.keep) n filler hz))
        (λ m t ct. push_lock k before here i (value.Object m) (value.Object m) stack t (sym (move_object k.rho m)) ct (keeps_object k.keep m) hs)))
    new_lock e filler stack he hz hs (negsuc n) = raise_lock k after before a name.OverflowException overflow_asked s c

    new_of_lock : (e : TypeExpr) → IsTrue (keeps_expr k.keep e) → IsTrue (shows_expr k.keep e)
        → Lock k before (new_array_of after (move_here k.rho here) (move_instruction k.rho i) (move_state k before s) (move_expr k.rho e)) (new_array_of before here i s e)
    new_of_lock e he shown =
        had_moved k before (move_value k.rho) (zero_of before e) _ s _ _ (zero_moved k after before a e he) (λ filler is.
        popped_lock k before s.top.stack s _ _ c.top.stack (λ v stack hv hs.
        given_same k before _ (count_of v) s _ _ (count_moved k v) (λ n ns. new_lock e filler stack shown (zero_kept k after before a e filler he is) hs n)))

    -- ---- lengths, elements

    length_lock : Lock k before (load_length after (move_here k.rho here) (move_instruction k.rho i) (move_state k before s)) (load_length before here i s)
    length_lock =
        popped_lock k before s.top.stack s _ _ c.top.stack (λ r stack hr hs.
        vector_lock (λ v. goes (move_here k.rho here) (move_instruction k.rho i) (value.Native (pos (length v.cells)) ∷ move_values k.rho stack) (move_state k before s)) (λ v. goes here i (value.Native (pos (length v.cells)) ∷ stack) s) (λ v hv.
        push_lock k before here i (value.Native (pos (length (move_values k.rho v.cells)))) (value.Native (pos (length v.cells))) stack s
        (ap (λ (n : ℕ). value.Native (pos n)) (length-map v.cells (move_value k.rho)) ∙ sym (move_native k.rho (pos (length v.cells)))) c (keeps_native k.keep (pos (length v.cells))) hs) r hr)

    allows_lock : (x : Access) (v : Vector) → KeptVector k.keep v → (y z : Next) → Lock k before y z
        → Lock k before (required (allows after (move_access k.rho x) (element_type (move_vector k.rho v))) (move_state k before s) y) (required (allows before x (element_type v)) s z)
    allows_lock x v hv y z l =
        required_lock k before _ (allows before x (element_type v)) s y z
        (ap (allows after (move_access k.rho x)) (element_type_moved k v) ∙ allows_moved k after before a x (element_type v) (element_type_kept k v hv)) (λ b. l)

    loaded_by : (x : Access) (o : Option Value) → option_and_then (loaded (move_access k.rho x)) (option_map (move_value k.rho) o) ≡ option_map (move_value k.rho) (option_and_then (loaded x) o)
    loaded_by x None = refl
    loaded_by x (Some v) = loaded_moved k x v

    load_lock : (x : Access) → Lock k before (load_element after (move_here k.rho here) (move_instruction k.rho i) (move_state k before s) (move_access k.rho x)) (load_element before here i s x)
    load_lock x =
        popped_lock k before s.top.stack s _ _ c.top.stack (λ index below hi hb. popped_lock k before below s _ _ hb (λ r stack hr hs.
        vector_lock _ _ (λ v hv. allows_lock x v hv _ _ (index_lock v index _ _ (λ n.
        given_moved k before (move_value k.rho) (option_and_then (loaded x) (slice_get v.cells n)) _ s _ _
        (ap (option_and_then (loaded (move_access k.rho x))) (slice_get-map (move_value k.rho) v.cells n) ∙ loaded_by x (slice_get v.cells n)) (λ w is.
        goes_lock k before here i (w ∷ stack) s c (all_push (keeps_value k.keep) w stack (kept_at x v n w hv is) hs))))) r hr))
      where
        kept_at : (x : Access) (v : Vector) (n : ℕ) (w : Value) → KeptVector k.keep v → option_and_then (loaded x) (slice_get v.cells n) ≡ Some w → IsTrue (keeps_value k.keep w)
        kept_at x v n w hv is =
            let t : Through (loaded x) (slice_get v.cells n) w = through_is _ _ _ is in
            loaded_kept k x t.x w (all_at (keeps_value k.keep) v.cells n t.x hv.cells t.there) t.is

    put_lock : (stack : List Value) (v : Vector) (n : ℕ) (w : Value) → IsTrue (keeps_values k.keep stack) → KeptVector k.keep v → IsTrue (keeps_value k.keep w)
        → Lock k before (put_element (move_here k.rho here) (move_instruction k.rho i) (move_state k before s) (move_values k.rho stack) (move_vector k.rho v) n (move_value k.rho w)) (put_element here i s stack v n w)
    put_lock stack v n w hs hv hw =
        let o : Obj = object.Array v.of (slice_set v.cells n w) in
        given_moved k before (move_state k before) (with_object s v.place (Some o)) _ s (λ t. goes (move_here k.rho here) (move_instruction k.rho i) (move_values k.rho stack) t) (λ t. goes here i stack t)
        (with_object_moved k after before a s v.place (Some o) (Some (object.Array (move_expr k.rho v.of) (slice_set (move_values k.rho v.cells) n (move_value k.rho w)))) (ap (λ (vs : List Value). Some (object.Array (move_expr k.rho v.of) vs)) (set_map (move_value k.rho) v.cells n w)))
        (λ t is. goes_lock k before here i stack t
        (with_object_covered k after before a s v.place (Some o) t c
        (λ x e. some_is (λ y. IsTrue (keeps_obj k.keep before y)) o x e (and_from (shows_expr k.keep v.of) _ hv.of (all_set (keeps_value k.keep) v.cells n w hv.cells hw))) is) hs)

    mismatches_moved : (v : Vector) → KeptVector k.keep v → (w : Value) → mismatches after (move_state k before s) (move_vector k.rho v) (move_value k.rho w) ≡ mismatches before s v w
    unfolding roll-Value denote.Hole.Carrier.roll out-Value denote.Hole.Carrier.out
    mismatches_moved v hv =
        moved_cases k.rho (λ x w. mismatches after (move_state k before s) (move_vector k.rho v) x ≡ mismatches before s v w)
        refl (λ n. refl) (λ n. refl) (λ n. refl)
        (λ n. ap not (ap (λ (e : TypeExpr). is_a after e (object_at (move_state k before s) n)) (element_type_moved k v) ∙ is_a_at k after before a s c (element_type v) (element_type_kept k v hv) n))
        (λ p. refl) (λ e cells. refl) (λ e. refl) (λ f. refl)

    checked_lock : (stack : List Value) (v : Vector) (n : ℕ) (w : Value) → IsTrue (keeps_values k.keep stack) → KeptVector k.keep v → IsTrue (keeps_value k.keep w)
        → Lock k before (store_checked after (move_here k.rho here) (move_instruction k.rho i) (move_state k before s) (move_values k.rho stack) (move_vector k.rho v) n (move_value k.rho w)) (store_checked before here i s stack v n w)
    checked_lock stack v n w hs hv hw =
        if_lock k before _ (mismatches before s v w) _ _ _ _ (mismatches_moved v hv w)
        (λ e. raise_lock k after before a name.ArrayTypeMismatchException mismatch_asked s c) (λ e. put_lock stack v n w hs hv hw)

    store_lock : (x : Access) → IsTrue (keeps_access k.keep x) → Lock k before (store_element after (move_here k.rho here) (move_instruction k.rho i) (move_state k before s) (move_access k.rho x)) (store_element before here i s x)
    store_lock x hx =
        popped_lock k before s.top.stack s _ _ c.top.stack (λ y rest hy hr. popped_lock k before rest s _ _ hr (λ index below hi hb. popped_lock k before below s _ _ hb (λ r stack hr hs.
        vector_lock _ _ (λ v hv. allows_lock x v hv _ _ (index_lock v index _ _ (λ n.
        given_moved k before (move_value k.rho) (stored before x (element_type v) y) _ s _ _
        (ap (λ (e : TypeExpr). stored after (move_access k.rho x) e (move_value k.rho y)) (element_type_moved k v) ∙ stored_moved k after before a x (element_type v) y hx (element_type_kept k v hv)) (λ w is.
        checked_lock stack v n w hs hv (stored_kept k after before a x (element_type v) y w hy is))))) r hr)))

    same_or_readonly : (v : Vector) (e : TypeExpr)
        → (exprs.same_expr (element_type (move_vector k.rho v)) (move_expr k.rho e) || is_readonly (move_prefix k.rho s.top.prefix)) ≡ (exprs.same_expr (element_type v) e || is_readonly s.top.prefix)
    same_or_readonly v e =
        λ j. (ap (λ (d : TypeExpr). exprs.same_expr d (move_expr k.rho e)) (element_type_moved k v) ∙ same_exprs_moved k.back k.rho k.undone (element_type v) e) j || readonly_moved k.rho s.top.prefix j

    address_lock : (e : TypeExpr) → Lock k before (address_element after (move_here k.rho here) (move_instruction k.rho i) (move_state k before s) (move_expr k.rho e)) (address_element before here i s e)
    address_lock e =
        popped_lock k before s.top.stack s _ _ c.top.stack (λ index below hi hb. popped_lock k before below s _ _ hb (λ r stack hr hs.
        vector_lock _ _ (λ v hv. index_lock v index (address_checked after (move_here k.rho here) (move_instruction k.rho i) (move_state k before s) (move_expr k.rho e) (move_values k.rho stack) (move_vector k.rho v)) (address_checked before here i s e stack v) (λ n.
        if_lock k before _ (exprs.same_expr (element_type v) e || is_readonly s.top.prefix) _ _ _ _ (same_or_readonly v e)
        (λ b. push_lock k before here i (value.Pointer (element_path (move_vector k.rho v) n)) (value.Pointer (element_path v n)) stack s (path_moved k v n) c (keeps_pointer k.keep (element_path v n) ∙ element_type_kept k v hv) hs)
        (λ b. raise_lock k after before a name.ArrayTypeMismatchException mismatch_asked s c))) r hr))

    -- ---- by opcode

    store_plain : {o : Option Access} → Fixed o → Lock k before (store_or_length after (move_here k.rho here) (move_instruction k.rho i) (move_state k before s) o) (store_or_length before here i s o)
    store_plain fixed_none = if_lock k before _ (i.opcode == opcode.LDLEN) _ _ _ _ refl (λ e. length_lock) (λ e. stuck_lock k before s)
    store_plain (fixed_code n) = store_lock (by_code n) refl
    store_plain fixed_reference = store_lock by_reference refl

    load_plain : {o : Option Access} → Fixed o → Lock k before (plain_element after (move_here k.rho here) (move_instruction k.rho i) (move_state k before s) o) (plain_element before here i s o)
    load_plain fixed_none = store_plain (store_fixed i.opcode)
    load_plain (fixed_code n) = load_lock (by_code n)
    load_plain fixed_reference = load_lock by_reference

    by_access : (e : TypeExpr) → IsTrue (keeps_expr k.keep e) → (f g : Access → Next) → ((x : Access) → IsTrue (keeps_access k.keep x) → Lock k before (f (move_access k.rho x)) (g x))
        → Lock k before (f (element_access after (move_expr k.rho e))) (g (element_access before e))
    by_access e h f g l =
        subst (λ (x : Access). Lock k before (f x) (g (element_access before e))) (sym (element_access_moved k after before a e h)) (l (element_access before e) (element_access_kept k after before a e h))

    typed_lock : (e : TypeExpr) → IsTrue (keeps_expr k.keep e)
        → Lock k before (typed_element after (move_here k.rho here) (move_instruction k.rho i) (move_state k before s) (move_expr k.rho e)) (typed_element before here i s e)
    typed_lock e h =
        if_lock k before _ (i.opcode == opcode.LDELEM) _ _ _ _ refl
        (λ b. by_access e h (load_element after (move_here k.rho here) (move_instruction k.rho i) (move_state k before s)) (load_element before here i s) (λ x hx. load_lock x)) (λ b.
        if_lock k before _ (i.opcode == opcode.STELEM) _ _ _ _ refl
        (λ d. by_access e h (store_element after (move_here k.rho here) (move_instruction k.rho i) (move_state k before s)) (store_element before here i s) store_lock) (λ d.
        if_lock k before _ (i.opcode == opcode.LDELEMA) _ _ _ _ refl (λ f. address_lock e) (λ f. stuck_lock k before s)))

    module _ (r : KeptHere k.keep before here) where
      shown_in : (e d : TypeExpr) → plain (exprs.subst here.targs here.margs e) ≡ d → IsTrue (shows_expr k.keep e) → IsTrue (shows_expr k.keep d)
      shown_in e d is h = subst (λ (x : TypeExpr). IsTrue (shows_expr k.keep x)) is ((in_names k after before a here.targs here.margs r.targs r.margs e).shown h)

      new_by : (u : Use) → IsTrue (keeps_operand k.keep before u) → IsTrue (keeps_of_form k.keep i.opcode form.NewArr u)
          → Lock k before (elim (move_operand k.rho u) [ typ e ↦ closed_element after (move_here k.rho here) e (move_state k before s) (new_array_of after (move_here k.rho here) (move_instruction k.rho i) (move_state k before s)) | _ ↦ stuck (move_state k before s) ])
          (elim u [ typ e ↦ closed_element before here e s (new_array_of before here i s) | _ ↦ stuck s ])
      new_by (typ o) h g =
          closed_element_lock k after before a here r s o _ _ h (λ e d at is hd. new_of_lock d hd (shown_in e d is (known_is (shows_expr k.keep) o e at g)))
      new_by _ h g = stuck_lock k before s

      pub new_array_form_lock : IsTrue (keeps_operand k.keep before i.operand) → IsTrue (keeps_of_form k.keep i.opcode form.NewArr i.operand)
          → Lock k before (new_array_form after (move_here k.rho here) (move_instruction k.rho i) (move_state k before s)) (new_array_form before here i s)
      unfolding new_array_form
      new_array_form_lock h g = new_by i.operand h g

      element_by : (u : Use) → IsTrue (keeps_operand k.keep before u)
          → Lock k before (elim (move_operand k.rho u) [ typ e ↦ closed_element after (move_here k.rho here) e (move_state k before s) (typed_element after (move_here k.rho here) (move_instruction k.rho i) (move_state k before s)) | _ ↦ plain_element after (move_here k.rho here) (move_instruction k.rho i) (move_state k before s) (load_access i.opcode) ])
          (elim u [ typ e ↦ closed_element before here e s (typed_element before here i s) | _ ↦ plain_element before here i s (load_access i.opcode) ])
      element_by (typ o) h = closed_element_lock k after before a here r s o _ _ h (λ e d at is hd. typed_lock d hd)
      element_by _ h = load_plain (load_fixed i.opcode)

      pub element_form_lock : IsTrue (keeps_operand k.keep before i.operand) → Lock k before (element_form after (move_here k.rho here) (move_instruction k.rho i) (move_state k before s)) (element_form before here i s)
      unfolding element_form
      element_form_lock h = element_by i.operand h
