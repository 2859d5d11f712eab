-- Element instructions by what their array, index and value are found to be.
use Rattle.std.proofs.Common.{◌≡◌, ◌∙◌, refl, sym, ap, ℕ, ℤ, pos, List, [], ◌∷◌, length, drop, Bool, true, false}
use Rattle.std.specs.Prelude.{◌||◌, Option, Some, None, Result, Ok, Err, IfOk, slice_get, if◌then◌else◌}
use Rattle.std.specs.Option.{option_and_then}
use Rattle.il_base.specs.declared.memory.NoMemory.{NoMemory}
use Rattle.il_base.specs.declared.world_model.expr.TypeExpr.{TypeExpr}
use Rattle.il_base.specs.world_model.Exprs.{same_expr}
use Rattle.il_base.specs.declared.core_table.names.CoreName.TheVariants.{ArrayTypeMismatchException}
use Rattle.il_base.specs.declared.cil_values.value.Value.{Value}
use Rattle.il_base.specs.declared.cil_values.value.Value.TheVariants as value
use Rattle.il_base.specs.declared.cil_values.resolved.Instruction.{Instruction}
use Rattle.il_base.specs.declared.cil_values.state.State.{State}
use Rattle.rules.specs.step_rules.Queries.{Queries}
use Rattle.rules.specs.step_rules.Next.{Next}
use Rattle.rules.specs.step_rules.Words.{Here, given, required, popped, stuck, goes, object_at}
use Rattle.rules.specs.step_rules.Stores.{Access, allows, loaded, stored}
use Rattle.rules.specs.step_rules.Raising.{raise}
use Rattle.rules.specs.step_rules.Arrays.{Vector, vector_in, vector_of, element_type, index_in, in_range, count_of, place_in, mismatches, put_element, store_checked, element_path, is_readonly, address_checked, load_length, load_element, address_element, store_element}
use Rattle.machine_numbers.specs.declared.cil_operands.refusal.Refusal.{Refusal}
use Rattle.machine_numbers.specs.declared.cil_operands.refusal.Refusal.TheVariants as refusal
use Rattle.machine_numbers.specs.cil_operands.Outcomes.{outcome_of, refused}
use Rattle.machine_objects.specs.declared.cil_arrays.stores.Stored.{Stored}
use Rattle.machine_objects.specs.cil_arrays.Elements.{or_stuck, and_next, if_allowed, in_bounds, index_found, loaded_at, load_found, address_at, address_found, checked_at, stored_at, store_found, put_at, stored_by}

-- ---- how a step ends that finds something, or is refused

abbrev found_or : {A : Type 0} → Queries → State → (A → Next) → Result A Refusal → Next
found_or q s f (Ok x) = f x
found_or q s f (Err why) = refused q s why

in_bounds_is : (q : Queries) (s : State) (f : ℕ → Next) (n : Option ℕ) → in_range q s f n ≡ found_or q s f (in_bounds n)
unfolding refused
in_bounds_is q s f None = refl
in_bounds_is q s f (Some n) = refl

counted : (q : Queries) (s : State) (f : ℕ → Next) (cells : List Value) (n : Option ℤ)
    → given n s (λ n. in_range q s f (place_in cells n)) ≡ found_or q s f (and_next (λ n. in_bounds (place_in cells n)) (or_stuck n))
unfolding refused
counted q s f cells None = refl
counted q s f cells (Some n) = in_bounds_is q s f (place_in cells n)

index_is : (q : Queries) (v : Vector) (index : Value) (s : State) (f : ℕ → Next) → index_in q v index s f ≡ found_or q s f (index_found v index)
unfolding index_in index_found
index_is q v index s f = counted q s f v.cells (count_of index)

-- ---- what is popped, and the array found

abbrev load_step : Queries → Here → Instruction → State → Access → Value → List Value → Vector → Next
load_step q here i s a index stack v =
    required (allows q a (element_type v)) s (index_in q v index s (λ n. given (option_and_then (loaded a) (slice_get v.cells n)) s (λ w. goes here i (w ∷ stack) s)))

abbrev address_step : Queries → Here → Instruction → State → TypeExpr → Value → List Value → Vector → Next
address_step q here i s e index stack v = index_in q v index s (address_checked q here i s e stack v)

abbrev store_step : Queries → Here → Instruction → State → Access → Value → Value → List Value → Vector → Next
store_step q here i s a x index stack v =
    required (allows q a (element_type v)) s (index_in q v index s (λ n. given (stored q a (element_type v) x) s (store_checked q here i s stack v n)))

abbrev two : Queries → State → (Value → List Value → Vector → Next) → Value → List Value → Next
two q s step index below = popped below s (λ r stack. vector_of q r s (step index stack))

abbrev three : Queries → State → (Value → Value → List Value → Vector → Next) → Value → List Value → Next
three q s step x rest = popped rest s (two q s (step x))

none_popped : (stack : List Value) (s : State) (f : Value → List Value → Next) (next : Next) → next ≡ stuck s → stack ≡ [] → next ≡ popped stack s f
none_popped stack s f next is none = is ∙ sym (ap (λ (l : List Value). popped l s f) none)

one_popped : (stack : List Value) (s : State) (v : Value) (below : List Value) (f : Value → List Value → Next) (next : Next) → stack ≡ v ∷ below
    → next ≡ f v below → next ≡ popped stack s f
one_popped stack s v below f next top is = is ∙ sym (ap (λ (l : List Value). popped l s f) top)

out_stuck : (q : Queries) (here : Here) (i : Instruction) (s : State) (rest : List Value) → outcome_of q here i s rest (Err refusal.Stuck) ≡ stuck s
unfolding outcome_of refused
out_stuck q here i s rest = refl

store_stuck : (q : Queries) (here : Here) (i : Instruction) (s : State) (rest : List Value) → stored_by q here i s rest (Err refusal.Stuck) ≡ stuck s
unfolding stored_by refused
store_stuck q here i s rest = refl

out_refused : (q : Queries) (here : Here) (i : Instruction) (s : State) (rest : List Value) (why : Refusal) → outcome_of q here i s rest (Err why) ≡ refused q s why
unfolding outcome_of
out_refused q here i s rest why = refl

store_refused_is : (q : Queries) (here : Here) (i : Instruction) (s : State) (rest : List Value) (why : Refusal) → stored_by q here i s rest (Err why) ≡ refused q s why
unfolding stored_by
store_refused_is q here i s rest why = refl

-- ---- loads

module _ (q : Queries) (here : Here) (i : Instruction) (s : State) (stack : List Value) where
  given_is : (o : Option Value) → outcome_of q here i s stack (or_stuck o) ≡ given o s (λ w. goes here i (w ∷ stack) s)
  unfolding outcome_of refused
  given_is None = refl
  given_is (Some w) = refl

  loaded_is : (a : Access) (v : Vector) (r : Result ℕ Refusal)
      → outcome_of q here i s stack (and_next (loaded_at a v) r) ≡ found_or q s (λ n. given (option_and_then (loaded a) (slice_get v.cells n)) s (λ w. goes here i (w ∷ stack) s)) r
  unfolding outcome_of
  loaded_is a v (Ok n) = given_is (option_and_then (loaded a) (slice_get v.cells n))
  loaded_is a v (Err why) = refl

  load_allowed : (a : Access) (v : Vector) (index : Value) (b : Bool) → outcome_of q here i s stack (if_allowed b (and_next (loaded_at a v) (index_found v index)))
      ≡ required b s (index_in q v index s (λ n. given (option_and_then (loaded a) (slice_get v.cells n)) s (λ w. goes here i (w ∷ stack) s)))
  unfolding outcome_of refused
  load_allowed a v index true =
      loaded_is a v (index_found v index) ∙ sym (index_is q v index s (λ n. given (option_and_then (loaded a) (slice_get v.cells n)) s (λ w. goes here i (w ∷ stack) s)))
  load_allowed a v index false = refl

  load_is : (a : Access) (v : Vector) (index : Value) → outcome_of q here i s stack (load_found q a index v)
      ≡ required (allows q a (element_type v)) s (index_in q v index s (λ n. given (option_and_then (loaded a) (slice_get v.cells n)) s (λ w. goes here i (w ∷ stack) s)))
  unfolding load_found
  load_is a v index = load_allowed a v index (allows q a (element_type v))

  -- ---- addresses

  checked_is : (e : TypeExpr) (v : Vector) (n : ℕ) (b : Bool)
      → outcome_of q here i s stack (if b then Ok (value.Pointer (element_path v n)) else Err (refusal.Raises ArrayTypeMismatchException))
      ≡ (if b then goes here i (value.Pointer (element_path v n) ∷ stack) s else raise q ArrayTypeMismatchException s)
  unfolding outcome_of refused
  checked_is e v n true = refl
  checked_is e v n false = refl

  addressed_is : (e : TypeExpr) (v : Vector) (r : Result ℕ Refusal)
      → outcome_of q here i s stack (and_next (address_at s e v) r) ≡ found_or q s (address_checked q here i s e stack v) r
  unfolding outcome_of
  addressed_is e v (Ok n) = checked_is e v n (same_expr (element_type v) e || is_readonly s.top.prefix)
  addressed_is e v (Err why) = refl

  address_is : (e : TypeExpr) (v : Vector) (index : Value) → outcome_of q here i s stack (address_found s e index v) ≡ index_in q v index s (address_checked q here i s e stack v)
  unfolding address_found
  address_is e v index = addressed_is e v (index_found v index) ∙ sym (index_is q v index s (address_checked q here i s e stack v))

  -- ---- stores

  module _ (v : Vector) (there : option_and_then (vector_in v.place) (object_at s v.place) ≡ Some v) where
    put_is : (n : ℕ) (w : Value) → put_at here i s stack v.place n w ≡ put_element here i s stack v n w
    put_is n w = ap (λ (o : Option Vector). given o s (λ v. put_element here i s stack v n w)) there

    mismatched : (n : ℕ) (w : Value) (b : Bool)
        → stored_by q here i s stack (if b then Err (refusal.Raises ArrayTypeMismatchException) else Ok (record { array = v.place; at = n; value = w }))
        ≡ (if b then raise q ArrayTypeMismatchException s else put_element here i s stack v n w)
    unfolding stored_by refused
    mismatched n w true = refl
    mismatched n w false = put_is n w

    kept_is : (n : ℕ) (o : Option Value) → stored_by q here i s stack (and_next (checked_at q s v n) (or_stuck o)) ≡ given o s (store_checked q here i s stack v n)
    unfolding stored_by refused
    kept_is n None = refl
    kept_is n (Some w) = mismatched n w (mismatches q s v w)

    placed_is : (a : Access) (x : Value) (r : Result ℕ Refusal) → stored_by q here i s stack (and_next (stored_at q s a x v) r)
        ≡ found_or q s (λ n. given (stored q a (element_type v) x) s (store_checked q here i s stack v n)) r
    unfolding stored_by
    placed_is a x (Ok n) = kept_is n (stored q a (element_type v) x)
    placed_is a x (Err why) = refl

    store_allowed : (a : Access) (index x : Value) (b : Bool) → stored_by q here i s stack (if_allowed b (and_next (stored_at q s a x v) (index_found v index)))
        ≡ required b s (index_in q v index s (λ n. given (stored q a (element_type v) x) s (store_checked q here i s stack v n)))
    unfolding stored_by refused
    store_allowed a index x true =
        placed_is a x (index_found v index) ∙ sym (index_is q v index s (λ n. given (stored q a (element_type v) x) s (store_checked q here i s stack v n)))
    store_allowed a index x false = refl

    store_is : (a : Access) (index x : Value) → stored_by q here i s stack (store_found q s a index x v)
        ≡ required (allows q a (element_type v)) s (index_in q v index s (λ n. given (stored q a (element_type v) x) s (store_checked q here i s stack v n)))
    unfolding store_found
    store_is a index x = store_allowed a index x (allows q a (element_type v))

-- ---- too few operands

module _ (q : Queries) (here : Here) (i : Instruction) (s : State) (rest : List Value) where
  abbrev length_form : Value → List Value → Next
  length_form r stack = vector_of q r s (λ v. goes here i (value.Native (pos (length v.cells)) ∷ stack) s)

  pub length_none : s.top.stack ≡ [] → outcome_of q here i s rest (Err refusal.Stuck) ≡ load_length q here i s
  length_none none = none_popped s.top.stack s length_form (outcome_of q here i s rest (Err refusal.Stuck)) (out_stuck q here i s rest) none

  pub load_none : (a : Access) → s.top.stack ≡ [] → outcome_of q here i s rest (Err refusal.Stuck) ≡ load_element q here i s a
  load_none a none = none_popped s.top.stack s (two q s (load_step q here i s a)) (outcome_of q here i s rest (Err refusal.Stuck)) (out_stuck q here i s rest) none

  pub address_none : (e : TypeExpr) → s.top.stack ≡ [] → outcome_of q here i s rest (Err refusal.Stuck) ≡ address_element q here i s e
  address_none e none = none_popped s.top.stack s (two q s (address_step q here i s e)) (outcome_of q here i s rest (Err refusal.Stuck)) (out_stuck q here i s rest) none

  pub store_none : (a : Access) → s.top.stack ≡ [] → stored_by q here i s rest (Err refusal.Stuck) ≡ store_element q here i s a
  store_none a none = none_popped s.top.stack s (three q s (store_step q here i s a)) (stored_by q here i s rest (Err refusal.Stuck)) (store_stuck q here i s rest) none

  module _ (index : Value) (below : List Value) (top : s.top.stack ≡ index ∷ below) where
    pub load_one : (a : Access) → below ≡ [] → outcome_of q here i s rest (Err refusal.Stuck) ≡ load_element q here i s a
    load_one a none = one_popped s.top.stack s index below (two q s (load_step q here i s a)) (outcome_of q here i s rest (Err refusal.Stuck)) top
        (none_popped below s (λ r stack. vector_of q r s (load_step q here i s a index stack)) (outcome_of q here i s rest (Err refusal.Stuck)) (out_stuck q here i s rest) none)

    pub address_one : (e : TypeExpr) → below ≡ [] → outcome_of q here i s rest (Err refusal.Stuck) ≡ address_element q here i s e
    address_one e none = one_popped s.top.stack s index below (two q s (address_step q here i s e)) (outcome_of q here i s rest (Err refusal.Stuck)) top
        (none_popped below s (λ r stack. vector_of q r s (address_step q here i s e index stack)) (outcome_of q here i s rest (Err refusal.Stuck)) (out_stuck q here i s rest) none)

    pub store_one : (a : Access) → below ≡ [] → stored_by q here i s rest (Err refusal.Stuck) ≡ store_element q here i s a
    store_one a none = one_popped s.top.stack s index below (three q s (store_step q here i s a)) (stored_by q here i s rest (Err refusal.Stuck)) top
        (none_popped below s (two q s (store_step q here i s a index)) (stored_by q here i s rest (Err refusal.Stuck)) (store_stuck q here i s rest) none)

    pub store_two : (a : Access) (next : Value) (left : List Value) → below ≡ next ∷ left → left ≡ [] → stored_by q here i s rest (Err refusal.Stuck) ≡ store_element q here i s a
    store_two a next left second none = one_popped s.top.stack s index below (three q s (store_step q here i s a)) (stored_by q here i s rest (Err refusal.Stuck)) top
        (one_popped below s next left (two q s (store_step q here i s a index)) (stored_by q here i s rest (Err refusal.Stuck)) second
        (none_popped left s (λ r stack. vector_of q r s (store_step q here i s a index next stack)) (stored_by q here i s rest (Err refusal.Stuck)) (store_stuck q here i s rest) none))

-- ---- an array that is found

module _ (s : State) (r : Value) (v : Vector) (found : (q : Queries) (f : Vector → Next) → vector_of q r s f ≡ f v) where
  pub length_tells : (stack : List Value) → s.top.stack ≡ r ∷ stack → (out : Result (Result Value Refusal) NoMemory) → IfOk out (λ o. o ≡ Ok (value.Native (pos (length v.cells))))
      → IfOk out (λ o. (q : Queries) (here : Here) (i : Instruction) → outcome_of q here i s (drop 1 s.top.stack) o ≡ load_length q here i s)
  unfolding outcome_of
  length_tells stack top (Err e) is = is
  length_tells stack top (Ok o) is = λ q here i.
      ap (λ (x : Result Value Refusal). outcome_of q here i s (drop 1 s.top.stack) x) is
      ∙ ap (λ (l : List Value). goes here i (value.Native (pos (length v.cells)) ∷ drop 1 l) s) top
      ∙ one_popped s.top.stack s r stack (λ r stack. vector_of q r s (λ v. goes here i (value.Native (pos (length v.cells)) ∷ stack) s))
      (goes here i (value.Native (pos (length v.cells)) ∷ stack) s) top (sym (found q (λ v. goes here i (value.Native (pos (length v.cells)) ∷ stack) s)))

  module _ (index : Value) (below stack : List Value) (top : s.top.stack ≡ index ∷ below) (next : below ≡ r ∷ stack) where
    both_left : drop 2 s.top.stack ≡ stack
    both_left = ap (λ (l : List Value). drop 2 l) top ∙ ap (λ (l : List Value). drop 1 l) next

    both : (q : Queries) (step : Value → List Value → Vector → Next) (x : Next) → x ≡ step index stack v → x ≡ popped s.top.stack s (two q s step)
    both q step x is = one_popped s.top.stack s index below (two q s step) x top
        (one_popped below s r stack (λ r stack. vector_of q r s (step index stack)) x next (is ∙ sym (found q (step index stack))))

    pub load_tells : (q : Queries) (a : Access) (out : Result (Result Value Refusal) NoMemory) → IfOk out (λ out. out ≡ load_found q a index v)
        → IfOk out (λ out. (here : Here) (i : Instruction) → outcome_of q here i s (drop 2 s.top.stack) out ≡ load_element q here i s a)
    load_tells q a (Err x) is = is
    load_tells q a (Ok out) is = λ here i.
        ap (λ (l : List Value). outcome_of q here i s l out) both_left ∙ ap (λ (o : Result Value Refusal). outcome_of q here i s stack o) is
        ∙ both q (load_step q here i s a) (outcome_of q here i s stack (load_found q a index v)) (load_is q here i s stack a v index)

    pub address_tells : (e : TypeExpr) (out : Result (Result Value Refusal) NoMemory) → IfOk out (λ out. out ≡ address_found s e index v)
        → IfOk out (λ out. (q : Queries) (here : Here) (i : Instruction) → outcome_of q here i s (drop 2 s.top.stack) out ≡ address_element q here i s e)
    address_tells e (Err x) is = is
    address_tells e (Ok out) is = λ q here i.
        ap (λ (l : List Value). outcome_of q here i s l out) both_left ∙ ap (λ (o : Result Value Refusal). outcome_of q here i s stack o) is
        ∙ both q (address_step q here i s e) (outcome_of q here i s stack (address_found s e index v)) (address_is q here i s stack e v index)

  module _ (x index : Value) (rest below stack : List Value) (first : s.top.stack ≡ x ∷ rest) (top : rest ≡ index ∷ below) (next : below ≡ r ∷ stack)
      (there : option_and_then (vector_in v.place) (object_at s v.place) ≡ Some v) where
    all_left : drop 3 s.top.stack ≡ stack
    all_left = ap (λ (l : List Value). drop 3 l) first ∙ ap (λ (l : List Value). drop 2 l) top ∙ ap (λ (l : List Value). drop 1 l) next

    pub store_tells : (q : Queries) (a : Access) (out : Result (Result Stored Refusal) NoMemory) → IfOk out (λ out. out ≡ store_found q s a index x v)
        → IfOk out (λ out. (here : Here) (i : Instruction) → stored_by q here i s (drop 3 s.top.stack) out ≡ store_element q here i s a)
    store_tells q a (Err e) is = is
    store_tells q a (Ok out) is = λ here i.
        ap (λ (l : List Value). stored_by q here i s l out) all_left ∙ ap (λ (o : Result Stored Refusal). stored_by q here i s stack o) is
        ∙ one_popped s.top.stack s x rest (three q s (store_step q here i s a)) (stored_by q here i s stack (store_found q s a index x v)) first
        (one_popped rest s index below (two q s (store_step q here i s a x)) (stored_by q here i s stack (store_found q s a index x v)) top
        (one_popped below s r stack (λ r stack. vector_of q r s (store_step q here i s a x index stack)) (stored_by q here i s stack (store_found q s a index x v)) next
        (store_is q here i s stack v there a index x ∙ sym (found q (store_step q here i s a x index stack)))))

-- ---- no array

module _ (s : State) (r : Value) (why : Refusal) (found : (q : Queries) (f : Vector → Next) → vector_of q r s f ≡ refused q s why)
    (q : Queries) (here : Here) (i : Instruction) (left : List Value) where
  pub length_refused : (stack : List Value) → s.top.stack ≡ r ∷ stack → outcome_of q here i s left (Err why) ≡ load_length q here i s
  length_refused stack top = out_refused q here i s left why
      ∙ one_popped s.top.stack s r stack (λ r stack. vector_of q r s (λ v. goes here i (value.Native (pos (length v.cells)) ∷ stack) s))
      (refused q s why) top (sym (found q (λ v. goes here i (value.Native (pos (length v.cells)) ∷ stack) s)))

  module _ (index : Value) (below stack : List Value) (top : s.top.stack ≡ index ∷ below) (next : below ≡ r ∷ stack) where
    both_refused : (step : Value → List Value → Vector → Next) → refused q s why ≡ popped s.top.stack s (two q s step)
    both_refused step = one_popped s.top.stack s index below (two q s step) (refused q s why) top
        (one_popped below s r stack (λ r stack. vector_of q r s (step index stack)) (refused q s why) next (sym (found q (step index stack))))

    pub load_refused : (a : Access) → outcome_of q here i s left (Err why) ≡ load_element q here i s a
    load_refused a = out_refused q here i s left why ∙ both_refused (load_step q here i s a)

    pub address_refused : (e : TypeExpr) → outcome_of q here i s left (Err why) ≡ address_element q here i s e
    address_refused e = out_refused q here i s left why ∙ both_refused (address_step q here i s e)

  pub store_refused : (x index : Value) (rest below stack : List Value) → s.top.stack ≡ x ∷ rest → rest ≡ index ∷ below → below ≡ r ∷ stack
      → (a : Access) → stored_by q here i s left (Err why) ≡ store_element q here i s a
  store_refused x index rest below stack first top next a = store_refused_is q here i s left why
      ∙ one_popped s.top.stack s x rest (three q s (store_step q here i s a)) (refused q s why) first
      (one_popped rest s index below (two q s (store_step q here i s a x)) (refused q s why) top
      (one_popped below s r stack (λ r stack. vector_of q r s (store_step q here i s a x index stack)) (refused q s why) next
      (sym (found q (store_step q here i s a x index stack)))))
