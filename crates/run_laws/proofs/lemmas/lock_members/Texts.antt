-- Members of String, and Int32.Parse.
use Rattle.std.proofs.Common.{◌≡◌, ℕ, ℤ, pos, Bool, not, List, [], ◌∷◌, ◌++◌, length, Option, Some, None, refl, sym, ap, subst}
use Rattle.std.specs.Prelude.{IsTrue}
use Rattle.std.specs.Option.{option_map, option_and_then}
use Rattle.std.specs.List.{position}
use Rattle.std.specs.Int.{w32}
use Rattle.il_base.specs.declared.core_table.names.CoreName.TheVariants as name
use Rattle.il_base.specs.declared.cil_values.value.Value.{Value, out-Value, roll-Value}
use Rattle.il_base.specs.declared.cil_values.value.Value.TheVariants as value
use Rattle.il_base.specs.declared.cil_values.state.State.{State}
use Rattle.rules.specs.step_rules.Queries.{Queries}
use Rattle.rules.specs.step_rules.Next.{Next}
use Rattle.rules.specs.step_rules.Words.{stuck}
use Rattle.rules.specs.step_rules.Integers.{fits_signed}
use Rattle.rules.specs.step_rules.Objects.{units_of}
use Rattle.rules.specs.step_rules.CoreWords.{Gives, gives_truth, gives_int, gives_text}
use Rattle.rules.specs.step_rules.CoreTexts.{TextOrNull, no_text, units, as_units, text_or_null, string_length_form, unit_or_raise, unit_at, unit_of, string_unit_form, place_or_minus_one, is_unit, index_of, string_index_form, all_units, string_concat_form, part_of, rest_of, text_or_raise, from_place, string_from_form, part_at, string_part_form, string_itself_form, are_same, compared_texts, string_same_form, string_other_form, has_units, string_is_form, is_empty_text, string_is_empty_form, text_order, string_compare_form, parsed, int_or_raise, parse_text, int_parse_form}
use Rattle.rules.specs.change_rules.Change.{Change}
use Rattle.rules.specs.change_rules.Moves.{move_value, move_values}
use Rattle.rules.specs.change_rules.States.{move_state}
use Rattle.rules.specs.change_rules.Keeps.{keeps_value, keeps_values}
use Rattle.rules.specs.change_rules.Covered.{Covered}
use Rattle.rules.specs.change_rules.Agree.{Agree, is_asked}
use Rattle.rules.specs.change_rules.Lock.{Lock, GivesLock}
use Rattle.run_laws.proofs.lemmas.lock_words.Words.{stuck_lock, given_same, if_lock}
use Rattle.run_laws.proofs.lemmas.lock_words.Cases.{moved_cases, kept_cases}
use Rattle.run_laws.proofs.lemmas.lock_throwing.Objects.{units_at, units_moved}
use Rattle.run_laws.proofs.lemmas.lock_throwing.Searching.{raise_lock}
use Rattle.run_laws.proofs.lemmas.lock_members.Giving.{value_lock, truth_lock, int_lock, text_lock}
use Rattle.run_laws.proofs.lemmas.lock_members.Objects.{head_kept, tail_kept}

null_argument : IsTrue (is_asked name.ArgumentNullException)
unfolding is_asked
null_argument = refl

range_asked : IsTrue (is_asked name.ArgumentOutOfRangeException)
unfolding is_asked
range_asked = refl

format_asked : IsTrue (is_asked name.FormatException)
unfolding is_asked
format_asked = refl

index_asked : IsTrue (is_asked name.IndexOutOfRangeException)
unfolding is_asked
index_asked = refl

overflow_asked : IsTrue (is_asked name.OverflowException)
unfolding is_asked
overflow_asked = refl

module _ (k : Change) (after before : Queries) (a : Agree k after before) where
  text_moved : (s : State) (v : Value) → text_or_null (move_state k before s) (move_value k.rho v) ≡ text_or_null s v
  unfolding roll-Value denote.Hole.Carrier.roll out-Value denote.Hole.Carrier.out
  text_moved s v =
      moved_cases k.rho (λ w v. units_of (move_state k before s) w ≡ units_of s v → text_or_null (move_state k before s) w ≡ text_or_null s v)
      (λ e. refl) (λ n e. refl) (λ n e. refl) (λ n e. refl) (λ n e. ap as_units e) (λ p e. refl) (λ d cells e. refl) (λ d e. refl) (λ f e. refl) v (units_moved k after before a s v)

  all_moved : (s : State) (vs : List Value) → all_units (move_state k before s) (move_values k.rho vs) ≡ all_units s vs
  unfolding roll-Value denote.Hole.Carrier.roll out-Value denote.Hole.Carrier.out
  all_moved s [] = refl
  all_moved s (v ∷ vs) =
      moved_cases k.rho (λ w v. (all_units (move_state k before s) (move_values k.rho vs) ≡ all_units s vs) → all_units (move_state k before s) (w ∷ move_values k.rho vs) ≡ all_units s (v ∷ vs))
      (λ e. e) (λ n e. refl) (λ n e. refl) (λ n e. refl)
      (λ n e i. option_and_then (λ us. option_map (λ more. us ++ more) (e i)) (units_at k after before a s n i))
      (λ p e. refl) (λ d cells e. refl) (λ d e. refl) (λ f e. refl) v (all_moved s vs)

  module _ (s : State) (c : Covered k.keep before s) (f g : Gives) (gl : GivesLock k before f g) where
    out : Lock k before (stuck (move_state k before s)) (stuck s)
    out = stuck_lock k before s

    int : (n : ℤ) → Lock k before (gives_int n (move_state k before s) f) (gives_int n s g)
    int n = int_lock k after before a f g gl n s c

    truth : (b : Bool) → Lock k before (gives_truth b (move_state k before s) f) (gives_truth b s g)
    truth b = truth_lock k after before a f g gl b s c

    text : (us : List ℕ) → Lock k before (gives_text us (move_state k before s) f) (gives_text us s g)
    text us = text_lock k after before a f g gl us s c

    pub string_length_lock : (args : List Value) → IsTrue (keeps_values k.keep args) → Lock k before (string_length_form after (move_values k.rho args) (move_state k before s) f) (string_length_form before args s g)
    unfolding string_length_form
    string_length_lock (v ∷ []) h = given_same k before _ (units_of s v) s _ _ (units_moved k after before a s v) (λ us e. int (pos (length us)))
    string_length_lock _ h = out

    unit_or_lock : (o : Option ℕ) → Lock k before (unit_or_raise after (move_state k before s) f o) (unit_or_raise before s g o)
    unit_or_lock None = raise_lock k after before a name.IndexOutOfRangeException index_asked s c
    unit_or_lock (Some u) = int (pos u)

    unit_of_lock : (us : List ℕ) (v : Value) → IsTrue (keeps_value k.keep v) → Lock k before (unit_of after (move_state k before s) f us (move_value k.rho v)) (unit_of before s g us v)
    unfolding roll-Value denote.Hole.Carrier.roll out-Value denote.Hole.Carrier.out
    unit_of_lock us =
        kept_cases k (λ w v. Lock k before (unit_of after (move_state k before s) f us w) (unit_of before s g us v)) out
        (λ n. unit_or_lock (unit_at us n)) (λ n. out) (λ n. out) (λ n. out) (λ p h. out) (λ d cells h q. out) (λ d h. out) (λ d h. out)

    pub string_unit_lock : (args : List Value) → IsTrue (keeps_values k.keep args) → Lock k before (string_unit_form after (move_values k.rho args) (move_state k before s) f) (string_unit_form before args s g)
    unfolding string_unit_form
    string_unit_lock (v ∷ w ∷ []) h =
        given_same k before _ (units_of s v) s _ _ (units_moved k after before a s v) (λ us e. unit_of_lock us w (head_kept k after before a w [] (tail_kept k after before a v (w ∷ []) h)))
    string_unit_lock _ h = out

    index_of_lock : (us : List ℕ) (v : Value) → IsTrue (keeps_value k.keep v) → Lock k before (index_of (move_state k before s) f us (move_value k.rho v)) (index_of s g us v)
    unfolding roll-Value denote.Hole.Carrier.roll out-Value denote.Hole.Carrier.out
    index_of_lock us =
        kept_cases k (λ w v. Lock k before (index_of (move_state k before s) f us w) (index_of s g us v)) out
        (λ n. int (place_or_minus_one (position (is_unit n) us))) (λ n. out) (λ n. out) (λ n. out) (λ p h. out) (λ d cells h q. out) (λ d h. out) (λ d h. out)

    pub string_index_lock : (args : List Value) → IsTrue (keeps_values k.keep args) → Lock k before (string_index_form after (move_values k.rho args) (move_state k before s) f) (string_index_form before args s g)
    unfolding string_index_form
    string_index_lock (v ∷ w ∷ []) h =
        given_same k before _ (units_of s v) s _ _ (units_moved k after before a s v) (λ us e. index_of_lock us w (head_kept k after before a w [] (tail_kept k after before a v (w ∷ []) h)))
    string_index_lock _ h = out

    pub string_concat_lock : (args : List Value) → IsTrue (keeps_values k.keep args) → Lock k before (string_concat_form after (move_values k.rho args) (move_state k before s) f) (string_concat_form before args s g)
    unfolding string_concat_form
    string_concat_lock args h = given_same k before _ (all_units s args) s _ _ (all_moved s args) (λ us e. text us)

    text_or_lock : (o : Option (List ℕ)) → Lock k before (text_or_raise after (move_state k before s) f o) (text_or_raise before s g o)
    text_or_lock None = raise_lock k after before a name.ArgumentOutOfRangeException range_asked s c
    text_or_lock (Some us) = text us

    from_place_lock : (us : List ℕ) (v : Value) → IsTrue (keeps_value k.keep v) → Lock k before (from_place after (move_state k before s) f us (move_value k.rho v)) (from_place before s g us v)
    unfolding roll-Value denote.Hole.Carrier.roll out-Value denote.Hole.Carrier.out
    from_place_lock us =
        kept_cases k (λ w v. Lock k before (from_place after (move_state k before s) f us w) (from_place before s g us v)) out
        (λ n. text_or_lock (rest_of us n)) (λ n. out) (λ n. out) (λ n. out) (λ p h. out) (λ d cells h q. out) (λ d h. out) (λ d h. out)

    pub string_from_lock : (args : List Value) → IsTrue (keeps_values k.keep args) → Lock k before (string_from_form after (move_values k.rho args) (move_state k before s) f) (string_from_form before args s g)
    unfolding string_from_form
    string_from_lock (v ∷ w ∷ []) h =
        given_same k before _ (units_of s v) s _ _ (units_moved k after before a s v) (λ us e. from_place_lock us w (head_kept k after before a w [] (tail_kept k after before a v (w ∷ []) h)))
    string_from_lock _ h = out

    part_at_lock : (us : List ℕ) (v w : Value) → IsTrue (keeps_value k.keep v) → IsTrue (keeps_value k.keep w)
        → Lock k before (part_at after (move_state k before s) f us (move_value k.rho v) (move_value k.rho w)) (part_at before s g us v w)
    unfolding roll-Value denote.Hole.Carrier.roll out-Value denote.Hole.Carrier.out
    part_at_lock us v w hv hw =
        kept_cases k (λ x y. Lock k before (part_at after (move_state k before s) f us x (move_value k.rho w)) (part_at before s g us y w)) out
        (λ n. kept_cases k (λ x y. Lock k before (part_at after (move_state k before s) f us (value.I4 n) x) (part_at before s g us (value.I4 n) y)) out
        (λ m. text_or_lock (part_of us n m)) (λ m. out) (λ m. out) (λ m. out) (λ p h. out) (λ d cells h q. out) (λ d h. out) (λ d h. out) w hw)
        (λ n. out) (λ n. out) (λ n. out) (λ p h. out) (λ d cells h q. out) (λ d h. out) (λ d h. out) v hv

    pub string_part_lock : (args : List Value) → IsTrue (keeps_values k.keep args) → Lock k before (string_part_form after (move_values k.rho args) (move_state k before s) f) (string_part_form before args s g)
    unfolding string_part_form
    string_part_lock (v ∷ w ∷ x ∷ []) h =
        let hw : IsTrue (keeps_values k.keep (w ∷ x ∷ [])) = tail_kept k after before a v (w ∷ x ∷ []) h in
        given_same k before _ (units_of s v) s _ _ (units_moved k after before a s v) (λ us e.
        part_at_lock us w x (head_kept k after before a w (x ∷ []) hw) (head_kept k after before a x [] (tail_kept k after before a w (x ∷ []) hw)))
    string_part_lock _ h = out

    pub string_itself_lock : (args : List Value) → IsTrue (keeps_values k.keep args) → Lock k before (string_itself_form after (move_values k.rho args) (move_state k before s) f) (string_itself_form before args s g)
    unfolding string_itself_form
    string_itself_lock (v ∷ []) h = value_lock k after before a f g gl v s c (head_kept k after before a v [] h)
    string_itself_lock _ h = out

    -- ---- comparisons

    compared_lock : (v w : Value) (x y : TextOrNull → TextOrNull → Next) → ((m n : TextOrNull) → Lock k before (x m n) (y m n))
        → Lock k before (compared_texts (move_state k before s) (move_value k.rho v) (move_value k.rho w) x) (compared_texts s v w y)
    compared_lock v w x y l =
        given_same k before _ (text_or_null s v) s _ _ (text_moved s v) (λ m e. given_same k before _ (text_or_null s w) s (x m) (y m) (text_moved s w) (λ n i. l m n))

    pub string_same_lock : (args : List Value) → IsTrue (keeps_values k.keep args) → Lock k before (string_same_form after (move_values k.rho args) (move_state k before s) f) (string_same_form before args s g)
    unfolding string_same_form
    string_same_lock (v ∷ w ∷ []) h = compared_lock v w _ _ (λ m n. truth (are_same m n))
    string_same_lock _ h = out

    pub string_other_lock : (args : List Value) → IsTrue (keeps_values k.keep args) → Lock k before (string_other_form after (move_values k.rho args) (move_state k before s) f) (string_other_form before args s g)
    unfolding string_other_form
    string_other_lock (v ∷ w ∷ []) h = compared_lock v w _ _ (λ m n. truth (not (are_same m n)))
    string_other_lock _ h = out

    pub string_is_lock : (args : List Value) → IsTrue (keeps_values k.keep args) → Lock k before (string_is_form after (move_values k.rho args) (move_state k before s) f) (string_is_form before args s g)
    unfolding string_is_form
    string_is_lock (v ∷ w ∷ []) h =
        given_same k before _ (units_of s v) s _ _ (units_moved k after before a s v) (λ us e.
        subst (λ (o : Option (List ℕ)). Lock k before (gives_truth (has_units us o) (move_state k before s) f) (gives_truth (has_units us (units_of s w)) s g)) (sym (units_moved k after before a s w)) (truth (has_units us (units_of s w))))
    string_is_lock _ h = out

    pub string_is_empty_lock : (args : List Value) → IsTrue (keeps_values k.keep args) → Lock k before (string_is_empty_form after (move_values k.rho args) (move_state k before s) f) (string_is_empty_form before args s g)
    unfolding string_is_empty_form
    string_is_empty_lock (v ∷ []) h = given_same k before _ (text_or_null s v) s _ _ (text_moved s v) (λ x e. truth (is_empty_text x))
    string_is_empty_lock _ h = out

    pub string_compare_lock : (args : List Value) → IsTrue (keeps_values k.keep args) → Lock k before (string_compare_form after (move_values k.rho args) (move_state k before s) f) (string_compare_form before args s g)
    unfolding string_compare_form
    string_compare_lock (v ∷ w ∷ []) h = compared_lock v w _ _ (λ m n. int (text_order m n))
    string_compare_lock _ h = out

    -- ---- Int32.Parse

    int_or_lock : (o : Option ℤ) → Lock k before (int_or_raise after (move_state k before s) f o) (int_or_raise before s g o)
    int_or_lock None = raise_lock k after before a name.FormatException format_asked s c
    int_or_lock (Some n) = if_lock k before _ (fits_signed w32 n) _ _ _ _ refl (λ e. int n) (λ e. raise_lock k after before a name.OverflowException overflow_asked s c)

    parse_lock : (x : TextOrNull) → Lock k before (parse_text after (move_state k before s) f x) (parse_text before s g x)
    parse_lock no_text = raise_lock k after before a name.ArgumentNullException null_argument s c
    parse_lock (units us) = int_or_lock (parsed us)

    pub int_parse_lock : (args : List Value) → IsTrue (keeps_values k.keep args) → Lock k before (int_parse_form after (move_values k.rho args) (move_state k before s) f) (int_parse_form before args s g)
    unfolding int_parse_form
    int_parse_lock (v ∷ []) h = given_same k before _ (text_or_null s v) s (parse_text after (move_state k before s) f) (parse_text before s g) (text_moved s v) (λ x e. parse_lock x)
    int_parse_lock _ h = out
