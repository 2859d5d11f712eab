-- A list has no repeat exactly where no two of its items are the same; so what has none leads back to what has none.
use Rattle.std.proofs.Common.{◌≡◌, ◌<◌, ℕ, zero, suc, List, [], ◌∷◌, Bool, true, false, ◌⊎◌, inl, inr, Option, Some, None, refl, sym, ap, ◌∙◌, arith}
use Rattle.std.specs.Prelude.{slice_get, if◌then◌else◌}
use Rattle.std.specs.List.{Contains, list_any}
use Rattle.std.proofs.lemmas.Bool.{or_parts}
use Rattle.il_base.specs.declared.table.TheConstants.{TYPE_DEF, FIELD, METHOD_DEF}
use Rattle.il_base.specs.declared.world_model.record.AsmRec.{AsmRec}
use Rattle.il_base.specs.world_model.Exprs.{same_expr}
use Rattle.rules.specs.declared.link_rules.link_error.LinkError.{LinkError}
use Rattle.rules.specs.link_rules.Signatures.{same_method_type}
use Rattle.rules.specs.link_rules.Types.{or_else}
use Rattle.rules.specs.link_rules.Faults.{same_key, repeat_from, first_repeat, same_type_key, same_member_key, repeated_row, repeated_type, repeated_field, repeated_method, repeated_in, duplicate_assembly, cyclic_types, cyclic_nesting, duplicate_member, link_fault}
use Rattle.rules.specs.link_rules.Linked.{assemblies, link_fault_of}
use Rattle.base_laws.proofs.lemmas.type_laws.Ways.{none_first, none_second, none_of}
use Rattle.merge_laws.proofs.lemmas.merged_record.Lists.{none_in, first_in, later_in, head_or}
use Rattle.merge_laws.specs.merged_links.Repeats.{KeysBack, type_keys, field_keys, method_keys, RepeatsStay}

-- ---- tests over a list

any_none : {A : Type 0} (p : A → Bool) (xs : List A) (x : A) → list_any p xs ≡ false → Contains xs x → p x ≡ false
any_none p [] x e c = absurd (none_in x c)
any_none p (y ∷ xs) x e c =
    let q = or_parts (p y) (list_any p xs) e in
    elim (head_or y xs x c) [ inl s ↦ ap p (sym s) ∙ q.0 | inr t ↦ any_none p xs x q.1 t ]

none_any : {A : Type 0} (p : A → Bool) (xs : List A) → ((x : A) → Contains xs x → p x ≡ false) → list_any p xs ≡ false
none_any p [] none = refl
none_any p (y ∷ xs) none = let a = none y (first_in y xs) in let b = none_any p xs (λ x c. none x (later_in y xs x c)) in rw (a, b) refl

-- ---- repeats

module _ {A : Type 0} (same : A → A → Bool) where
  abbrev Apart : List (Option A) → Type 0
  Apart xs = (j k : ℕ) (x y : Option A) → j < k → slice_get xs j ≡ Some x → slice_get xs k ≡ Some y → same_key same y x ≡ false

  -- no repeat, so none is the same as an earlier one
  step_by : (b : Bool) (i : ℕ) (rest : Option ℕ) → (if b then Some i else rest) ≡ None → (b ≡ false) × (rest ≡ None)
  step_by true i rest e = absurd (cc)
  step_by false i rest e = (refl, e)

  none_earlier : (earlier xs : List (Option A)) (i k : ℕ) (y e : Option A) → repeat_from same earlier i xs ≡ None → slice_get xs k ≡ Some y → Contains earlier e → same_key same y e ≡ false
  none_earlier earlier [] i k y e h there c = absurd (cc)
  none_earlier earlier (x ∷ xs) i zero y e h there c =
      let s = step_by (list_any (same_key same x) earlier) i (repeat_from same (x ∷ earlier) (suc i) xs) h in
      let it : x ≡ y = cc in
      ap (λ (z : Option A). same_key same z e) (sym it) ∙ any_none (same_key same x) earlier e s.0 c
  none_earlier earlier (x ∷ xs) i (suc k) y e h there c =
      let s = step_by (list_any (same_key same x) earlier) i (repeat_from same (x ∷ earlier) (suc i) xs) h in
      none_earlier (x ∷ earlier) xs (suc i) k y e s.1 there (later_in x earlier e c)

  apart_from : (earlier xs : List (Option A)) (i : ℕ) → repeat_from same earlier i xs ≡ None → Apart xs
  apart_from earlier [] i h j k x y lt e f = absurd (cc)
  apart_from earlier (z ∷ xs) i h j zero x y lt e f = absurd (omega arith)
  apart_from earlier (z ∷ xs) i h zero (suc k) x y lt e f =
      let s = step_by (list_any (same_key same z) earlier) i (repeat_from same (z ∷ earlier) (suc i) xs) h in
      let it : z ≡ x = cc in
      ap (same_key same y) (sym it) ∙ none_earlier (z ∷ earlier) xs (suc i) k y z s.1 f (first_in z earlier)
  apart_from earlier (z ∷ xs) i h (suc j) (suc k) x y lt e f =
      let s = step_by (list_any (same_key same z) earlier) i (repeat_from same (z ∷ earlier) (suc i) xs) h in
      apart_from (z ∷ earlier) xs (suc i) s.1 j k x y (omega arith) e f

  abbrev NewTo : List (Option A) → List (Option A) → Type 0
  NewTo earlier xs = (k : ℕ) (y e : Option A) → slice_get xs k ≡ Some y → Contains earlier e → same_key same y e ≡ false

  no_repeat : (earlier xs : List (Option A)) (i : ℕ) → NewTo earlier xs → Apart xs → repeat_from same earlier i xs ≡ None
  no_repeat earlier [] i new apart = refl
  no_repeat earlier (x ∷ xs) i new apart =
      let here : list_any (same_key same x) earlier ≡ false = none_any (same_key same x) earlier (λ e c. new 0 x e refl c) in
      let rest : repeat_from same (x ∷ earlier) (suc i) xs ≡ None =
      no_repeat (x ∷ earlier) xs (suc i)
      (λ k y e there c. new_by k y e there (head_or x earlier e c))
      (λ j k a b lt e f. apart (suc j) (suc k) a b (omega arith) e f) in
      rw here rest
    where
      new_by : (k : ℕ) (y e : Option A) → slice_get xs k ≡ Some y → (x ≡ e) ⊎ Contains earlier e → same_key same y e ≡ false
      new_by k y e there (inl s) = ap (same_key same y) (sym s) ∙ apart 0 (suc k) x y (omega arith) refl there
      new_by k y e there (inr t) = new (suc k) y e there t

  pub are_apart : (xs : List (Option A)) → first_repeat same xs ≡ None → Apart xs
  unfolding first_repeat
  are_apart xs h = apart_from [] xs 0 h

  pub none_repeats : (xs : List (Option A)) → Apart xs → first_repeat same xs ≡ None
  unfolding first_repeat
  none_repeats xs apart = no_repeat [] xs 0 (λ k y e there c. absurd (none_in e c)) apart

  -- two that are the same lead to two that are not
  no_two : (keys : ℕ → AsmRec → List (Option A)) (new : List (Option A)) (inputs : List AsmRec) → KeysBack same keys new inputs → ((a : ℕ) (rec : AsmRec) → slice_get inputs a ≡ Some rec → Apart (keys a rec)) → Apart new
  no_two keys new inputs back apart j k x y lt e f = by_test (same_key same y x) refl
    where
      by_test : (b : Bool) → same_key same y x ≡ b → b ≡ false
      by_test true g = let t = back j k x y lt e f g in let bad = apart t.asm t.rec t.there t.first t.second t.x t.y t.less t.one t.other in let h = t.alike in absurd (cc)
      by_test false g = refl

-- ---- the members of a record

row_none : (i table : ℕ) (o : Option ℕ) → repeated_row i table o ≡ None → o ≡ None
row_none i table None e = refl
row_none i table (Some k) e = absurd (cc)

none_row : (i table : ℕ) (o : Option ℕ) → o ≡ None → repeated_row i table o ≡ None
none_row i table o e = ap (repeated_row i table) e

none_or : (o p : Option LinkError) → o ≡ None → p ≡ None → or_else o p ≡ None
none_or o p e f = rw (e, f) refl

module _ (inputs : List AsmRec) (sound : link_fault_of inputs ≡ None) where
  abbrev all : List AsmRec
  all = assemblies inputs

  no_members : duplicate_member all inputs ≡ None
  unfolding link_fault
  no_members =
      none_second (cyclic_nesting inputs) (duplicate_member all inputs)
      (none_second (cyclic_types all inputs) (or_else (cyclic_nesting inputs) (duplicate_member all inputs))
      (none_second (duplicate_assembly inputs) (or_else (cyclic_types all inputs) (or_else (cyclic_nesting inputs) (duplicate_member all inputs))) sound))

  none_here : (a : ℕ) (rec : AsmRec) → slice_get inputs a ≡ Some rec → repeated_in all a rec ≡ None
  unfolding duplicate_member
  none_here a rec e = none_of (repeated_in all) inputs a rec no_members e

  types_apart : (a : ℕ) (rec : AsmRec) → slice_get inputs a ≡ Some rec → first_repeat same_type_key (type_keys a rec) ≡ None
  unfolding repeated_type
  types_apart a rec e = row_none a TYPE_DEF (first_repeat same_type_key (type_keys a rec)) (none_first (repeated_type a rec) (or_else (repeated_field all a rec) (repeated_method all a rec)) (none_here a rec e))

  fields_apart : (a : ℕ) (rec : AsmRec) → slice_get inputs a ≡ Some rec → first_repeat (same_member_key same_expr) (field_keys all a rec) ≡ None
  unfolding repeated_field
  fields_apart a rec e =
      row_none a FIELD (first_repeat (same_member_key same_expr) (field_keys all a rec))
      (none_first (repeated_field all a rec) (repeated_method all a rec) (none_second (repeated_type a rec) (or_else (repeated_field all a rec) (repeated_method all a rec)) (none_here a rec e)))

  methods_apart : (a : ℕ) (rec : AsmRec) → slice_get inputs a ≡ Some rec → first_repeat (same_member_key same_method_type) (method_keys all a rec) ≡ None
  unfolding repeated_method
  methods_apart a rec e =
      row_none a METHOD_DEF (first_repeat (same_member_key same_method_type) (method_keys all a rec))
      (none_second (repeated_field all a rec) (repeated_method all a rec) (none_second (repeated_type a rec) (or_else (repeated_field all a rec) (repeated_method all a rec)) (none_here a rec e)))

pub repeats_stay : RepeatsStay
unfolding duplicate_member repeated_type repeated_field repeated_method
repeats_stay inputs left sound types fields methods =
    let after : List AsmRec = assemblies (left ∷ []) in
    let before : List AsmRec = assemblies inputs in
    let t : first_repeat same_type_key (type_keys 0 left) ≡ None =
    none_repeats same_type_key (type_keys 0 left) (no_two same_type_key type_keys (type_keys 0 left) inputs types (λ a rec e. are_apart same_type_key (type_keys a rec) (types_apart inputs sound a rec e))) in
    let f : first_repeat (same_member_key same_expr) (field_keys after 0 left) ≡ None =
    none_repeats (same_member_key same_expr) (field_keys after 0 left)
    (no_two (same_member_key same_expr) (field_keys before) (field_keys after 0 left) inputs fields (λ a rec e. are_apart (same_member_key same_expr) (field_keys before a rec) (fields_apart inputs sound a rec e))) in
    let m : first_repeat (same_member_key same_method_type) (method_keys after 0 left) ≡ None =
    none_repeats (same_member_key same_method_type) (method_keys after 0 left)
    (no_two (same_member_key same_method_type) (method_keys before) (method_keys after 0 left) inputs methods
    (λ a rec e. are_apart (same_member_key same_method_type) (method_keys before a rec) (methods_apart inputs sound a rec e))) in
    none_or (or_else (repeated_row 0 TYPE_DEF (first_repeat same_type_key (type_keys 0 left)))
    (or_else (repeated_row 0 FIELD (first_repeat (same_member_key same_expr) (field_keys after 0 left))) (repeated_row 0 METHOD_DEF (first_repeat (same_member_key same_method_type) (method_keys after 0 left))))) None
    (none_or (repeated_row 0 TYPE_DEF (first_repeat same_type_key (type_keys 0 left))) (or_else (repeated_row 0 FIELD (first_repeat (same_member_key same_expr) (field_keys after 0 left))) (repeated_row 0 METHOD_DEF (first_repeat (same_member_key same_method_type) (method_keys after 0 left))))
    (none_row 0 TYPE_DEF (first_repeat same_type_key (type_keys 0 left)) t)
    (none_or (repeated_row 0 FIELD (first_repeat (same_member_key same_expr) (field_keys after 0 left))) (repeated_row 0 METHOD_DEF (first_repeat (same_member_key same_method_type) (method_keys after 0 left)))
    (none_row 0 FIELD (first_repeat (same_member_key same_expr) (field_keys after 0 left)) f) (none_row 0 METHOD_DEF (first_repeat (same_member_key same_method_type) (method_keys after 0 left)) m))) refl
