-- Where the types of one world lead on as kept ones of another do, none of them is on a cycle.
use Rattle.std.proofs.Common.{◌≡◌, ◌<◌, ◌≤◌, ℕ, suc, ◌+◌, List, [], ◌∷◌, ◌++◌, length, Bool, true, false, ◌⊎◌, inl, inr, Some, None, refl, sym, ap, subst, ◌∙◌, arith}
use Rattle.std.specs.Prelude.{slice_get, IsTrue, ◌||◌, if◌then◌else◌}
use Rattle.std.specs.List.{Contains, list_any, filter}
use Rattle.std.proofs.lemmas.Bool.{or_parts, true≢false, cases_lt}
use Rattle.std.proofs.lemmas.List.{length-append}
use Rattle.il_base.specs.declared.world_model.types.TypeDefRow.{TypeDefRow}
use Rattle.il_base.specs.declared.world_model.record.AsmRec.{AsmRec}
use Rattle.il_base.specs.core_table.Record.{core_record}
use Rattle.rules.specs.declared.link_rules.core_type_name.CoreTypeName.{CoreTypeName}
use Rattle.rules.specs.declared.link_rules.link_error.LinkError.{LinkError}
use Rattle.rules.specs.declared.link_rules.row_at.RowAt.{RowAt}
use Rattle.rules.specs.link_rules.CoreNames.{missing_names, core_with}
use Rattle.rules.specs.link_rules.Types.{or_else, at_row}
use Rattle.rules.specs.link_rules.Members.{type_count}
use Rattle.rules.specs.link_rules.Cycles.{led_to, is_on_cycle, same_row, base_rows, interface_rows, field_values}
use Rattle.rules.specs.link_rules.Faults.{first_of, is_cyclic_type, cyclic_type, cyclic_types, duplicate_assembly, cyclic_nesting, duplicate_member, link_fault}
use Rattle.rules.specs.link_rules.Linked.{assemblies, link_fault_of}
use Rattle.base_laws.proofs.lemmas.type_laws.Within.{In, in_any}
use Rattle.base_laws.proofs.lemmas.type_laws.Reaching.{Leads, led, cyclic}
use Rattle.base_laws.proofs.lemmas.type_laws.Places.{rows_decide, home_at, IsType as IsHome, id_of, id_below, one_by_id}
use Rattle.base_laws.proofs.lemmas.type_laws.CoreRows.{place_front}
use Rattle.base_laws.proofs.lemmas.type_laws.CoreHomes.{no_base_cycle, no_interface_cycle}
use Rattle.base_laws.proofs.lemmas.type_laws.Ways.{none_first, none_second, none_of}
use Rattle.merge_laws.specs.merged_links.Cycles.{StepsBack, IsType, TypesLead, CyclesStay}
use Rattle.merge_laws.proofs.lemmas.merged_links.Rounds.{back, among, no_round}
use Rattle.merge_laws.proofs.lemmas.merged_links.CoreValues.{no_values}
use Rattle.merge_laws.proofs.lemmas.merged_record.Lists.{none_in, first_in, later_in, head_or, row_below, below_length}

-- ---- items of lists

pub to_in : {A : Type 0} (xs : List A) (x : A) → Contains xs x → In x xs
to_in [] x c = absurd (none_in x c)
to_in (y ∷ xs) x c = elim (head_or y xs x c) [ inl e ↦ inl (sym e) | inr t ↦ inr (to_in xs x t) ]

pub from_in : {A : Type 0} (xs : List A) (x : A) → In x xs → Contains xs x
from_in [] x h = absurd h
from_in {A} (y ∷ xs) x (inl e) = subst (λ (z : A). Contains (y ∷ xs) z) (sym e) (first_in y xs)
from_in (y ∷ xs) x (inr h) = later_in y xs x (from_in xs x h)

kept_by : {A : Type 0} (p : A → Bool) (x y : A) (xs : List A) (b : Bool) → p y ≡ b → p x ≡ true → (In x xs → In x (filter p xs)) → (x ≡ y) ⊎ In x xs → In x (if b then y ∷ filter p xs else filter p xs)
kept_by p x y xs true f e more (inl same) = inl same
kept_by p x y xs true f e more (inr i) = inr (more i)
kept_by p x y xs false f e more (inl same) = absurd (true≢false (sym e ∙ ap p same ∙ f))
kept_by p x y xs false f e more (inr i) = more i

pub in_kept : {A : Type 0} (p : A → Bool) (xs : List A) (x : A) → p x ≡ true → In x xs → In x (filter p xs)
in_kept p [] x e i = absurd i
in_kept p (y ∷ xs) x e i = kept_by p x y xs (p y) refl e (in_kept p xs x e) i

-- ---- all types of a record

not_some : (b : Bool) (x : LinkError) → (if b then Some x else None) ≡ None → b ≡ false
not_some true x e = cc
not_some false x e = refl

types_none : (all : List AsmRec) (i k : ℕ) (rows : List TypeDefRow) → ((j : ℕ) → j < length rows → is_cyclic_type all (at_row i (k + j)) ≡ false) → first_of (cyclic_type all i) k rows ≡ None
types_none all i k [] none = refl
types_none all i k (row ∷ rows) none =
    let z : k + 0 ≡ k = omega arith in
    let here : is_cyclic_type all (at_row i k) ≡ false = subst (λ (n : ℕ). is_cyclic_type all (at_row i n) ≡ false) z (none 0 (omega arith)) in
    let later : first_of (cyclic_type all i) (suc k) rows ≡ None = types_none all i (suc k) rows (λ j lt. let n : k + suc j ≡ suc k + j = omega arith in subst (λ (m : ℕ). is_cyclic_type all (at_row i m) ≡ false) n (none (suc j) (omega arith))) in
    rw here later

module _ (inputs : List AsmRec) (sound : link_fault_of inputs ≡ None) where
  abbrev all : List AsmRec
  all = assemblies inputs

  no_cycle : cyclic_types all inputs ≡ None
  unfolding link_fault
  no_cycle =
      none_first (cyclic_types all inputs) (or_else (cyclic_nesting inputs) (duplicate_member all inputs))
      (none_second (duplicate_assembly inputs) (or_else (cyclic_types all inputs) (or_else (cyclic_nesting inputs) (duplicate_member all inputs))) sound)

  not_cyclic : (x : RowAt) (rec : AsmRec) → slice_get inputs x.asm ≡ Some rec → x.row < length rec.type_def → is_cyclic_type all x ≡ false
  unfolding cyclic_types
  not_cyclic x rec e lt =
      let row = row_below rec.type_def x.row lt in
      not_some (is_cyclic_type all x) _ (none_of (cyclic_type all x.asm) rec.type_def x.row row.0 (none_of (λ j (r : AsmRec). first_of (cyclic_type all j) 0 r.type_def) inputs x.asm rec no_cycle e) row.1)

  -- ---- no type of the inputs' world leads to itself in few steps

  abbrev names : List CoreTypeName
  names = missing_names (inputs ++ core_record ∷ [])

  long : length all ≡ suc (length inputs)
  unfolding assemblies
  long = length-append inputs (core_with core_record names ∷ []) ∙ omega arith

  front : (a : ℕ) (rec : AsmRec) → slice_get inputs a ≡ Some rec → slice_get all a ≡ Some rec
  unfolding assemblies
  front a rec e = place_front inputs (core_with core_record names ∷ []) a rec e

  last_is : (xs : List AsmRec) (x : AsmRec) → slice_get (xs ++ x ∷ []) (length xs) ≡ Some x
  last_is [] x = refl
  last_is (y ∷ xs) x = last_is xs x

  core_there : slice_get all (length inputs) ≡ Some (core_with core_record names)
  unfolding assemblies
  core_there = last_is inputs (core_with core_record names)

  core_fields : (core_with core_record names).field ≡ core_record.field
  unfolding core_with
  core_fields = refl

  pub record OnNone (x : RowAt) : Type 0 where
    pub base : (k : ℕ) → k ≤ type_count all → Leads (base_rows all) (suc k) x x → ⊥
    pub interface : (k : ℕ) → k ≤ type_count all → Leads (interface_rows all) (suc k) x x → ⊥
    pub value : (k : ℕ) → k ≤ type_count all → Leads (field_values all) (suc k) x x → ⊥

  never_on : (next : RowAt → List RowAt) (x : RowAt) → is_on_cycle same_row next (type_count all) x ≡ false → (k : ℕ) → k ≤ type_count all → Leads next (suc k) x x → ⊥
  never_on next x none k le l = true≢false (sym (cyclic same_row rows_decide next (type_count all) k x le l) ∙ none)

  input_none : (x : RowAt) → is_cyclic_type all x ≡ false → OnNone x
  unfolding is_cyclic_type
  input_none x h =
      let b = is_on_cycle same_row (base_rows all) (type_count all) x in
      let i = is_on_cycle same_row (interface_rows all) (type_count all) x in
      let v = is_on_cycle same_row (field_values all) (type_count all) x in
      let p = or_parts (b || i) v h in
      let q = or_parts b i p.0 in
      record { base = never_on (base_rows all) x q.0; interface = never_on (interface_rows all) x q.1; value = never_on (field_values all) x p.1 }

  core_none : (x : RowAt) → x.asm ≡ length inputs → OnNone x
  unfolding assemblies
  core_none x is = record {
    base = λ k le l. no_base_cycle inputs names k x is l;
    interface = λ k le l. no_interface_cycle inputs names k x is l;
    value = λ k le l. no_values all x (core_with core_record names) (ap (slice_get all) is ∙ core_there) core_fields l.0 l.1;
  }

  one_rec : (x y : AsmRec) → Some x ≡ Some y → x ≡ y
  one_rec x y e = cc

  on_none_by : (x : RowAt) → (t : IsType all x) → (x.asm < length inputs) ⊎ (length inputs ≤ x.asm) → OnNone x
  on_none_by x t (inl lt) =
      let r = row_below inputs x.asm lt in
      let same : r.0 ≡ t.rec = one_rec r.0 t.rec (sym (front x.asm r.0 r.1) ∙ t.here) in
      input_none x (not_cyclic x r.0 r.1 (subst (λ (rec : AsmRec). x.row < length rec.type_def) (sym same) t.below))
  on_none_by x t (inr ge) = let lt = below_length all x.asm t.rec t.here in let n = long in core_none x (omega (arith, lt, ge, n))

  pub on_none : (x : RowAt) → IsType all x → OnNone x
  on_none x t = on_none_by x t (cases_lt x.asm (length inputs))

  -- a type by its number
  pub is_home : (x : RowAt) → IsType all x → IsHome all x
  is_home x t = home_at all 0 x.asm x.row t.rec t.here t.below ∙ ap (λ (a : ℕ). Some (at_row a x.row)) (omega arith)

-- ---- one type

module _ (inputs after : List AsmRec) (sound : link_fault_of inputs ≡ None) (place : RowAt → RowAt) (kept : RowAt → Bool) (lead : TypesLead after (assemblies inputs) place kept) where
  abbrev before : List AsmRec
  before = assemblies inputs

  abbrev Stands : RowAt → RowAt → Type 0
  Stands x y = IsTrue (kept x) × (place x ≡ y)

  stands_step : (old new : RowAt → List RowAt) → StepsBack place kept old new → (x y : RowAt) → Stands x y → (z : RowAt) → In z (new y) → (w : RowAt) × In w (among old kept x) × Stands w z
  stands_step old new steps x y s z h =
      let r = steps x z s.0 (subst (λ (a : RowAt). Contains (new a) z) (sym s.1) (from_in (new y) z h)) in
      (r.0, in_kept kept (old x) r.0 r.2 (to_in (old x) r.0 r.1), (r.2, r.3))

  none_by : (old new : RowAt → List RowAt) → StepsBack place kept old new → ((x : RowAt) → IsTrue (kept x) → (k : ℕ) → k ≤ type_count before → Leads old (suc k) x x → ⊥)
      → (x : RowAt) → IsTrue (kept x) → is_on_cycle same_row new (type_count after) (place x) ≡ false
  unfolding is_on_cycle
  none_by old new steps never x k = by_test (is_on_cycle same_row new (type_count after) (place x)) refl
    where
      comes_back : list_any (same_row (place x)) (led_to same_row new (type_count after) (new (place x))) ≡ true → ⊥
      comes_back e =
          let l = led same_row rows_decide new (type_count after) (new (place x)) (place x) (in_any same_row rows_decide (place x) (led_to same_row new (type_count after) (new (place x))) e) in
          let r = back (among old kept) new Stands (stands_step old new steps) (suc l.steps) x (place x) (place x) (k, refl) (l.from, l.is, l.leads) in
          let same : r.0 ≡ x = lead.one r.0 x r.2.0 k r.2.1 in
          no_round old kept (id_of before) (type_count before) (λ y h. id_below before y (is_home inputs sound y (lead.there y h)))
          (λ y z h g e. one_by_id before y z (is_home inputs sound y (lead.there y h)) (is_home inputs sound z (lead.there z g)) e)
          (λ n y h le m. never y h n le m) l.steps x k (subst (λ (z : RowAt). Leads (among old kept) (suc l.steps) x z) same r.1)

      by_test : (b : Bool) → is_on_cycle same_row new (type_count after) (place x) ≡ b → b ≡ false
      by_test true e = absurd (comes_back e)
      by_test false e = refl

  all_false : (a b c : Bool) → a ≡ false → b ≡ false → c ≡ false → (a || b || c) ≡ false
  all_false a b c e f g = rw (e, f, g) refl

  pub type_free : (x : RowAt) → IsTrue (kept x) → is_cyclic_type after (place x) ≡ false
  unfolding is_cyclic_type
  type_free x k =
      all_false (is_on_cycle same_row (base_rows after) (type_count after) (place x)) (is_on_cycle same_row (interface_rows after) (type_count after) (place x)) (is_on_cycle same_row (field_values after) (type_count after) (place x))
      (none_by (base_rows before) (base_rows after) lead.bases (λ y h. (on_none inputs sound y (lead.there y h)).base) x k)
      (none_by (interface_rows before) (interface_rows after) lead.interfaces (λ y h. (on_none inputs sound y (lead.there y h)).interface) x k)
      (none_by (field_values before) (field_values after) lead.values (λ y h. (on_none inputs sound y (lead.there y h)).value) x k)

pub cycles_stay : CyclesStay
unfolding cyclic_types
cycles_stay inputs left place kept sound lead each =
    let after : List AsmRec = assemblies (left ∷ []) in
    let none : first_of (cyclic_type after 0) 0 left.type_def ≡ None =
    types_none after 0 0 left.type_def
    (λ j lt.
    let s = each j lt in
    let n : j ≡ 0 + j = omega arith in
    let free = type_free inputs after sound place kept lead s.at s.is_kept in
    subst (λ (m : ℕ). is_cyclic_type after (at_row 0 m) ≡ false) n (subst (λ (x : RowAt). is_cyclic_type after x ≡ false) s.stands free)) in
    rw none refl
