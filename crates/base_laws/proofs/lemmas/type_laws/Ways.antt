-- In a linked world a way up passes each definition once, so the search finds its end.
use Rattle.std.proofs.Common.{◌≡◌, ℕ, zero, suc, ◌+◌, ◌<◌, ◌≤◌, Bool, true, false, List, [], ◌∷◌, ◌++◌, length, Option, Some, None, ◌⊎◌, inl, inr, refl, sym, ap, subst, ◌∙◌, arith}
use Rattle.std.specs.Prelude.{slice_get, ◌||◌, IsTrue, if◌then◌else◌}
use Rattle.std.specs.List.{list_any, flat_map}
use Rattle.std.specs.Option.{option_and_then, IsSome}
use Rattle.std.proofs.lemmas.Bool.{and_parts, or_parts, or_right, or_cases, cases_lt, true≢false}
use Rattle.std.proofs.lemmas.List.{length-append}
use Rattle.il_base.specs.declared.ids.TypeId.{TypeId}
use Rattle.il_base.specs.declared.world_model.expr.TypeExpr.{TypeExpr}
use Rattle.il_base.specs.declared.world_model.expr.TypeExpr.TheOpen.{TypeExpr-F}
use Rattle.il_base.specs.declared.world_model.expr.TypeExpr.TheVariants as expr
use Rattle.il_base.specs.declared.world_model.types.TypeDefRow.{TypeDefRow}
use Rattle.il_base.specs.declared.world_model.record.AsmRec.{AsmRec}
use Rattle.il_base.specs.world_model.Exprs.{same_expr}
use Rattle.il_base.specs.world_model.Exprs as exprs
use Rattle.il_base.proofs.lemmas.world_model.SameExpr.{same_decides}
use Rattle.il_base.specs.core_table.Record.{core_record}
use Rattle.rules.specs.declared.link_rules.link_error.LinkError.{LinkError}
use Rattle.rules.specs.declared.link_rules.row_at.RowAt.{RowAt}
use Rattle.rules.specs.link_rules.CoreNames.{missing_names, core_with}
use Rattle.rules.specs.link_rules.Types.{or_else, at_row}
use Rattle.rules.specs.declared.link_rules.core_type_name.CoreTypeName.{CoreTypeName}
use Rattle.rules.specs.link_rules.Members.{type_home, owner_of, args_of, is_named, base_at, type_count}
use Rattle.rules.specs.link_rules.Cycles.{listed, is_on_cycle, same_row, home_of, is_interface_at, is_interface, interfaces_at, base_rows, interface_rows, field_values}
use Rattle.rules.specs.link_rules.Faults.{first_of, is_cyclic_type, cyclic_type, cyclic_types, duplicate_assembly, cyclic_nesting, duplicate_member, link_fault}
use Rattle.rules.specs.link_rules.Linked.{assemblies, link_fault_of}
use Rattle.rules.specs.type_rules.Subtypes.{put_in, bases_of, interfaces_of, up_in, up, above, is_defined, is_under_object, leads_up}
use Rattle.base_laws.proofs.lemmas.type_laws.Within.{In, in_any, any_in, in_parts, in_listed, in_map, in_flat}
use Rattle.base_laws.proofs.lemmas.type_laws.Reaching.{Leads, Walks, walks, found, Led, led, cyclic}
use Rattle.base_laws.proofs.lemmas.type_laws.Bounded.{no_walk}
use Rattle.base_laws.proofs.lemmas.type_laws.Upwards.{out_is, ways, base_step, interface_step, step_interface, are_interfaces, homed, up_named, up_homed, homes}
use Rattle.base_laws.proofs.lemmas.type_laws.Rising.{Step, step, no_round}
use Rattle.base_laws.proofs.lemmas.type_laws.CoreRows.{place_front}
use Rattle.base_laws.proofs.lemmas.type_laws.CoreHomes.{object_home, object_class, object_no_interface, object_no_base, array_class, array_homed, no_base_cycle, no_interface_cycle}
use Rattle.base_laws.proofs.lemmas.type_laws.Places.{rows_decide, IsType, id_of, id_below, one_by_id, home_is_type, TypeAt, type_at, place_within, place_has}

-- ---- no fault

pub none_first : {A : Type 0} (o p : Option A) → or_else o p ≡ None → o ≡ None
none_first None p e = refl
none_first (Some x) p e = e

pub none_second : {A : Type 0} (o p : Option A) → or_else o p ≡ None → p ≡ None
none_second None p e = e
none_second (Some x) p e = cc

none_at : {A B : Type 0} (look : ℕ → A → Option B) (i : ℕ) (xs : List A) (k : ℕ) (x : A) → first_of look i xs ≡ None → slice_get xs k ≡ Some x → look (i + k) x ≡ None
none_at look i [] k x e is = cc
none_at look i (y ∷ xs) zero x e is =
    let same : y ≡ x = cc in
    let z : i + 0 ≡ i = omega arith in
    ap (λ (n : ℕ). look n x) z ∙ ap (look i) (sym same) ∙ none_first (look i y) (first_of look (suc i) xs) e
none_at look i (y ∷ xs) (suc k) x e is =
    let z : i + suc k ≡ suc i + k = omega arith in
    ap (λ (n : ℕ). look n x) z ∙ none_at look (suc i) xs k x (none_second (look i y) (first_of look (suc i) xs) e) is

pub none_of : {A B : Type 0} (look : ℕ → A → Option B) (xs : List A) (k : ℕ) (x : A) → first_of look 0 xs ≡ None → slice_get xs k ≡ Some x → look k x ≡ None
none_of look xs k x e is = let z : k ≡ 0 + k = omega arith in ap (λ (n : ℕ). look n x) z ∙ none_at look 0 xs k x e is

not_some : (b : Bool) (x : LinkError) → (if b then Some x else None) ≡ None → b ≡ false
not_some true x e = cc
not_some false x e = refl

-- ---- no definition leads to itself

module _ (inputs : List AsmRec) (sound : link_fault_of inputs ≡ None) where
  abbrev pub all : List AsmRec
  all = assemblies inputs

  abbrev names : List CoreTypeName
  names = missing_names (inputs ++ core_record ∷ [])

  no_cycle : cyclic_types all inputs ≡ None
  unfolding link_fault
  no_cycle =
      none_first (cyclic_types all inputs) (or_else (cyclic_nesting inputs) (duplicate_member all inputs))
      (none_second (duplicate_assembly inputs) (or_else (cyclic_types all inputs) (or_else (cyclic_nesting inputs) (duplicate_member all inputs))) sound)

  not_cyclic : (i k : ℕ) (rec : AsmRec) (row : TypeDefRow) → slice_get inputs i ≡ Some rec → slice_get rec.type_def k ≡ Some row → is_cyclic_type all (at_row i k) ≡ false
  unfolding cyclic_types
  not_cyclic i k rec row e f =
      not_some (is_cyclic_type all (at_row i k)) _
      (none_of (cyclic_type all i) rec.type_def k row (none_of (λ j (r : AsmRec). first_of (cyclic_type all j) 0 r.type_def) inputs i rec no_cycle e) f)

  record OnNone (at : RowAt) : Type 0 where
    base : is_on_cycle same_row (base_rows all) (type_count all) at ≡ false
    interface : is_on_cycle same_row (interface_rows all) (type_count all) at ≡ false

  on_none : (at : RowAt) → is_cyclic_type all at ≡ false → OnNone at
  unfolding is_cyclic_type
  on_none at h =
      let b = is_on_cycle same_row (base_rows all) (type_count all) at in
      let i = is_on_cycle same_row (interface_rows all) (type_count all) at in
      let v = is_on_cycle same_row (field_values all) (type_count all) at in
      let p = or_parts (b || i) v h in
      let q = or_parts b i p.0 in
      record { base = q.0; interface = q.1 }

  input_none : (x : RowAt) (rec : AsmRec) → slice_get inputs x.asm ≡ Some rec → x.row < length rec.type_def → OnNone x
  input_none x rec e lt = let row = place_has rec.type_def x.row lt in on_none x (not_cyclic x.asm x.row rec row.0 e row.1)

  never_on : (next : RowAt → List RowAt) (n : ℕ) (x : RowAt) → is_on_cycle same_row next (type_count all) x ≡ false → n ≤ type_count all → Leads next (suc n) x x → ⊥
  never_on next n x none le l = true≢false (sym (cyclic same_row rows_decide next (type_count all) n x le l) ∙ none)

  input_front : (a : ℕ) (rec : AsmRec) → slice_get inputs a ≡ Some rec → slice_get all a ≡ Some rec
  unfolding assemblies
  input_front a rec e = place_front inputs (core_with core_record names ∷ []) a rec e

  long : length all ≡ suc (length inputs)
  unfolding assemblies
  long = length-append inputs (core_with core_record names ∷ []) ∙ omega arith

  -- ---- the core library

  core_bases : (n : ℕ) (x : RowAt) → x.asm ≡ length inputs → Leads (base_rows all) (suc n) x x → ⊥
  unfolding assemblies
  core_bases n x e l = no_base_cycle inputs names n x e l

  core_interfaces : (n : ℕ) (x : RowAt) → x.asm ≡ length inputs → Leads (interface_rows all) (suc n) x x → ⊥
  unfolding assemblies
  core_interfaces n x e l = no_interface_cycle inputs names n x e l

  -- System.Object's definition
  abbrev pub top : RowAt
  top = at_row (length inputs) 1

  pub top_home : home_of all (expr.Prim 0x1c) ≡ Some top
  unfolding assemblies
  top_home = object_home inputs names

  pub top_class : is_interface_at all top ≡ false
  unfolding assemblies
  top_class = object_class inputs names

  pub top_base : base_at all top ≡ None
  unfolding assemblies
  top_base = object_no_base inputs names

  pub top_interfaces : interface_rows all top ≡ []
  unfolding assemblies
  top_interfaces = object_no_interface inputs names

  pub arrays : (x : TypeExpr) → is_interface all (expr.Array x) ≡ false
  unfolding assemblies
  arrays x = array_class inputs names x

  arrays_homed : (x : TypeExpr) → IsSome (home_of all (expr.Array x))
  unfolding assemblies
  arrays_homed x = array_homed inputs names x

  -- ---- no definition comes back to itself

  never_by : (n : ℕ) (x : RowAt) (at : TypeAt all x) → (x.asm < length inputs) ⊎ (length inputs ≤ x.asm) → n ≤ type_count all
      → (Leads (base_rows all) (suc n) x x → ⊥) × (Leads (interface_rows all) (suc n) x x → ⊥)
  never_by n x at (inl lt) le =
      let rec = place_has inputs x.asm lt in
      let same : Some at.rec ≡ Some rec.0 = sym at.there ∙ input_front x.asm rec.0 rec.1 in
      let is : at.rec ≡ rec.0 = cc in
      let below : x.row < length at.rec.type_def = at.below in
      let none = input_none x rec.0 rec.1 (subst (λ (r : AsmRec). x.row < length r.type_def) is below) in
      (never_on (base_rows all) n x none.base le, never_on (interface_rows all) n x none.interface le)
  never_by n x at (inr ge) le =
      let lt = place_within all x.asm at.rec at.there in
      let is : x.asm ≡ length inputs = omega (arith, long, lt, ge) in
      (core_bases n x is, core_interfaces n x is)

  pub never : (n : ℕ) (x : RowAt) → IsType all x → n ≤ type_count all → Leads (ways all top) (suc n) x x → ⊥
  never n x p le l =
      let v = never_by n x (type_at all x p) (cases_lt x.asm (length inputs)) le in
      no_round all top top_class top_base top_interfaces n x v.0 v.1 l

  home_type : (o : Option TypeId) (at : RowAt) → option_and_then (type_home all) o ≡ Some at → IsType all at
  home_type None at e = cc
  home_type (Some t) at e = home_is_type all t at e

  pub home_of_type : (e : TypeExpr) (at : RowAt) → home_of all e ≡ Some at → IsType all at
  home_of_type e at is = home_type (owner_of all e) at is

  pub top_type : IsType all top
  top_type = home_of_type (expr.Prim 0x1c) top top_home

  stay_by : (x y : RowAt) → Step all top top_class top_base top_interfaces x y → IsType all y
  stay_by x y (Step.of_base h) = let s = base_step all x y h in home_of_type s.0 y s.2
  stay_by x y (Step.of_interface h) = let s = interface_step all x y h in home_of_type s.0 y s.2
  stay_by x y (Step.of_top e) = subst (IsType all) (sym e) top_type

  stay : (x y : RowAt) → IsType all x → In y (ways all top x) → IsType all y
  stay x y p h = stay_by x y (step all top top_class top_base top_interfaces x y h)

  -- no way from a definition has as many steps as there are types
  pub no_long_way : (x : RowAt) → IsType all x → Walks (ways all top) (type_count all) x → ⊥
  no_long_way x p w = no_walk (ways all top) (IsType all) (id_of all) (type_count all) stay (id_below all) (one_by_id all) never x p w

  pub up_all_named : (e y : TypeExpr) → In y (up all e) → is_named y ≡ true
  up_all_named e y h = up_named all top top_home top_class arrays e y h

  -- what something stands above has a definition
  pub up_all_homed : (e y : TypeExpr) → In y (up all e) → IsSome (home_of all e)
  up_all_homed e y h = up_homed all top top_home top_class arrays e y arrays_homed h

  pub array_of_homed : (x : TypeExpr) → IsSome (home_of all (expr.Array x))
  array_of_homed x = arrays_homed x

  -- nothing stands above System.Object
  no_base_above : (y : TypeExpr) → In y (bases_of all (expr.Prim 0x1c)) → ⊥
  no_base_above y h =
      let none = ap (option_and_then (base_at all)) top_home ∙ top_base in
      subst (λ (o : Option TypeExpr). In y (put_in (expr.Prim 0x1c) (listed o))) none h

  no_interface_above : (y : TypeExpr) → In y (interfaces_of all (expr.Prim 0x1c)) → ⊥
  unfolding interfaces_of
  no_interface_above y h =
      let m = in_map (exprs.subst (args_of (expr.Prim 0x1c)) []) y (flat_map (interfaces_at all) (listed (home_of all (expr.Prim 0x1c)))) h in
      let b = in_flat (interfaces_at all) m.0 (listed (home_of all (expr.Prim 0x1c))) m.1 in
      let at : b.0 ≡ top = (let f = sym (in_listed b.0 (home_of all (expr.Prim 0x1c)) b.1) ∙ top_home in cc) in
      let i = homed all m.0 (are_interfaces all b.0 m.0 b.2) in
      let s = step_interface all b.0 i.0 m.0 b.2 i.1 in
      subst (λ (ys : List RowAt). In i.0 ys) top_interfaces (subst (λ (x : RowAt). In i.0 (interface_rows all x)) at s)

  none_above_either : (y : TypeExpr) → In y (bases_of all (expr.Prim 0x1c)) ⊎ In y (interfaces_of all (expr.Prim 0x1c)) → ⊥
  none_above_either y (inl h) = no_base_above y h
  none_above_either y (inr h) = no_interface_above y h

  pub none_above_object : (y : TypeExpr) → In y (up all (expr.Prim 0x1c)) → ⊥
  unfolding up
  none_above_object y h =
      none_above_either y
      (in_parts y (bases_of all (expr.Prim 0x1c)) (interfaces_of all (expr.Prim 0x1c))
      (subst (λ (x : TypeExpr-F TypeExpr). In y (up_in all (expr.Prim 0x1c) x)) (out_is (TypeExpr-F.Prim 0x1c) (expr.Prim 0x1c) (expr.rolls-Prim 0x1c)) h))

  no_way : (e : TypeExpr) → Walks (up all) (suc (suc (type_count all))) e → ⊥
  no_way e w =
      let h = homes all top top_home top_class arrays (type_count all) w.0 (up_all_named e w.0 w.1) w.2 in
      no_long_way h.home (home_of_type w.0 h.home h.is) h.walks

  -- ---- the search up

  up_by : (k : ℕ) (a b : TypeExpr) → Leads (up all) k a b → (suc (type_count all) < k) ⊎ (k ≤ suc (type_count all)) → list_any (same_expr b) (above all a) ≡ true
  unfolding above
  up_by k a b l (inl lt) = absurd (no_way a (walks (up all) (suc (suc (type_count all))) k a b lt l))
  up_by k a b l (inr le) =
      any_in same_expr same_decides b _ (found same_expr same_decides (up all) (suc (type_count all)) k a b (a ∷ []) le (inl refl) l)

  pub up_found : (k : ℕ) (a b : TypeExpr) → Leads (up all) k a b → leads_up all a b ≡ true
  up_found k a b l = or_right (is_under_object all a b) (list_any (same_expr b) (above all a)) (up_by k a b l (cases_lt (suc (type_count all)) k))

-- what the search finds is led to, in any world
pub record Way (recs : List AsmRec) (a b : TypeExpr) : Type 0 where
  pub steps : ℕ
  pub leads : Leads (up recs) steps a b

module _ (recs : List AsmRec) (a b : TypeExpr) where
  way_by : (l : Led same_expr same_decides (up recs) (a ∷ []) b) → In l.from (a ∷ []) → Way recs a b
  way_by l (inl e) = record { steps = l.steps; leads = subst (λ (x : TypeExpr). Leads (up recs) l.steps x b) e l.leads }
  way_by l (inr h) = absurd h

  pub way : list_any (same_expr b) (above recs a) ≡ true → Way recs a b
  unfolding above
  way e =
      let l = led same_expr same_decides (up recs) (suc (type_count recs)) (a ∷ []) b (in_any same_expr same_decides b _ e) in
      way_by l l.is

  -- what the search answers
  pub data Upward : Type 0 where
    under_object : IsTrue (is_defined recs a) → b ≡ expr.Prim 0x1c → Upward
    led_up : Way recs a b → Upward

  upward_by : (is_under_object recs a b ≡ true) ⊎ (list_any (same_expr b) (above recs a) ≡ true) → Upward
  upward_by (inl h) =
      let q = and_parts (is_defined recs a) (same_expr b (expr.Prim 0x1c)) h in
      Upward.under_object q.0 ((same_decides b (expr.Prim 0x1c)).0 q.1)
  upward_by (inr h) = Upward.led_up (way h)

  pub upward : leads_up recs a b ≡ true → Upward
  upward e = upward_by (or_cases (is_under_object recs a b) (list_any (same_expr b) (above recs a)) e)
