-- A fact that gives something is there: its item, or its type, is a row of the world.
use Rattle.std.proofs.Common.{◌≡◌, ◌<◌, ◌≤◌, ℕ, zero, suc, ◌+◌, ◌-◌, List, [], ◌∷◌, ◌++◌, length, Bool, true, false, nat_lt, nat_eq, Option, Some, None, refl, sym, ap, subst, ◌∙◌, arith}
use Rattle.std.specs.Prelude.{slice_get, IsTrue, ◌&&◌, ◌||◌, not, if◌then◌else◌}
use Rattle.std.specs.List.{Contains, flat_map}
use Rattle.std.specs.Option.{is_some, option_and_then}
use Rattle.std.proofs.lemmas.Bool.{lt-ltb, ltb-true, ltb-false, eqb-true}
use Rattle.std.proofs.lemmas.List.{append-nil}
use Rattle.il_base.specs.declared.ids.TypeId.{TypeId}
use Rattle.il_base.specs.declared.ids.Item.{Item}
use Rattle.il_base.specs.declared.ids.Item.TheVariants as item
use Rattle.il_base.specs.declared.world_model.types.TypeDefRow.{TypeDefRow}
use Rattle.il_base.specs.declared.world_model.record.AsmRec.{AsmRec}
use Rattle.il_base.specs.world_model.Core.{same_name}
use Rattle.il_base.specs.world_model.Worlds.{rows_before, types_in, type_id}
use Rattle.rules.specs.declared.link_rules.row_at.RowAt.{RowAt}
use Rattle.rules.specs.link_rules.Types.{at_row}
use Rattle.rules.specs.link_rules.Members.{home_from, type_home}
use Rattle.rules.specs.link_rules.Cycles.{listed}
use Rattle.rules.specs.type_rules.Rows.{each_from, is_module_type}
use Rattle.base_laws.proofs.lemmas.type_laws.Places.{home_at}
use Rattle.descriptor_file.specs.declared.root.Root.{Root}
use Rattle.rules.specs.mark_rules.Facts.{Fact}
use Rattle.rules.specs.mark_rules.Facts.Fact.{marked, instantiated, reflected, shown}
use Rattle.rules.specs.mark_rules.Places.{row_of}
use Rattle.rules.specs.mark_rules.Types.{rows_for}
use Rattle.rules.specs.mark_rules.Calls.{class_runs, class_fills, interface_runs, interface_fills}
use Rattle.rules.specs.mark_rules.Attributes.{attribute_needs}
use Rattle.rules.specs.mark_rules.Dependencies.{dependency_needs}
use Rattle.rules.specs.mark_rules.Roots.{slashed_name, type_called, first_row, descriptor_type, input_named, root_members, root_type, no_type, waits_for, waiting_facts}
use Rattle.rules.specs.mark_rules.Shown.{item_shows, encloser_shown}
use Rattle.rules.specs.mark_rules.FlowMarks.{flow_marks}
use Rattle.rules.specs.mark_rules.ReflectedShown.{reflected_shows}
use Rattle.rules.specs.site_rules.Items.{item_sites}
use Rattle.rules.specs.mark_rules.Marking.{row_needs, item_needs, one, of_rows, two, of_three, three}
use Rattle.mark_numbers.specs.Numbers.{type_total, is_there}

pub none_in : {A : Type 0} (f : A) → Contains [] f → ⊥
none_in f (k, inside, e) = omega arith

and_then_some : {A B : Type 0} (f : A → Option B) (o : Option A) (y : B) → option_and_then f o ≡ Some y → (x : A) × (o ≡ Some x) × (f x ≡ Some y)
and_then_some f None y e = absurd (cc)
and_then_some f (Some x) y e = (x, refl, e)

-- ---- a type that has an id

home_test : (count : AsmRec → ℕ) (rec : AsmRec) (recs : List AsmRec) (a n : ℕ) (at : RowAt) (b : Bool) → nat_lt n (count rec) ≡ b
    → (home_from count (suc a) recs (n - count rec) ≡ Some at → n - count rec < rows_before count recs (length recs))
    → (if b then Some (at_row a n) else home_from count (suc a) recs (n - count rec)) ≡ Some at → n < count rec + rows_before count recs (length recs)
home_test count rec recs a n at true t more h = let lt : n < count rec = ltb-true n (count rec) t in omega (arith, lt)
home_test count rec recs a n at false t more h =
    let ge : count rec ≤ n = ltb-false n (count rec) t in
    let below = more h in
    omega (arith, ge, below)

home_below : (count : AsmRec → ℕ) (recs : List AsmRec) (a n : ℕ) (at : RowAt) → home_from count a recs n ≡ Some at → n < rows_before count recs (length recs)
unfolding home_from rows_before
home_below count [] a n at e = absurd (cc)
home_below count (rec ∷ recs) a n at e = home_test count rec recs a n at (nat_lt n (count rec)) refl (home_below count recs (suc a) (n - count rec) at) e

-- ---- a type that a descriptor names is a row

abbrev IsIn : ℕ → ℕ → RowAt → Type 0
IsIn a n at = (at.asm ≡ a) × (at.row < n)

called_test : (a i n : ℕ) (at : RowAt) (later : List RowAt) (b : Bool) → (first_row later ≡ Some at → IsIn a (suc i + n) at)
    → first_row ((if b then at_row a i ∷ [] else []) ++ later) ≡ Some at → IsIn a (i + suc n) at
called_test a i n at later true more h = let same : at_row a i ≡ at = cc in subst (IsIn a (i + suc n)) same (refl, omega arith)
called_test a i n at later false more h = let r = more h in (r.0, omega (arith, r.1))

called_first : (a : ℕ) (rec : AsmRec) (name : List ℕ) (ts : List TypeDefRow) (i : ℕ) (at : RowAt) → first_row (each_from (type_called a rec name) i ts) ≡ Some at → IsIn a (i + length ts) at
called_first a rec name [] i at e = absurd (cc)
called_first a rec name (t ∷ ts) i at e =
    called_test a i (length ts) at (each_from (type_called a rec name) (suc i) ts) (not (is_module_type i t) && same_name (slashed_name rec i) name) (called_first a rec name ts (suc i) at) e

module _ (recs : List AsmRec) where
  record IsRow (at : RowAt) : Type 0 where
    found : AsmRec
    here : slice_get recs at.asm ≡ Some found
    below : at.row < length found.type_def

  called_row : (a : ℕ) (name : List ℕ) (at : RowAt) (o : Option AsmRec) → slice_get recs a ≡ o
      → first_row (flat_map (λ (rec : AsmRec). each_from (type_called a rec name) 0 rec.type_def) (listed o)) ≡ Some at → IsRow at
  called_row a name at None s e = absurd (cc)
  called_row a name at (Some rec) s e =
      let r = called_first a rec name rec.type_def 0 at (ap first_row (sym (append-nil (each_from (type_called a rec name) 0 rec.type_def))) ∙ e) in
      record { found = rec; here = ap (slice_get recs) r.0 ∙ s; below = omega (arith, r.1) }

  descriptor_row : (a : ℕ) (name : List ℕ) (at : RowAt) → descriptor_type recs a name ≡ Some at → IsRow at
  unfolding descriptor_type
  descriptor_row a name at e = called_row a name at (slice_get recs a) refl e

  root_row : (r : Root) (at : RowAt) → root_type recs r ≡ Some at → IsRow at
  root_row r at e =
      let outer = and_then_some (λ a. option_and_then (descriptor_type recs a) r.typ) (input_named recs r.asm) at e in
      let inner = and_then_some (descriptor_type recs outer.0) r.typ at outer.2 in
      descriptor_row outer.0 inner.0 at inner.2

  -- so an item that is no row waits for nothing
  no_home : (t : TypeId) (at : RowAt) → type_home recs t ≡ None → IsRow at → nat_eq (type_id recs at.asm at.row).0 t.0 ≡ true → ⊥
  no_home t at none is same =
      let found = home_at recs 0 at.asm at.row is.found is.here is.below in
      let id : rows_before types_in recs at.asm + at.row ≡ t.0 = eqb-true (rows_before types_in recs at.asm + at.row) t.0 same in
      let here : type_home recs t ≡ Some (at_row (0 + at.asm) at.row) = ap (λ (n : ℕ). home_from types_in 0 recs n) (sym id) ∙ found in
      cc

  type_waits : (t : TypeId) (r : Root) → type_home recs t ≡ None → (b : Bool) (o : Option RowAt) → root_type recs r ≡ o
      → (if b then [] else flat_map (λ (at : RowAt). if nat_eq (type_id recs at.asm at.row).0 t.0 then root_members recs at r else []) (listed o)) ≡ []
  type_waits t r none true o e = refl
  type_waits t r none false None e = refl
  type_waits t r none false (Some at) e = by_test (nat_eq (type_id recs at.asm at.row).0 t.0) refl
    where
      by_test : (c : Bool) → nat_eq (type_id recs at.asm at.row).0 t.0 ≡ c → (if c then root_members recs at r else []) ++ [] ≡ []
      by_test true s = absurd (no_home t at none (root_row r at e) s)
      by_test false s = refl

  waits_none : (i : Item) (r : Root) → row_of recs i ≡ None → waits_for recs i r ≡ []
  unfolding row_of
  waits_none (item.Asm a) r e = refl
  waits_none (item.Typ t) r e = type_waits t r e (no_type r || r.required) (root_type recs r) refl
  waits_none (item.Method m) r e = refl
  waits_none (item.Field f) r e = refl
  waits_none (item.Prop p) r e = refl
  waits_none (item.Event x) r e = refl
  waits_none (item.Impl x) r e = refl

  all_wait_none : (roots : List Root) (i : Item) → row_of recs i ≡ None → flat_map (waits_for recs i) roots ≡ []
  all_wait_none [] i e = refl
  all_wait_none (r ∷ roots) i e = rw (waits_none i r e) (all_wait_none roots i e)

  -- ---- one fact

  nothing_needed : (roots : List Root) (i : Item) → row_of recs i ≡ None → item_needs recs roots i ≡ []
  unfolding attribute_needs dependency_needs waiting_facts item_shows
  nothing_needed roots i e = rw (e, all_wait_none roots i e) refl

  nothing_flows : (i : Item) → row_of recs i ≡ None → flow_marks recs i ≡ []
  unfolding flow_marks item_sites
  nothing_flows i e = rw e refl

  nothing_brought : (roots : List Root) (i : Item) → row_of recs i ≡ None → item_needs recs roots i ++ flow_marks recs i ≡ []
  nothing_brought roots i e = ap (λ (fs : List Fact). fs ++ flow_marks recs i) (nothing_needed roots i e) ∙ nothing_flows i e

  nothing_reflected : (i : Item) → row_of recs i ≡ None → reflected_shows recs i ≡ []
  unfolding reflected_shows
  nothing_reflected i e = rw e refl

  nothing_shown : (t : TypeId) → type_home recs t ≡ None → encloser_shown recs t ≡ []
  unfolding encloser_shown
  nothing_shown t e = rw e refl

  brought_there : (roots : List Root) (i : Item) (f : Fact) (o : Option RowAt) → row_of recs i ≡ o → Contains (item_needs recs roots i ++ flow_marks recs i) f → is_some (row_of recs i) ≡ true
  brought_there roots i f None e h = absurd (none_in f (subst (λ (fs : List Fact). Contains fs f) (nothing_brought roots i e) h))
  brought_there roots i f (Some at) e h = ap is_some e

  reflected_there : (i : Item) (f : Fact) (o : Option RowAt) → row_of recs i ≡ o → Contains (reflected_shows recs i) f → is_some (row_of recs i) ≡ true
  reflected_there i f None e h = absurd (none_in f (subst (λ (fs : List Fact). Contains fs f) (nothing_reflected i e) h))
  reflected_there i f (Some at) e h = ap is_some e

  type_there : (t : TypeId) (at : RowAt) → type_home recs t ≡ Some at → nat_lt t.0 (type_total recs) ≡ true
  type_there t at e = lt-ltb t.0 (type_total recs) (home_below types_in recs 0 t.0 at e)

  shown_there : (t : TypeId) (f : Fact) (o : Option RowAt) → type_home recs t ≡ o → Contains (encloser_shown recs t) f → nat_lt t.0 (type_total recs) ≡ true
  shown_there t f None e h = absurd (none_in f (subst (λ (fs : List Fact). Contains fs f) (nothing_shown t e) h))
  shown_there t f (Some at) e h = type_there t at e

  pub one_there : (roots : List Root) (a f : Fact) → Contains (one recs roots a) f → IsTrue (is_there recs a)
  unfolding one is_there
  one_there roots (marked i) f h = brought_there roots i f (row_of recs i) refl h
  one_there roots (instantiated t) f h = absurd (none_in f h)
  one_there roots (reflected i) f h = reflected_there i f (row_of recs i) refl h
  one_there roots (shown t) f h = shown_there t f (type_home recs t) refl h

  -- ---- two facts

  rows_there : (g : RowAt → RowAt → List Fact) (x y : Option RowAt) (f : Fact) → Contains (of_rows recs g x y) f → (is_some x ≡ true) × (is_some y ≡ true)
  rows_there g None y f h = absurd (none_in f h)
  rows_there g (Some x) None f h = absurd (none_in f h)
  rows_there g (Some x) (Some y) f h = (refl, refl)

  from_some : (t : TypeId) (o : Option RowAt) → type_home recs t ≡ o → is_some o ≡ true → nat_lt t.0 (type_total recs) ≡ true
  from_some t None e h = absurd (cc)
  from_some t (Some at) e h = type_there t at e

  pub two_there : (a b f : Fact) → Contains (two recs a b) f → IsTrue (is_there recs a) × IsTrue (is_there recs b)
  unfolding two is_there row_of
  two_there (marked (item.Typ t)) (marked (item.Typ j)) f h = let r = rows_there (rows_for recs) (type_home recs t) (type_home recs j) f h in (r.0, r.1)
  two_there (marked (item.Typ t)) (marked (item.Method m)) f h = let r = rows_there (class_fills recs) (type_home recs t) (row_of recs (item.Method m)) f h in (r.0, r.1)
  two_there (marked (item.Typ t)) (marked (item.Asm x)) f h = absurd (none_in f h)
  two_there (marked (item.Typ t)) (marked (item.Field x)) f h = absurd (none_in f h)
  two_there (marked (item.Typ t)) (marked (item.Prop x)) f h = absurd (none_in f h)
  two_there (marked (item.Typ t)) (marked (item.Event x)) f h = absurd (none_in f h)
  two_there (marked (item.Typ t)) (marked (item.Impl x)) f h = absurd (none_in f h)
  two_there (marked (item.Typ t)) (instantiated u) f h = absurd (none_in f h)
  two_there (marked (item.Typ t)) (reflected x) f h = absurd (none_in f h)
  two_there (marked (item.Typ t)) (shown u) f h = absurd (none_in f h)
  two_there (marked (item.Asm x)) b f h = absurd (none_in f h)
  two_there (marked (item.Method x)) b f h = absurd (none_in f h)
  two_there (marked (item.Field x)) b f h = absurd (none_in f h)
  two_there (marked (item.Prop x)) b f h = absurd (none_in f h)
  two_there (marked (item.Event x)) b f h = absurd (none_in f h)
  two_there (marked (item.Impl x)) b f h = absurd (none_in f h)
  two_there (instantiated t) (marked (item.Method m)) f h =
      let r = rows_there (class_runs recs) (type_home recs t) (row_of recs (item.Method m)) f h in (from_some t (type_home recs t) refl r.0, r.1)
  two_there (instantiated t) (marked (item.Typ x)) f h = absurd (none_in f h)
  two_there (instantiated t) (marked (item.Asm x)) f h = absurd (none_in f h)
  two_there (instantiated t) (marked (item.Field x)) f h = absurd (none_in f h)
  two_there (instantiated t) (marked (item.Prop x)) f h = absurd (none_in f h)
  two_there (instantiated t) (marked (item.Event x)) f h = absurd (none_in f h)
  two_there (instantiated t) (marked (item.Impl x)) f h = absurd (none_in f h)
  two_there (instantiated t) (instantiated u) f h = absurd (none_in f h)
  two_there (instantiated t) (reflected x) f h = absurd (none_in f h)
  two_there (instantiated t) (shown u) f h = absurd (none_in f h)
  two_there (reflected x) b f h = absurd (none_in f h)
  two_there (shown t) b f h = absurd (none_in f h)

  -- ---- three facts

  three_rows : (g : RowAt → RowAt → RowAt → List Fact) (x y z : Option RowAt) (f : Fact) → Contains (of_three recs g x y z) f → (is_some x ≡ true) × (is_some y ≡ true) × (is_some z ≡ true)
  three_rows g None y z f h = absurd (none_in f h)
  three_rows g (Some x) None z f h = absurd (none_in f h)
  three_rows g (Some x) (Some y) None f h = absurd (none_in f h)
  three_rows g (Some x) (Some y) (Some z) f h = (refl, refl, refl)

  Three : Fact → Fact → Fact → Type 0
  Three a b c = IsTrue (is_there recs a) × IsTrue (is_there recs b) × IsTrue (is_there recs c)

  made_three : (t : TypeId) (b c f : Fact) → Contains (three recs (instantiated t) b c) f → Three (instantiated t) b c
  unfolding three is_there row_of Three
  made_three t (marked (item.Method m)) (marked (item.Impl r)) f h =
      let x = three_rows (interface_runs recs) (type_home recs t) (row_of recs (item.Method m)) (row_of recs (item.Impl r)) f h in (from_some t (type_home recs t) refl x.0, x.1, x.2)
  made_three t (marked (item.Method m)) (marked (item.Asm r)) f h = absurd (none_in f h)
  made_three t (marked (item.Method m)) (marked (item.Typ r)) f h = absurd (none_in f h)
  made_three t (marked (item.Method m)) (marked (item.Method r)) f h = absurd (none_in f h)
  made_three t (marked (item.Method m)) (marked (item.Field r)) f h = absurd (none_in f h)
  made_three t (marked (item.Method m)) (marked (item.Prop r)) f h = absurd (none_in f h)
  made_three t (marked (item.Method m)) (marked (item.Event r)) f h = absurd (none_in f h)
  made_three t (marked (item.Method m)) (instantiated r) f h = absurd (none_in f h)
  made_three t (marked (item.Method m)) (reflected r) f h = absurd (none_in f h)
  made_three t (marked (item.Method m)) (shown r) f h = absurd (none_in f h)
  made_three t (marked (item.Asm x)) c f h = absurd (none_in f h)
  made_three t (marked (item.Typ x)) c f h = absurd (none_in f h)
  made_three t (marked (item.Field x)) c f h = absurd (none_in f h)
  made_three t (marked (item.Prop x)) c f h = absurd (none_in f h)
  made_three t (marked (item.Event x)) c f h = absurd (none_in f h)
  made_three t (marked (item.Impl x)) c f h = absurd (none_in f h)
  made_three t (instantiated x) c f h = absurd (none_in f h)
  made_three t (reflected x) c f h = absurd (none_in f h)
  made_three t (shown x) c f h = absurd (none_in f h)

  type_three : (t : TypeId) (b c f : Fact) → Contains (three recs (marked (item.Typ t)) b c) f → Three (marked (item.Typ t)) b c
  unfolding three is_there row_of Three
  type_three t (marked (item.Method m)) (marked (item.Impl r)) f h = three_rows (interface_fills recs) (type_home recs t) (row_of recs (item.Method m)) (row_of recs (item.Impl r)) f h
  type_three t (marked (item.Method m)) (marked (item.Asm r)) f h = absurd (none_in f h)
  type_three t (marked (item.Method m)) (marked (item.Typ r)) f h = absurd (none_in f h)
  type_three t (marked (item.Method m)) (marked (item.Method r)) f h = absurd (none_in f h)
  type_three t (marked (item.Method m)) (marked (item.Field r)) f h = absurd (none_in f h)
  type_three t (marked (item.Method m)) (marked (item.Prop r)) f h = absurd (none_in f h)
  type_three t (marked (item.Method m)) (marked (item.Event r)) f h = absurd (none_in f h)
  type_three t (marked (item.Method m)) (instantiated r) f h = absurd (none_in f h)
  type_three t (marked (item.Method m)) (reflected r) f h = absurd (none_in f h)
  type_three t (marked (item.Method m)) (shown r) f h = absurd (none_in f h)
  type_three t (marked (item.Asm x)) c f h = absurd (none_in f h)
  type_three t (marked (item.Typ x)) c f h = absurd (none_in f h)
  type_three t (marked (item.Field x)) c f h = absurd (none_in f h)
  type_three t (marked (item.Prop x)) c f h = absurd (none_in f h)
  type_three t (marked (item.Event x)) c f h = absurd (none_in f h)
  type_three t (marked (item.Impl x)) c f h = absurd (none_in f h)
  type_three t (instantiated x) c f h = absurd (none_in f h)
  type_three t (reflected x) c f h = absurd (none_in f h)
  type_three t (shown x) c f h = absurd (none_in f h)

  pub three_there : (a b c f : Fact) → Contains (three recs a b c) f → IsTrue (is_there recs a) × IsTrue (is_there recs b) × IsTrue (is_there recs c)
  unfolding three Three
  three_there (marked (item.Typ t)) b c f h = type_three t b c f h
  three_there (marked (item.Asm x)) b c f h = absurd (none_in f h)
  three_there (marked (item.Method x)) b c f h = absurd (none_in f h)
  three_there (marked (item.Field x)) b c f h = absurd (none_in f h)
  three_there (marked (item.Prop x)) b c f h = absurd (none_in f h)
  three_there (marked (item.Event x)) b c f h = absurd (none_in f h)
  three_there (marked (item.Impl x)) b c f h = absurd (none_in f h)
  three_there (instantiated t) b c f h = made_three t b c f h
  three_there (reflected x) b c f h = absurd (none_in f h)
  three_there (shown t) b c f h = absurd (none_in f h)
