-- What a fact gives with the known items that are tried is what it gives with all that are known.
use Rattle.std.proofs.Common.{◌≡◌, ℕ, suc, ◌+◌, List, [], ◌∷◌, ◌++◌, Bool, true, inl, inr, Option, Some, refl, sym, ap, subst, ◌∙◌}
use Rattle.std.specs.Prelude.{◌==◌, if◌then◌else◌}
use Rattle.std.specs.List.{Contains, flat_map, list_any}
use Rattle.std.proofs.lemmas.Bool.{and_parts, and_from}
use Rattle.std.proofs.lemmas.List.Elements.{Contains-append_left, Contains-append_right, Contains-append_cases}
use Rattle.il_base.specs.declared.ids.TypeId.{TypeId}
use Rattle.il_base.specs.declared.ids.MethodId.{MethodId}
use Rattle.il_base.specs.declared.ids.ImplId.{ImplId}
use Rattle.il_base.specs.declared.ids.Item.{Item}
use Rattle.il_base.specs.declared.ids.Item.TheVariants as item
use Rattle.il_base.specs.declared.table.TheConstants.{TYPE_DEF}
use Rattle.il_base.specs.declared.world_model.expr.TypeExpr.{TypeExpr}
use Rattle.il_base.specs.declared.world_model.types.InterfaceImplRow.{InterfaceImplRow}
use Rattle.il_base.specs.declared.world_model.record.AsmRec.{AsmRec}
use Rattle.il_base.specs.world_model.Tokens.{token_of}
use Rattle.il_base.specs.world_model.Worlds.{types_in}
use Rattle.rules.specs.declared.link_rules.row_at.RowAt.{RowAt}
use Rattle.rules.specs.link_rules.Types.{at_row}
use Rattle.rules.specs.link_rules.Signatures.{token_type}
use Rattle.rules.specs.link_rules.Members.{good_type, type_home, methods_in}
use Rattle.rules.specs.link_rules.Cycles.{listed, same_row, home_of, is_interface}
use Rattle.rules.specs.type_rules.Rows.{each_row, rec_at}
use Rattle.rules.specs.mark_rules.Facts.{Fact}
use Rattle.rules.specs.mark_rules.Facts.Fact.{marked, instantiated, reflected, shown}
use Rattle.rules.specs.mark_rules.Places.{row_of, type_item, method_item, impl_item, impls_in}
use Rattle.rules.specs.mark_rules.Naming.{of_expr}
use Rattle.rules.specs.mark_rules.Types.{implies, implies_one, row_for, rows_for}
use Rattle.rules.specs.mark_rules.Calls.{class_runs, class_fills, interface_runs, interface_fills}
use Rattle.rules.specs.mark_rules.Marking.{of_rows, two, of_three, three}
use Rattle.base_laws.specs.known_laws.Known.{is_known_at, is_known_type, implies_known, named_known, row_known, with_interfaces, with_slots, with_rows, type_with, made_with, fact_with}
use Rattle.base_laws.specs.known_laws.Laws.{GivesWith, TriesEnough}
use Rattle.base_laws.specs.known_laws.Laws.GivesWith.{with_one, with_two}
use Rattle.base_laws.proofs.lemmas.known_laws.Lists.{none_in, from_option, to_option, from_if, to_if, from_any, to_any, from_each, to_each}
use Rattle.base_laws.proofs.lemmas.known_laws.Rows.{same_is, is_same, number_is, known_parts, known_from}
use Rattle.base_laws.proofs.lemmas.known_laws.Slots.{runs_tried, slots_from, slots_to}
use Rattle.base_laws.proofs.lemmas.known_laws.Interfaces.{runs_by, fills_by, rows_from, rows_to}
use Rattle.base_laws.proofs.lemmas.known_laws.Abstract.{fills_tried}

module _ (recs : List AsmRec) (known : Item → Bool) where
  -- ---- interface rows of a type

  record Names (t : RowAt) (f : Fact) : Type 0 where
    interface : RowAt
    is_known : is_known_type recs known interface ≡ true
    given : Contains (rows_for recs t interface) f

  implies_from : (e : TypeExpr) → implies_known recs known e ≡ true → (j : RowAt) × (is_known_type recs known j ≡ true) × (implies_one recs e j ≡ true)
  implies_from e h =
      let p = and_parts (is_interface recs e) (list_any (λ (at : RowAt). list_any (is_known_type recs known) (implies recs at)) (listed (home_of recs e))) h in
      let at = from_any (λ (at : RowAt). list_any (is_known_type recs known) (implies recs at)) (listed (home_of recs e)) p.1 in
      let j = from_any (is_known_type recs known) (implies recs at.0) at.2 in (
        j.0,
        j.2,
        and_from (is_interface recs e) (list_any (λ (at : RowAt). list_any (same_row j.0) (implies recs at)) (listed (home_of recs e))) p.0
            (to_any (λ (at : RowAt). list_any (same_row j.0) (implies recs at)) (listed (home_of recs e)) at.0 at.1 (to_any (same_row j.0) (implies recs at.0) j.0 j.1 (is_same j.0 j.0 refl))),
      )

  implies_to : (e : TypeExpr) (j : RowAt) → is_known_type recs known j ≡ true → implies_one recs e j ≡ true → implies_known recs known e ≡ true
  implies_to e j k h =
      let p = and_parts (is_interface recs e) (list_any (λ (at : RowAt). list_any (same_row j) (implies recs at)) (listed (home_of recs e))) h in
      let at = from_any (λ (at : RowAt). list_any (same_row j) (implies recs at)) (listed (home_of recs e)) p.1 in
      let s = from_any (same_row j) (implies recs at.0) at.2 in
      let same : j ≡ s.0 = same_is j s.0 s.2 in
      let there : is_known_type recs known s.0 ≡ true = subst (λ (x : RowAt). is_known_type recs known x ≡ true) same k in
      and_from (is_interface recs e) (list_any (λ (at : RowAt). list_any (is_known_type recs known) (implies recs at)) (listed (home_of recs e))) p.0
      (to_any (λ (at : RowAt). list_any (is_known_type recs known) (implies recs at)) (listed (home_of recs e)) at.0 at.1 (to_any (is_known_type recs known) (implies recs at.0) s.0 s.1 there))

  names_from : (t : RowAt) (f : Fact) → Contains (with_interfaces recs known t) f → Names t f
  unfolding with_interfaces rows_for
  names_from t f h =
      let r = from_option (λ (rec : AsmRec). each_row (row_known recs known t rec) rec.interface_impl) (rec_at recs t) f h in
      let rec : AsmRec = r.0 in
      let n = from_each (row_known recs known t rec) 0 rec.interface_impl f r.2 in
      let row : InterfaceImplRow = n.item in
      let k : ℕ = 0 + n.place in
      let c = from_if (row.class == token_of TYPE_DEF (suc t.row)) (flat_map (named_known recs known (at_row t.asm k)) (listed (good_type (token_type recs t.asm rec row.interface)))) f n.inside in
      let e = from_option (named_known recs known (at_row t.asm k)) (good_type (token_type recs t.asm rec row.interface)) f c.1 in
      let i = from_if (implies_known recs known e.0) (marked (impl_item recs (at_row t.asm k)) ∷ of_expr e.0) f e.2 in
      let j = implies_from e.0 i.0 in
      record {
        interface = j.0;
        is_known = j.1;
        given = to_option (λ (rec : AsmRec). each_row (row_for recs t j.0 rec) rec.interface_impl) (rec_at recs t) rec f r.1
            (to_each (row_for recs t j.0 rec) 0 rec.interface_impl f (record {
              place = n.place;
              item = row;
              there = n.there;
              inside = to_if (row.class == token_of TYPE_DEF (suc t.row)) _ f c.0
                  (to_option (λ e. if implies_one recs e j.0 then marked (impl_item recs (at_row t.asm k)) ∷ of_expr e else []) (good_type (token_type recs t.asm rec row.interface)) e.0 f e.1
                  (to_if (implies_one recs e.0 j.0) (marked (impl_item recs (at_row t.asm k)) ∷ of_expr e.0) f j.2 i.1));
            }));
      }

  names_to : (t j : RowAt) (f : Fact) → is_known_type recs known j ≡ true → Contains (rows_for recs t j) f → Contains (with_interfaces recs known t) f
  unfolding with_interfaces rows_for
  names_to t j f known_j h =
      let r = from_option (λ (rec : AsmRec). each_row (row_for recs t j rec) rec.interface_impl) (rec_at recs t) f h in
      let rec : AsmRec = r.0 in
      let n = from_each (row_for recs t j rec) 0 rec.interface_impl f r.2 in
      let row : InterfaceImplRow = n.item in
      let k : ℕ = 0 + n.place in
      let c = from_if (row.class == token_of TYPE_DEF (suc t.row)) (flat_map (λ e. if implies_one recs e j then marked (impl_item recs (at_row t.asm k)) ∷ of_expr e else []) (listed (good_type (token_type recs t.asm rec row.interface)))) f n.inside in
      let e = from_option (λ e. if implies_one recs e j then marked (impl_item recs (at_row t.asm k)) ∷ of_expr e else []) (good_type (token_type recs t.asm rec row.interface)) f c.1 in
      let i = from_if (implies_one recs e.0 j) (marked (impl_item recs (at_row t.asm k)) ∷ of_expr e.0) f e.2 in
      to_option (λ (rec : AsmRec). each_row (row_known recs known t rec) rec.interface_impl) (rec_at recs t) rec f r.1
      (to_each (row_known recs known t rec) 0 rec.interface_impl f (record {
        place = n.place;
        item = row;
        there = n.there;
        inside = to_if (row.class == token_of TYPE_DEF (suc t.row)) _ f c.0
            (to_option (named_known recs known (at_row t.asm k)) (good_type (token_type recs t.asm rec row.interface)) e.0 f e.1
            (to_if (implies_known recs known e.0) (marked (impl_item recs (at_row t.asm k)) ∷ of_expr e.0) f (implies_to e.0 j known_j i.0) i.1));
      }))

  -- ---- rules over rows

  from_rows : (g : RowAt → RowAt → List Fact) (a b : Option RowAt) (f : Fact) → Contains (of_rows recs g a b) f → (x : RowAt) × (y : RowAt) × (a ≡ Some x) × (b ≡ Some y) × Contains (g x y) f
  from_rows g a b f h =
      let x = from_option (λ x. flat_map (g x) (listed b)) a f h in
      let y = from_option (g x.0) b f x.2 in
      (x.0, y.0, x.1, y.1, y.2)

  to_rows : (g : RowAt → RowAt → List Fact) (a b : Option RowAt) (x y : RowAt) (f : Fact) → a ≡ Some x → b ≡ Some y → Contains (g x y) f → Contains (of_rows recs g a b) f
  to_rows g a b x y f p q h = to_option (λ x. flat_map (g x) (listed b)) a x f p (to_option (g x) b y f q h)

  record ThreeRows (g : RowAt → RowAt → RowAt → List Fact) (a b c : Option RowAt) (f : Fact) : Type 0 where
    x : RowAt
    y : RowAt
    z : RowAt
    first : a ≡ Some x
    second : b ≡ Some y
    third : c ≡ Some z
    given : Contains (g x y z) f

  from_three : (g : RowAt → RowAt → RowAt → List Fact) (a b c : Option RowAt) (f : Fact) → Contains (of_three recs g a b c) f → ThreeRows g a b c f
  from_three g a b c f h =
      let x = from_option (λ x. flat_map (λ y. flat_map (g x y) (listed c)) (listed b)) a f h in
      let y = from_option (λ y. flat_map (g x.0 y) (listed c)) b f x.2 in
      let z = from_option (g x.0 y.0) c f y.2 in
      record { x = x.0; y = y.0; z = z.0; first = x.1; second = y.1; third = z.1; given = z.2 }

  to_three : (g : RowAt → RowAt → RowAt → List Fact) (a b c : Option RowAt) (x y z : RowAt) (f : Fact) → a ≡ Some x → b ≡ Some y → c ≡ Some z → Contains (g x y z) f → Contains (of_three recs g a b c) f
  to_three g a b c x y z f p q r h =
      to_option (λ x. flat_map (λ y. flat_map (g x y) (listed c)) (listed b)) a x f p (to_option (λ y. flat_map (g x y) (listed c)) b y f q (to_option (g x y) c z f r h))

  -- ---- a known item is the one of its row

  type_known : (j : TypeId) (y : RowAt) → type_home recs j ≡ Some y → known (item.Typ j) ≡ true → is_known_type recs known y ≡ true
  unfolding row_of
  type_known j y home k =
      let same : type_item recs y ≡ item.Typ j = ap (λ (n : ℕ). item.Typ (record { 0 = n })) (number_is types_in recs j.0 y home) in
      known_from recs known (type_item recs y) y (ap (row_of recs) same ∙ home) (ap known same ∙ k)

  method_known : (m : MethodId) (y : RowAt) → row_of recs (item.Method m) ≡ Some y → known (item.Method m) ≡ true → is_known_at recs known (method_item recs y) y ≡ true
  unfolding row_of
  method_known m y home k =
      let same : method_item recs y ≡ item.Method m = ap (λ (n : ℕ). item.Method (record { 0 = n })) (number_is methods_in recs m.0 y home) in
      known_from recs known (method_item recs y) y (ap (row_of recs) same ∙ home) (ap known same ∙ k)

  impl_known : (r : ImplId) (y : RowAt) → row_of recs (item.Impl r) ≡ Some y → known (item.Impl r) ≡ true → is_known_at recs known (impl_item recs y) y ≡ true
  unfolding row_of
  impl_known r y home k =
      let same : impl_item recs y ≡ item.Impl r = ap (λ (n : ℕ). item.Impl (record { 0 = n })) (number_is impls_in recs r.0 y home) in
      known_from recs known (impl_item recs y) y (ap (row_of recs) same ∙ home) (ap known same ∙ k)

  -- ---- what is tried is given

  abbrev Given : Fact → Fact → Type 0
  Given a f = GivesWith recs known a f

  module _ (t : TypeId) (x : RowAt) (home : type_home recs t ≡ Some x) (f : Fact) where
    by_interface : Contains (with_interfaces recs known x) f → Given (marked (item.Typ t)) f
    unfolding two row_of
    by_interface h =
        let n = names_from x f h in
        let k = known_parts recs known (type_item recs n.interface) n.interface n.is_known in
        with_one (type_item recs n.interface) f k.1 (to_rows (rows_for recs) (type_home recs t) (row_of recs (type_item recs n.interface)) x n.interface f home k.0 n.given)

    by_fill : Contains (with_slots recs known (class_fills recs) x) f → Given (marked (item.Typ t)) f
    unfolding two
    by_fill h =
        let b = slots_from recs known (class_fills recs) x f h in
        let k = known_parts recs known (method_item recs b.0) b.0 b.1 in
        with_one (method_item recs b.0) f k.1 (to_rows (class_fills recs) (type_home recs t) (row_of recs (method_item recs b.0)) x b.0 f home k.0 b.2)

    by_run : Contains (with_slots recs known (class_runs recs) x) f → Given (instantiated t) f
    unfolding two
    by_run h =
        let b = slots_from recs known (class_runs recs) x f h in
        let k = known_parts recs known (method_item recs b.0) b.0 b.1 in
        with_one (method_item recs b.0) f k.1 (to_rows (class_runs recs) (type_home recs t) (row_of recs (method_item recs b.0)) x b.0 f home k.0 b.2)

    by_row_fill : Contains (with_rows recs known (interface_fills recs) x) f → Given (marked (item.Typ t)) f
    unfolding three
    by_row_fill h =
        let g = rows_from recs known (interface_fills recs) x f h in
        let b = known_parts recs known (method_item recs g.slot) g.slot g.slot_known in
        let r = known_parts recs known (impl_item recs g.row) g.row g.row_known in
        with_two (method_item recs g.slot) (impl_item recs g.row) f b.1 r.1
        (to_three (interface_fills recs) (type_home recs t) (row_of recs (method_item recs g.slot)) (row_of recs (impl_item recs g.row)) x g.slot g.row f home b.0 r.0 g.given)

    by_row_run : Contains (with_rows recs known (interface_runs recs) x) f → Given (instantiated t) f
    unfolding three
    by_row_run h =
        let g = rows_from recs known (interface_runs recs) x f h in
        let b = known_parts recs known (method_item recs g.slot) g.slot g.slot_known in
        let r = known_parts recs known (impl_item recs g.row) g.row g.row_known in
        with_two (method_item recs g.slot) (impl_item recs g.row) f b.1 r.1
        (to_three (interface_runs recs) (type_home recs t) (row_of recs (method_item recs g.slot)) (row_of recs (impl_item recs g.row)) x g.slot g.row f home b.0 r.0 g.given)

    from_type : Contains (type_with recs known x) f → Given (marked (item.Typ t)) f
    from_type h =
        elim (Contains-append_cases (with_interfaces recs known x ++ with_slots recs known (class_fills recs) x) (with_rows recs known (interface_fills recs) x) f h) [
          | inl s ↦ elim (Contains-append_cases (with_interfaces recs known x) (with_slots recs known (class_fills recs) x) f s) [ inl i ↦ by_interface i | inr b ↦ by_fill b ]
          | inr r ↦ by_row_fill r
        ]

    from_made : Contains (made_with recs known x) f → Given (instantiated t) f
    from_made h = elim (Contains-append_cases (with_slots recs known (class_runs recs) x) (with_rows recs known (interface_runs recs) x) f h) [ inl b ↦ by_run b | inr r ↦ by_row_run r ]

  forth : (a f : Fact) → Contains (fact_with recs known a) f → Given a f
  unfolding fact_with
  forth (marked (item.Typ t)) f h = let x = from_option (type_with recs known) (type_home recs t) f h in from_type t x.0 x.1 f x.2
  forth (instantiated t) f h = let x = from_option (made_with recs known) (type_home recs t) f h in from_made t x.0 x.1 f x.2
  forth (marked (item.Asm x)) f h = absurd (none_in f h)
  forth (marked (item.Method x)) f h = absurd (none_in f h)
  forth (marked (item.Field x)) f h = absurd (none_in f h)
  forth (marked (item.Prop x)) f h = absurd (none_in f h)
  forth (marked (item.Event x)) f h = absurd (none_in f h)
  forth (marked (item.Impl x)) f h = absurd (none_in f h)
  forth (reflected i) f h = absurd (none_in f h)
  forth (shown t) f h = absurd (none_in f h)

  -- ---- what is given is tried

  to_type : (t : TypeId) (x : RowAt) (f : Fact) → type_home recs t ≡ Some x → Contains (type_with recs known x) f → Contains (fact_with recs known (marked (item.Typ t))) f
  unfolding fact_with
  to_type t x f home h = to_option (type_with recs known) (type_home recs t) x f home h

  to_made : (t : TypeId) (x : RowAt) (f : Fact) → type_home recs t ≡ Some x → Contains (made_with recs known x) f → Contains (fact_with recs known (instantiated t)) f
  unfolding fact_with
  to_made t x f home h = to_option (made_with recs known) (type_home recs t) x f home h

  interfaces_in : (x : RowAt) (f : Fact) → Contains (with_interfaces recs known x) f → Contains (type_with recs known x) f
  interfaces_in x f h =
      Contains-append_left (with_interfaces recs known x ++ with_slots recs known (class_fills recs) x) (with_rows recs known (interface_fills recs) x) f
      (Contains-append_left (with_interfaces recs known x) (with_slots recs known (class_fills recs) x) f h)

  fills_in : (x : RowAt) (f : Fact) → Contains (with_slots recs known (class_fills recs) x) f → Contains (type_with recs known x) f
  fills_in x f h =
      Contains-append_left (with_interfaces recs known x ++ with_slots recs known (class_fills recs) x) (with_rows recs known (interface_fills recs) x) f
      (Contains-append_right (with_interfaces recs known x) (with_slots recs known (class_fills recs) x) f h)

  rows_in : (x : RowAt) (f : Fact) → Contains (with_rows recs known (interface_fills recs) x) f → Contains (type_with recs known x) f
  rows_in x f h = Contains-append_right (with_interfaces recs known x ++ with_slots recs known (class_fills recs) x) (with_rows recs known (interface_fills recs) x) f h

  type_one : (t : TypeId) (i : Item) (f : Fact) → known i ≡ true → Contains (two recs (marked (item.Typ t)) (marked i)) f → Contains (fact_with recs known (marked (item.Typ t))) f
  unfolding two row_of
  type_one t (item.Typ j) f k h =
      let r = from_rows (rows_for recs) (type_home recs t) (type_home recs j) f h in
      to_type t r.0 f r.2 (interfaces_in r.0 f (names_to r.0 r.1 f (type_known j r.1 r.3 k) r.4))
  type_one t (item.Method b) f k h =
      let r = from_rows (class_fills recs) (type_home recs t) (row_of recs (item.Method b)) f h in
      to_type t r.0 f r.2 (fills_in r.0 f (slots_to recs known (class_fills recs) r.0 f r.1 (fills_tried recs r.0 r.1 f r.4) (method_known b r.1 r.3 k) r.4))
  type_one t (item.Asm x) f k h = absurd (none_in f h)
  type_one t (item.Field x) f k h = absurd (none_in f h)
  type_one t (item.Prop x) f k h = absurd (none_in f h)
  type_one t (item.Event x) f k h = absurd (none_in f h)
  type_one t (item.Impl x) f k h = absurd (none_in f h)

  made_one : (t : TypeId) (i : Item) (f : Fact) → known i ≡ true → Contains (two recs (instantiated t) (marked i)) f → Contains (fact_with recs known (instantiated t)) f
  unfolding two
  made_one t (item.Method b) f k h =
      let r = from_rows (class_runs recs) (type_home recs t) (row_of recs (item.Method b)) f h in
      to_made t r.0 f r.2
      (Contains-append_left (with_slots recs known (class_runs recs) r.0) (with_rows recs known (interface_runs recs) r.0) f
      (slots_to recs known (class_runs recs) r.0 f r.1 (runs_tried recs r.0 r.1 f r.4) (method_known b r.1 r.3 k) r.4))
  made_one t (item.Typ x) f k h = absurd (none_in f h)
  made_one t (item.Asm x) f k h = absurd (none_in f h)
  made_one t (item.Field x) f k h = absurd (none_in f h)
  made_one t (item.Prop x) f k h = absurd (none_in f h)
  made_one t (item.Event x) f k h = absurd (none_in f h)
  made_one t (item.Impl x) f k h = absurd (none_in f h)

  one_in : (a : Fact) (i : Item) (f : Fact) → known i ≡ true → Contains (two recs a (marked i)) f → Contains (fact_with recs known a) f
  unfolding two
  one_in (marked (item.Typ t)) i f k h = type_one t i f k h
  one_in (instantiated t) i f k h = made_one t i f k h
  one_in (marked (item.Asm x)) i f k h = absurd (none_in f h)
  one_in (marked (item.Method x)) i f k h = absurd (none_in f h)
  one_in (marked (item.Field x)) i f k h = absurd (none_in f h)
  one_in (marked (item.Prop x)) i f k h = absurd (none_in f h)
  one_in (marked (item.Event x)) i f k h = absurd (none_in f h)
  one_in (marked (item.Impl x)) i f k h = absurd (none_in f h)
  one_in (reflected x) i f k h = absurd (none_in f h)
  one_in (shown x) i f k h = absurd (none_in f h)

  type_two : (t : TypeId) (b : MethodId) (r : ImplId) (f : Fact) → known (item.Method b) ≡ true → known (item.Impl r) ≡ true
      → Contains (of_three recs (interface_fills recs) (type_home recs t) (row_of recs (item.Method b)) (row_of recs (item.Impl r))) f → Contains (fact_with recs known (marked (item.Typ t))) f
  type_two t b r f kb kr h =
      let s = from_three (interface_fills recs) (type_home recs t) (row_of recs (item.Method b)) (row_of recs (item.Impl r)) f h in
      to_type t s.x f s.first
      (rows_in s.x f (rows_to recs known (interface_fills recs) s.x f s.y s.z (fills_by recs s.x s.y s.z f s.given) (method_known b s.y s.second kb) (impl_known r s.z s.third kr) s.given))

  made_two : (t : TypeId) (b : MethodId) (r : ImplId) (f : Fact) → known (item.Method b) ≡ true → known (item.Impl r) ≡ true
      → Contains (of_three recs (interface_runs recs) (type_home recs t) (row_of recs (item.Method b)) (row_of recs (item.Impl r))) f → Contains (fact_with recs known (instantiated t)) f
  made_two t b r f kb kr h =
      let s = from_three (interface_runs recs) (type_home recs t) (row_of recs (item.Method b)) (row_of recs (item.Impl r)) f h in
      to_made t s.x f s.first
      (Contains-append_right (with_slots recs known (class_runs recs) s.x) (with_rows recs known (interface_runs recs) s.x) f
      (rows_to recs known (interface_runs recs) s.x f s.y s.z (runs_by recs s.x s.y s.z f s.given) (method_known b s.y s.second kb) (impl_known r s.z s.third kr) s.given))

  -- a rule of three facts has a method and an interface row
  data Three (a : Fact) (f : Fact) : Item → Item → Type 0 where
    made : (t : TypeId) (b : MethodId) (r : ImplId) → a ≡ instantiated t → Contains (of_three recs (interface_runs recs) (type_home recs t) (row_of recs (item.Method b)) (row_of recs (item.Impl r))) f
        → Three a f (item.Method b) (item.Impl r)
    had : (t : TypeId) (b : MethodId) (r : ImplId) → a ≡ marked (item.Typ t) → Contains (of_three recs (interface_fills recs) (type_home recs t) (row_of recs (item.Method b)) (row_of recs (item.Impl r))) f
        → Three a f (item.Method b) (item.Impl r)

  made_method : (t : TypeId) (b : MethodId) (j : Item) (f : Fact) → Contains (three recs (instantiated t) (marked (item.Method b)) (marked j)) f → Three (instantiated t) f (item.Method b) j
  unfolding three
  made_method t b (item.Impl r) f h = made t b r refl h
  made_method t b (item.Asm x) f h = absurd (none_in f h)
  made_method t b (item.Typ x) f h = absurd (none_in f h)
  made_method t b (item.Method x) f h = absurd (none_in f h)
  made_method t b (item.Field x) f h = absurd (none_in f h)
  made_method t b (item.Prop x) f h = absurd (none_in f h)
  made_method t b (item.Event x) f h = absurd (none_in f h)

  type_method : (t : TypeId) (b : MethodId) (j : Item) (f : Fact) → Contains (three recs (marked (item.Typ t)) (marked (item.Method b)) (marked j)) f → Three (marked (item.Typ t)) f (item.Method b) j
  unfolding three
  type_method t b (item.Impl r) f h = had t b r refl h
  type_method t b (item.Asm x) f h = absurd (none_in f h)
  type_method t b (item.Typ x) f h = absurd (none_in f h)
  type_method t b (item.Method x) f h = absurd (none_in f h)
  type_method t b (item.Field x) f h = absurd (none_in f h)
  type_method t b (item.Prop x) f h = absurd (none_in f h)
  type_method t b (item.Event x) f h = absurd (none_in f h)

  made_three : (t : TypeId) (i j : Item) (f : Fact) → Contains (three recs (instantiated t) (marked i) (marked j)) f → Three (instantiated t) f i j
  unfolding three
  made_three t (item.Method b) j f h = made_method t b j f h
  made_three t (item.Asm x) j f h = absurd (none_in f h)
  made_three t (item.Typ x) j f h = absurd (none_in f h)
  made_three t (item.Field x) j f h = absurd (none_in f h)
  made_three t (item.Prop x) j f h = absurd (none_in f h)
  made_three t (item.Event x) j f h = absurd (none_in f h)
  made_three t (item.Impl x) j f h = absurd (none_in f h)

  type_three : (t : TypeId) (i j : Item) (f : Fact) → Contains (three recs (marked (item.Typ t)) (marked i) (marked j)) f → Three (marked (item.Typ t)) f i j
  unfolding three
  type_three t (item.Method b) j f h = type_method t b j f h
  type_three t (item.Asm x) j f h = absurd (none_in f h)
  type_three t (item.Typ x) j f h = absurd (none_in f h)
  type_three t (item.Field x) j f h = absurd (none_in f h)
  type_three t (item.Prop x) j f h = absurd (none_in f h)
  type_three t (item.Event x) j f h = absurd (none_in f h)
  type_three t (item.Impl x) j f h = absurd (none_in f h)

  is_three : (a : Fact) (i j : Item) (f : Fact) → Contains (three recs a (marked i) (marked j)) f → Three a f i j
  unfolding three
  is_three (instantiated t) i j f h = made_three t i j f h
  is_three (marked (item.Typ t)) i j f h = type_three t i j f h
  is_three (marked (item.Asm x)) i j f h = absurd (none_in f h)
  is_three (marked (item.Method x)) i j f h = absurd (none_in f h)
  is_three (marked (item.Field x)) i j f h = absurd (none_in f h)
  is_three (marked (item.Prop x)) i j f h = absurd (none_in f h)
  is_three (marked (item.Event x)) i j f h = absurd (none_in f h)
  is_three (marked (item.Impl x)) i j f h = absurd (none_in f h)
  is_three (reflected x) i j f h = absurd (none_in f h)
  is_three (shown x) i j f h = absurd (none_in f h)

  two_in : (a : Fact) (i j : Item) (f : Fact) → known i ≡ true → known j ≡ true → Three a f i j → Contains (fact_with recs known a) f
  two_in a _ _ f ki kj (made t b r e h) = subst (λ (x : Fact). Contains (fact_with recs known x) f) (sym e) (made_two t b r f ki kj h)
  two_in a _ _ f ki kj (had t b r e h) = subst (λ (x : Fact). Contains (fact_with recs known x) f) (sym e) (type_two t b r f ki kj h)

  back : (a f : Fact) → Given a f → Contains (fact_with recs known a) f
  back a _ (with_one i f k h) = one_in a i f k h
  back a _ (with_two i j f ki kj h) = two_in a i j f ki kj (is_three a i j f h)

pub tries_enough : TriesEnough
tries_enough recs known a f = (forth recs known a f, back recs known a f)
