-- A type answers a class slot only where one of its definitions has it.
use Rattle.std.proofs.Common.{◌≡◌, ℕ, suc, List, [], ◌∷◌, map, Bool, true, false, ◌⊎◌, inl, inr, Option, Some, None, refl, sym, ap, subst}
use Rattle.std.specs.Prelude.{slice_get, ◌==◌, ◌&&◌, not, if◌then◌else◌}
use Rattle.std.specs.List.{Contains, flat_map}
use Rattle.std.specs.Option.{option_and_then}
use Rattle.std.proofs.lemmas.List.Elements.{Contains-append_left, Contains-append_right}
use Rattle.il_base.specs.declared.ids.Item.{Item}
use Rattle.il_base.specs.declared.table.TheConstants.{TYPE_DEF}
use Rattle.il_base.specs.declared.world_model.expr.TypeExpr.{TypeExpr}
use Rattle.il_base.specs.declared.world_model.expr.MethodUse.{MethodUse}
use Rattle.il_base.specs.declared.world_model.types.TypeDefRow.{TypeDefRow}
use Rattle.il_base.specs.declared.world_model.members.MethodImplRow.{MethodImplRow}
use Rattle.il_base.specs.declared.world_model.record.AsmRec.{AsmRec}
use Rattle.il_base.specs.world_model.Tokens.{token_of}
use Rattle.rules.specs.declared.link_rules.row_at.RowAt.{RowAt}
use Rattle.rules.specs.link_rules.Types.{at_row, or_else}
use Rattle.rules.specs.link_rules.Members.{with_bases, generic_method}
use Rattle.rules.specs.link_rules.Cycles.{listed, same_row, home_of}
use Rattle.rules.specs.type_rules.Slots.{open_type, slot_of, method_home, nearest, is_slot, has_slot}
use Rattle.rules.specs.type_rules.Dispatch.{good_use, in_interface, class_dispatch, class_method_in, slot_in, slot_in_run, impl_in, impl_in_row, impl_of_row, impl_body, first_impl, declares_slot, place_that, find_row_in_run}
use Rattle.rules.specs.type_rules.Rows.{methods_of_type, run_places, rec_at}
use Rattle.rules.specs.mark_rules.Facts.{Fact}
use Rattle.rules.specs.mark_rules.Places.{marks_method, method_item}
use Rattle.rules.specs.mark_rules.Calls.{class_runs, class_answer, is_own_slot}
use Rattle.base_laws.specs.known_laws.Known.{is_known_at, lineage, slot_list, use_slot, declared_slot, slot_of_impl, declared_slots, with_slot, slot_and_own, own_slots, slot_gives, with_slots}
use Rattle.base_laws.proofs.lemmas.known_laws.Lists.{first_in, later_in, from_flat, to_flat, from_listed, to_listed, to_option, from_if, to_if, from_any, from_map, to_map, and_then_some, map_some}
use Rattle.base_laws.proofs.lemmas.known_laws.Rows.{same_is}

-- ---- searches

place_by : (test : ℕ → Bool) (j : ℕ) (ks : List ℕ) (k : ℕ) → (place_that test ks ≡ Some k → Contains ks k × (test k ≡ true)) → (b : Bool) → test j ≡ b → (if b then Some j else place_that test ks) ≡ Some k
    → Contains (j ∷ ks) k × (test k ≡ true)
place_by test j ks k next true s f = let same : j ≡ k = cc in subst (λ (n : ℕ). Contains (j ∷ ks) n × (test n ≡ true)) same (first_in j ks, s)
place_by test j ks k next false s f = let r = next f in (later_in j ks k r.0, r.1)

place_found : (test : ℕ → Bool) (ks : List ℕ) (k : ℕ) → place_that test ks ≡ Some k → Contains ks k × (test k ≡ true)
place_found test [] k e = absurd (cc)
place_found test (j ∷ ks) k e = place_by test j ks k (place_found test ks k) (test j) refl e

or_cases : {A : Type 0} (o p : Option A) (x : A) → or_else o p ≡ Some x → (o ≡ Some x) ⊎ (p ≡ Some x)
or_cases None p x e = inr e
or_cases (Some y) p x e = inl e

pub nearest_found : {A : Type 0} (look : TypeExpr → Option A) (es : List TypeExpr) (x : A) → nearest look es ≡ Some x → (e : TypeExpr) × Contains es e × (look e ≡ Some x)
unfolding nearest
nearest_found look [] x h = absurd (cc)
nearest_found look (e ∷ es) x h =
    elim (or_cases (look e) (nearest look es) x h) [
      | inl s ↦ (e, first_in e es, s)
      | inr s ↦ let r = nearest_found look es x s in (r.0, later_in e es r.0 r.1, r.2)
    ]

row_found : (look : MethodImplRow → Option RowAt) (rows : List MethodImplRow) (x : RowAt) → first_impl look rows ≡ Some x → (row : MethodImplRow) × Contains rows row × (look row ≡ Some x)
row_found look [] x h = absurd (cc)
row_found look (row ∷ rows) x h =
    elim (or_cases (look row) (first_impl look rows) x h) [
      | inl s ↦ (row, first_in row rows, s)
      | inr s ↦ let r = row_found look rows x s in (r.0, later_in row rows r.0 r.1, r.2)
    ]

if_some : {A : Type 0} (b : Bool) (o : Option A) (x : A) → (if b then o else None) ≡ Some x → (b ≡ true) × (o ≡ Some x)
if_some true o x e = (refl, e)
if_some false o x e = absurd (cc)

module _ (recs : List AsmRec) where
  slot_by : (o : Option RowAt) (b : RowAt) → is_slot o b ≡ true → o ≡ Some b
  slot_by None b e = absurd (cc)
  slot_by (Some s) b e = ap Some (same_is s b e)

  slot_listed : (m b : RowAt) → has_slot recs b m ≡ true → Contains (slot_list recs m) b
  slot_listed m b e = to_listed (slot_of recs m) b (slot_by (slot_of recs m) b e)

  first_with : (m b : RowAt) → Contains (with_slot m b) b
  first_with m b = by_same (same_row m b)
    where
      by_same : (same : Bool) → Contains (if same then b ∷ [] else b ∷ m ∷ []) b
      by_same true = first_in b []
      by_same false = first_in b (m ∷ [])

  slot_tried : (m b : RowAt) → has_slot recs b m ≡ true → Contains (slot_and_own recs m) b
  slot_tried m b e = to_option (with_slot m) (slot_of recs m) b b (slot_by (slot_of recs m) b e) (first_with m b)

  own_with : (m slot : RowAt) → Contains (with_slot m slot) m
  own_with m slot = by_same (same_row m slot) refl
    where
      by_same : (same : Bool) → same_row m slot ≡ same → Contains (if same then slot ∷ [] else slot ∷ m ∷ []) m
      by_same true e = subst (λ (x : RowAt). Contains (slot ∷ []) x) (sym (same_is m slot e)) (first_in slot [])
      by_same false e = later_in slot (m ∷ []) m (first_in m [])

  -- a virtual method is tried for its type
  pub own_tried : (c m slot : RowAt) → Contains (methods_of_type recs c) m → slot_of recs m ≡ Some slot → Contains (own_slots recs c) m
  own_tried c m slot inside e =
      Contains-append_left (flat_map (slot_and_own recs) (methods_of_type recs c)) (declared_slots recs c) m
      (to_flat (slot_and_own recs) (methods_of_type recs c) m (record { item = m; there = inside; inside = to_option (with_slot m) (slot_of recs m) slot m e (own_with m slot) }))

  -- ---- the methods of a type

  record Has (e : TypeExpr) (b : RowAt) : Type 0 where
    of : RowAt
    home : home_of recs e ≡ Some of
    own : Contains (own_slots recs of) b

  method_has : (e : TypeExpr) (b z : RowAt) → slot_in recs b e ≡ Some z → Has e b
  unfolding slot_in methods_of_type
  method_has e b z h =
      let outer = and_then_some (λ (at : RowAt). option_and_then (λ (rec : AsmRec). option_and_then (slot_in_run recs b at rec) (slice_get rec.type_def at.row)) (slice_get recs at.asm)) (home_of recs e) z h in
      let at : RowAt = outer.0 in
      let middle = and_then_some (λ (rec : AsmRec). option_and_then (slot_in_run recs b at rec) (slice_get rec.type_def at.row)) (slice_get recs at.asm) z outer.2 in
      let rec : AsmRec = middle.0 in
      let inner = and_then_some (slot_in_run recs b at rec) (slice_get rec.type_def at.row) z middle.2 in
      let t : TypeDefRow = inner.0 in
      let ks : List ℕ = run_places t.method_list_first t.method_list_end rec.method_def in
      let found = map_some (at_row at.asm) (find_row_in_run (λ k. has_slot recs b (at_row at.asm k)) t.method_list_first t.method_list_end rec.method_def) z inner.2 in
      let k = place_found (λ k. has_slot recs b (at_row at.asm k)) ks found.0 found.1 in
      let method : Contains (methods_of_type recs at) (at_row at.asm found.0) =
      to_option (λ (rec : AsmRec). flat_map (λ (t : TypeDefRow). map (at_row at.asm) (run_places t.method_list_first t.method_list_end rec.method_def)) (listed (slice_get rec.type_def at.row))) (rec_at recs at) rec (at_row at.asm found.0) middle.1
      (to_option (λ (t : TypeDefRow). map (at_row at.asm) (run_places t.method_list_first t.method_list_end rec.method_def)) (slice_get rec.type_def at.row) t (at_row at.asm found.0) inner.1
      (to_map (at_row at.asm) ks found.0 k.0)) in
      record {
        of = at;
        home = outer.1;
        own = Contains-append_left (flat_map (slot_and_own recs) (methods_of_type recs at)) (declared_slots recs at) b
            (to_flat (slot_and_own recs) (methods_of_type recs at) b (record { item = at_row at.asm found.0; there = method; inside = slot_tried (at_row at.asm found.0) b k.1 }));
      }

  -- ---- the MethodImpl rows of a type

  used_slot : (u : MethodUse) (b : RowAt) → declares_slot recs b u ≡ true → Contains (use_slot recs u) b
  used_slot u b e =
      let r = from_any (has_slot recs b) (listed (method_home recs u.method)) e in
      to_flat (slot_list recs) (listed (method_home recs u.method)) b (record { item = r.0; there = r.1; inside = slot_listed r.0 b r.2 })

  row_has : (e : TypeExpr) (at : RowAt) (rec : AsmRec) (row : MethodImplRow) (b z : RowAt) → impl_of_row recs e (declares_slot recs b) at rec row ≡ Some z → Contains (slot_of_impl recs at rec row) b
  row_has e at rec row b z h =
      let body : Option MethodUse = good_use (generic_method recs at.asm rec row.body) in
      let declaration : Option MethodUse = good_use (generic_method recs at.asm rec row.declaration) in
      let tested = if_some (row.class == token_of TYPE_DEF (suc at.row)) (option_and_then (λ (d : MethodUse). option_and_then (impl_body recs e (declares_slot recs b) d) body) declaration) z h in
      let d = and_then_some (λ (d : MethodUse). option_and_then (impl_body recs e (declares_slot recs b) d) body) declaration z tested.1 in
      let u = and_then_some (impl_body recs e (declares_slot recs b) d.0) body z d.2 in
      let declares = if_some (declares_slot recs b d.0) _ z u.2 in
      to_if (row.class == token_of TYPE_DEF (suc at.row)) (declared_slot recs at.asm rec row) b tested.0
      (to_option (use_slot recs) declaration d.0 b d.1 (used_slot d.0 b declares.0))

  impl_has : (e : TypeExpr) (b z : RowAt) → impl_in recs (declares_slot recs b) e ≡ Some z → Has e b
  unfolding impl_in declared_slots
  impl_has e b z h =
      let outer = and_then_some (λ (at : RowAt). option_and_then (λ (rec : AsmRec). option_and_then (impl_in_row recs e (declares_slot recs b) at rec) (slice_get rec.type_def at.row)) (slice_get recs at.asm)) (home_of recs e) z h in
      let at : RowAt = outer.0 in
      let middle = and_then_some (λ (rec : AsmRec). option_and_then (impl_in_row recs e (declares_slot recs b) at rec) (slice_get rec.type_def at.row)) (slice_get recs at.asm) z outer.2 in
      let rec : AsmRec = middle.0 in
      let inner = and_then_some (impl_in_row recs e (declares_slot recs b) at rec) (slice_get rec.type_def at.row) z middle.2 in
      let row = row_found (impl_of_row recs e (declares_slot recs b) at rec) rec.method_impl z inner.2 in
      record {
        of = at;
        home = outer.1;
        own = Contains-append_right (flat_map (slot_and_own recs) (methods_of_type recs at)) (declared_slots recs at) b
            (to_option (λ (rec : AsmRec). flat_map (slot_of_impl recs at rec) rec.method_impl) (rec_at recs at) rec b middle.1
            (to_flat (slot_of_impl recs at rec) rec.method_impl b (record { item = row.0; there = row.1; inside = row_has e at rec row.0 b z row.2 })));
      }

  one_has : (e : TypeExpr) (b z : RowAt) → class_method_in recs b e ≡ Some z → Has e b
  one_has e b z h = elim (or_cases (impl_in recs (declares_slot recs b) e) (slot_in recs b e) z h) [ inl s ↦ impl_has e b z s | inr s ↦ method_has e b z s ]

  -- ---- from a type upwards

  pub record Tried (t b : RowAt) : Type 0 where
    pub of : RowAt
    pub above : Contains (lineage recs t) of
    pub own : Contains (own_slots recs of) b

  pub in_lineage : (t c : RowAt) (e : TypeExpr) → Contains (with_bases recs (open_type recs t)) e → home_of recs e ≡ Some c → Contains (lineage recs t) c
  unfolding lineage
  in_lineage t c e inside home =
      to_flat (λ e. listed (home_of recs e)) (with_bases recs (open_type recs t)) c (record { item = e; there = inside; inside = to_listed (home_of recs e) c home })

  dispatch_tried : (t b z : RowAt) → class_dispatch recs (open_type recs t) b ≡ Some z → Tried t b
  unfolding class_dispatch
  dispatch_tried t b z h =
      let r = nearest_found (class_method_in recs b) (with_bases recs (open_type recs t)) z h in
      let has = one_has r.0 b z r.2 in
      record { of = has.of; above = in_lineage t has.of r.0 r.1 has.home; own = has.own }

  pub runs_tried : (t b : RowAt) (f : Fact) → Contains (class_runs recs t b) f → Tried t b
  unfolding class_runs class_answer
  runs_tried t b f c =
      let r = from_map (marks_method recs) (class_answer recs t b) f c in
      let s = from_if (is_own_slot recs b && not (in_interface recs b)) (listed (class_dispatch recs (open_type recs t) b)) r.0 r.1 in
      dispatch_tried t b r.0 (from_listed (class_dispatch recs (open_type recs t) b) r.0 s.1)

  -- ---- all slots that are tried

  module _ (known : Item → Bool) where
    pub slot_from : (gives : RowAt → List Fact) (bs : List RowAt) (f : Fact) → Contains (flat_map (slot_gives recs known gives) bs) f
        → (b : RowAt) × (is_known_at recs known (method_item recs b) b ≡ true) × Contains (gives b) f
    slot_from gives bs f c =
        let r = from_flat (slot_gives recs known gives) bs f c in
        let s = from_if (is_known_at recs known (method_item recs r.item) r.item) (gives r.item) f r.inside in
        (r.item, s.0, s.1)

    pub slot_to : (gives : RowAt → List Fact) (bs : List RowAt) (b : RowAt) (f : Fact) → Contains bs b → is_known_at recs known (method_item recs b) b ≡ true → Contains (gives b) f
        → Contains (flat_map (slot_gives recs known gives) bs) f
    slot_to gives bs b f inside k c =
        to_flat (slot_gives recs known gives) bs f (record { item = b; there = inside; inside = to_if (is_known_at recs known (method_item recs b) b) (gives b) f k c })

    module _ (gives : RowAt → RowAt → List Fact) (t : RowAt) (f : Fact) where
      pub slots_from : Contains (with_slots recs known gives t) f → (b : RowAt) × (is_known_at recs known (method_item recs b) b ≡ true) × Contains (gives t b) f
      slots_from c =
          let r = from_flat (λ x. flat_map (slot_gives recs known (gives t)) (own_slots recs x)) (lineage recs t) f c in
          slot_from (gives t) (own_slots recs r.item) f r.inside

      pub slots_to : (b : RowAt) → Tried t b → is_known_at recs known (method_item recs b) b ≡ true → Contains (gives t b) f → Contains (with_slots recs known gives t) f
      slots_to b tried k c =
          to_flat (λ x. flat_map (slot_gives recs known (gives t)) (own_slots recs x)) (lineage recs t) f
          (record { item = tried.of; there = tried.above; inside = slot_to (gives t) (own_slots recs tried.of) b f tried.own k c })
