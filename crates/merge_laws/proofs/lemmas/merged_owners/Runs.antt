-- Members that searches in runs find are in a run.
use Rattle.std.proofs.Common.{◌≡◌, ◌<◌, ◌≤◌, ℕ, suc, ◌+◌, List, [], ◌∷◌, length, map, Bool, true, false, nat_le, nat_lt, Some, subst, arith}
use Rattle.std.specs.Prelude.{slice_get, if◌then◌else◌, ◌==◌}
use Rattle.std.specs.List.{Contains, flat_map, list_any, position_from}
use Rattle.std.specs.Option.{option_map}
use Rattle.std.proofs.lemmas.Bool.{and_from, le-leb, lt-ltb}
use Rattle.il_base.specs.declared.table.TheConstants as table
use Rattle.il_base.specs.declared.world_model.expr.TypeExpr.{TypeExpr}
use Rattle.il_base.specs.declared.world_model.types.TypeDefRow.{TypeDefRow}
use Rattle.il_base.specs.declared.world_model.members.PropertyMapRow.{PropertyMapRow}
use Rattle.il_base.specs.declared.world_model.members.EventMapRow.{EventMapRow}
use Rattle.il_base.specs.declared.world_model.record.AsmRec.{AsmRec}
use Rattle.il_base.specs.world_model.Tokens.{token_of}
use Rattle.il_base.specs.world_model.Records.{table_sizes, IsRecord}
use Rattle.rules.specs.declared.link_rules.row_at.RowAt.{RowAt}
use Rattle.rules.specs.link_rules.Types.{at_row}
use Rattle.rules.specs.link_rules.Members.{find_in_run, is_in_run, in_definition, owns_method, owns_field, methods_in, fields_in}
use Rattle.rules.specs.link_rules.Cycles.{listed}
use Rattle.rules.specs.type_rules.Rows.{rec_at, run_places, methods_of_type, fields_of_type}
use Rattle.rules.specs.type_rules.Slots.{owner_from, type_of_method}
use Rattle.rules.specs.type_rules.Dispatch.{place_that}
use Rattle.base_laws.proofs.lemmas.walk_laws.Finds as finds
use Rattle.base_laws.proofs.lemmas.known_laws.Lists.{first_in, later_in, and_then_some, map_some}
use Rattle.rules.specs.mark_rules.Facts.{Fact}
use Rattle.rules.specs.mark_rules.Facts.Fact.{marked, instantiated, reflected, shown}
use Rattle.il_base.specs.declared.ids.Item.{Item}
use Rattle.il_base.specs.declared.ids.Item.TheVariants as item
use Rattle.rules.specs.mark_rules.Places.{marks_method, marks_field, prop_item, event_item, props_in, events_in}
use Rattle.rules.specs.mark_rules.Members.{property_places_by, event_places_by, properties_of_type, events_of_type}
use Rattle.std.specs.Prelude.{⊤}
use Rattle.merge_laws.specs.merged_record.Laws.{InputsAreRecords}
use Rattle.merge_laws.proofs.lemmas.merged_record.Rows.{in_run}
use Rattle.merge_laws.specs.merged_owners.Laws.{owns_property, owns_event, has_method, has_field, has_property, has_event}
use Rattle.merge_laws.proofs.lemmas.merged_owners.Homes.{passing, passes_any, to_place, Placed, placed}
use Rattle.merge_laws.proofs.lemmas.merged_owners.Owners.{within}
use Rattle.merge_laws.proofs.lemmas.merged_owners.Every.{Every, all_option, all_flat, all_map, all_if}

-- ---- what is so of facts

abbrev pub OfItem : List AsmRec → Item → Type 0
OfItem recs (item.Asm a) = ⊤
OfItem recs (item.Typ t) = ⊤
OfItem recs (item.Method m) = Placed methods_in has_method recs m.0
OfItem recs (item.Field f) = Placed fields_in has_field recs f.0
OfItem recs (item.Prop p) = Placed props_in has_property recs p.0
OfItem recs (item.Event e) = Placed events_in has_event recs e.0
OfItem recs (item.Impl i) = ⊤

-- a member that is marked belongs to something, where it is an input's
abbrev pub OfFact : List AsmRec → Fact → Type 0
OfFact recs (marked i) = OfItem recs i
OfFact recs (instantiated t) = ⊤
OfFact recs (reflected i) = ⊤
OfFact recs (shown t) = ⊤

abbrev pub Fine : List AsmRec → List Fact → Type 0
Fine recs fs = Every (OfFact recs) fs

-- ---- rows of members

-- in a run, where it is an input's
pub record Has (recs : List AsmRec) (has : AsmRec → ℕ → Bool) (at : RowAt) : Type 0 where
  pub is : (rec : AsmRec) → slice_get recs at.asm ≡ Some rec → suc at.asm < length recs → has rec at.row ≡ true

place_by : (test : ℕ → Bool) (j k : ℕ) (ks : List ℕ) (b : Bool) → (place_that test ks ≡ Some k → Contains ks k) → (if b then Some j else place_that test ks) ≡ Some k → Contains (j ∷ ks) k
place_by test j k ks true more f = let same : j ≡ k = cc in subst (λ (n : ℕ). Contains (j ∷ ks) n) same (first_in j ks)
place_by test j k ks false more f = later_in j ks k (more f)

pub place_in : (test : ℕ → Bool) (ks : List ℕ) (k : ℕ) → place_that test ks ≡ Some k → Contains ks k
place_in test [] k e = absurd (cc)
place_in test (j ∷ ks) k e = place_by test j k ks (test j) (place_in test ks k) e

module _ (recs : List AsmRec) {X : Type 0} (rows : AsmRec → List X) (first end : X → ℕ) where
  abbrev owns : ℕ → X → Bool
  owns k x = is_in_run (first x) (end x) k

  abbrev has : AsmRec → ℕ → Bool
  has rec k = list_any (owns (suc k)) (rows rec)

  pub of_first : (a k t : ℕ) (rec : AsmRec) → slice_get recs a ≡ Some rec → position_from (owns (suc k)) 0 (rows rec) ≡ Some t → Has recs has (at_row a k)
  of_first a k t rec there e = record {
    is = λ found here lt.
        let same : rec ≡ found = cc in
        let f = finds.found (owns (suc k)) 0 (rows rec) t e in
        subst (λ (r : AsmRec). has r k ≡ true) same (passes_any (owns (suc k)) (rows rec) f.place f.item f.there f.passes);
  }

  module _ (begins : (a : ℕ) (rec : AsmRec) → suc a < length recs → slice_get recs a ≡ Some rec → (j : ℕ) (x : X) → slice_get (rows rec) j ≡ Some x → 1 ≤ first x) where
    pub of_run : {B : Type 0} (a j k : ℕ) (rec : AsmRec) (x : X) (members : List B) → slice_get recs a ≡ Some rec → slice_get (rows rec) j ≡ Some x → Contains (run_places (first x) (end x) members) k → Has recs has (at_row a k)
    of_run a j k rec x members there row c = record {
      is = λ found here lt.
          let same : rec ≡ found = cc in
          let from = begins a rec lt there j x row in
          let r = in_run (first x) (end x) members k c in
          let low = r.0 in
          let up = r.1 in
          let high = r.2 in
          let own : owns (suc k) x ≡ true = and_from (nat_le (first x) (suc k)) (nat_lt (suc k) (end x)) (le-leb (first x) (suc k) low) (lt-ltb (suc k) (end x) (omega arith)) in
          subst (λ (r : AsmRec). has r k ≡ true) same (passes_any (owns (suc k)) (rows rec) j x row own);
    }

    pub of_found : {B : Type 0} (test : B → Bool) (a j k : ℕ) (rec : AsmRec) (x : X) (members : List B) → slice_get recs a ≡ Some rec → slice_get (rows rec) j ≡ Some x → find_in_run test (first x) (end x) members ≡ Some k
        → Has recs has (at_row a k)
    of_found test a j k rec x members there row e = record {
      is = λ found here lt.
          let same : rec ≡ found = cc in
          let r = finds.in_run test (first x) (end x) members k (begins a rec lt there j x row) e in
          subst (λ (r : AsmRec). has r k ≡ true) same (passes_any (owns (suc k)) (rows rec) j x row r.in_run);
    }

-- ---- the four kinds

module _ (recs : List AsmRec) (records : InputsAreRecords recs) where
  pub method_begins : (a : ℕ) (rec : AsmRec) → suc a < length recs → slice_get recs a ≡ Some rec → (j : ℕ) (x : TypeDefRow) → slice_get rec.type_def j ≡ Some x → 1 ≤ x.method_list_first
  method_begins a rec lt there j x e = (records a rec lt there).runs.methods.begins j x e

  pub field_begins : (a : ℕ) (rec : AsmRec) → suc a < length recs → slice_get recs a ≡ Some rec → (j : ℕ) (x : TypeDefRow) → slice_get rec.type_def j ≡ Some x → 1 ≤ x.field_list_first
  field_begins a rec lt there j x e = (records a rec lt there).runs.fields.begins j x e

  property_begins : (a : ℕ) (rec : AsmRec) → suc a < length recs → slice_get recs a ≡ Some rec → (j : ℕ) (x : PropertyMapRow) → slice_get rec.property_map j ≡ Some x → 1 ≤ x.property_list_first
  property_begins a rec lt there j x e = (records a rec lt there).runs.properties.begins j x e

  event_begins : (a : ℕ) (rec : AsmRec) → suc a < length recs → slice_get recs a ≡ Some rec → (j : ℕ) (x : EventMapRow) → slice_get rec.event_map j ≡ Some x → 1 ≤ x.event_list_first
  event_begins a rec lt there j x e = (records a rec lt there).runs.events.begins j x e

  -- a member in a run is a row of its table
  method_below : (rec : AsmRec) (k : ℕ) → IsRecord rec → has_method rec k ≡ true → k < methods_in rec
  unfolding table_sizes
  method_below rec k is h =
      let p = passing (owns_method (suc k)) rec.type_def h in
      let w = within p.item.method_list_first p.item.method_list_end k p.passes in
      let e = w.ends in
      let le : p.item.method_list_end ≤ methods_in rec + 1 = is.runs.methods.within p.place p.item p.there in
      omega arith

  field_below : (rec : AsmRec) (k : ℕ) → IsRecord rec → has_field rec k ≡ true → k < fields_in rec
  unfolding table_sizes
  field_below rec k is h =
      let p = passing (owns_field (suc k)) rec.type_def h in
      let w = within p.item.field_list_first p.item.field_list_end k p.passes in
      let e = w.ends in
      let le : p.item.field_list_end ≤ fields_in rec + 1 = is.runs.fields.within p.place p.item p.there in
      omega arith

  property_below : (rec : AsmRec) (k : ℕ) → IsRecord rec → has_property rec k ≡ true → k < props_in rec
  unfolding table_sizes
  property_below rec k is h =
      let p = passing (owns_property (suc k)) rec.property_map h in
      let w = within p.item.property_list_first p.item.property_list_end k p.passes in
      let e = w.ends in
      let le : p.item.property_list_end ≤ props_in rec + 1 = is.runs.properties.within p.place p.item p.there in
      omega arith

  event_below : (rec : AsmRec) (k : ℕ) → IsRecord rec → has_event rec k ≡ true → k < events_in rec
  unfolding table_sizes
  event_below rec k is h =
      let p = passing (owns_event (suc k)) rec.event_map h in
      let w = within p.item.event_list_first p.item.event_list_end k p.passes in
      let e = w.ends in
      let le : p.item.event_list_end ≤ events_in rec + 1 = is.runs.events.within p.place p.item p.there in
      omega arith

  pub method_fine : (at : RowAt) → Has recs has_method at → OfFact recs (marks_method recs at)
  method_fine at h = placed methods_in has_method recs at (λ rec there lt. let b = h.is rec there lt in (method_below rec at.row (records at.asm rec lt there) b, b))

  pub field_fine : (at : RowAt) → Has recs has_field at → OfFact recs (marks_field recs at)
  field_fine at h = placed fields_in has_field recs at (λ rec there lt. let b = h.is rec there lt in (field_below rec at.row (records at.asm rec lt there) b, b))

  pub property_fine : (at : RowAt) → Has recs has_property at → OfFact recs (marked (prop_item recs at))
  property_fine at h = placed props_in has_property recs at (λ rec there lt. let b = h.is rec there lt in (property_below rec at.row (records at.asm rec lt there) b, b))

  pub event_fine : (at : RowAt) → Has recs has_event at → OfFact recs (marked (event_item recs at))
  event_fine at h = placed events_in has_event recs at (λ rec there lt. let b = h.is rec there lt in (event_below rec at.row (records at.asm rec lt there) b, b))

  -- ---- members of a type

  pub methods_have : (at : RowAt) → Every (Has recs has_method) (methods_of_type recs at)
  unfolding methods_of_type
  methods_have at =
      all_option (Has recs has_method) (λ (rec : AsmRec). flat_map (λ (t : TypeDefRow). map (at_row at.asm) (run_places t.method_list_first t.method_list_end rec.method_def)) (listed (slice_get rec.type_def at.row))) (rec_at recs at)
      (λ rec there.
      all_option (Has recs has_method) (λ (t : TypeDefRow). map (at_row at.asm) (run_places t.method_list_first t.method_list_end rec.method_def)) (slice_get rec.type_def at.row)
      (λ t row.
      all_map (Has recs has_method) (at_row at.asm) (run_places t.method_list_first t.method_list_end rec.method_def)
      (λ k c.
      of_run recs (λ (r : AsmRec). r.type_def) (λ (x : TypeDefRow). x.method_list_first) (λ (x : TypeDefRow). x.method_list_end) method_begins at.asm at.row k rec t rec.method_def there row c)))

  pub fields_have : (at : RowAt) → Every (Has recs has_field) (fields_of_type recs at)
  unfolding fields_of_type
  fields_have at =
      all_option (Has recs has_field) (λ (rec : AsmRec). flat_map (λ (t : TypeDefRow). map (at_row at.asm) (run_places t.field_list_first t.field_list_end rec.field)) (listed (slice_get rec.type_def at.row))) (rec_at recs at)
      (λ rec there.
      all_option (Has recs has_field) (λ (t : TypeDefRow). map (at_row at.asm) (run_places t.field_list_first t.field_list_end rec.field)) (slice_get rec.type_def at.row)
      (λ t row.
      all_map (Has recs has_field) (at_row at.asm) (run_places t.field_list_first t.field_list_end rec.field)
      (λ k c. of_run recs (λ (r : AsmRec). r.type_def) (λ (x : TypeDefRow). x.field_list_first) (λ (x : TypeDefRow). x.field_list_end) field_begins at.asm at.row k rec t rec.field there row c)))

  pub properties_have : (at : RowAt) → Every (Has recs has_property) (properties_of_type recs at)
  unfolding properties_of_type
  properties_have at =
      all_option (Has recs has_property) (λ (rec : AsmRec). map (at_row at.asm) (flat_map (property_places_by rec (token_of table.TYPE_DEF (suc at.row))) rec.property_map)) (rec_at recs at)
      (λ rec there.
      all_map (Has recs has_property) (at_row at.asm) (flat_map (property_places_by rec (token_of table.TYPE_DEF (suc at.row))) rec.property_map)
      (λ k c. (in_maps at rec there).each k c))
    where
      in_maps : (at : RowAt) (rec : AsmRec) → slice_get recs at.asm ≡ Some rec → Every (λ k. Has recs has_property (at_row at.asm k)) (flat_map (property_places_by rec (token_of table.TYPE_DEF (suc at.row))) rec.property_map)
      in_maps at rec there =
          all_flat (λ k. Has recs has_property (at_row at.asm k)) (property_places_by rec (token_of table.TYPE_DEF (suc at.row))) rec.property_map
          (λ row c.
          let p = to_place rec.property_map row c in
          all_if (λ k. Has recs has_property (at_row at.asm k)) (row.parent == token_of table.TYPE_DEF (suc at.row)) (run_places row.property_list_first row.property_list_end rec.property)
          (λ e. record { each = λ k d. of_run recs (λ (r : AsmRec). r.property_map) (λ (x : PropertyMapRow). x.property_list_first) (λ (x : PropertyMapRow). x.property_list_end) property_begins at.asm p.0 k rec row rec.property there p.1 d }))

  pub events_have : (at : RowAt) → Every (Has recs has_event) (events_of_type recs at)
  unfolding events_of_type
  events_have at =
      all_option (Has recs has_event) (λ (rec : AsmRec). map (at_row at.asm) (flat_map (event_places_by rec (token_of table.TYPE_DEF (suc at.row))) rec.event_map)) (rec_at recs at)
      (λ rec there.
      all_map (Has recs has_event) (at_row at.asm) (flat_map (event_places_by rec (token_of table.TYPE_DEF (suc at.row))) rec.event_map)
      (λ k c. (in_maps at rec there).each k c))
    where
      in_maps : (at : RowAt) (rec : AsmRec) → slice_get recs at.asm ≡ Some rec → Every (λ k. Has recs has_event (at_row at.asm k)) (flat_map (event_places_by rec (token_of table.TYPE_DEF (suc at.row))) rec.event_map)
      in_maps at rec there =
          all_flat (λ k. Has recs has_event (at_row at.asm k)) (event_places_by rec (token_of table.TYPE_DEF (suc at.row))) rec.event_map
          (λ row c.
          let p = to_place rec.event_map row c in
          all_if (λ k. Has recs has_event (at_row at.asm k)) (row.parent == token_of table.TYPE_DEF (suc at.row)) (run_places row.event_list_first row.event_list_end rec.event)
          (λ e. record { each = λ k d. of_run recs (λ (r : AsmRec). r.event_map) (λ (x : EventMapRow). x.event_list_first) (λ (x : EventMapRow). x.event_list_end) event_begins at.asm p.0 k rec row rec.event there p.1 d }))

  -- ---- what look-ups find

  -- a method in the definition of a type
  pub method_looked : {B : Type 0} (test : RowAt → AsmRec → B → Bool) (members : AsmRec → List B) (e : TypeExpr) (at : RowAt)
      → in_definition recs (λ home rec t. option_map (at_row home.asm) (find_in_run (test home rec) t.method_list_first t.method_list_end (members rec))) e ≡ Some at → Has recs has_method at
  method_looked test members e at h =
      let d = finds.defined recs (λ home rec t. option_map (at_row home.asm) (find_in_run (test home rec) t.method_list_first t.method_list_end (members rec))) e at h in
      let k = map_some (at_row d.home.asm) (find_in_run (test d.home d.rec) d.row.method_list_first d.row.method_list_end (members d.rec)) at d.found in
      subst (Has recs has_method) k.2
      (of_found recs (λ (r : AsmRec). r.type_def) (λ (x : TypeDefRow). x.method_list_first) (λ (x : TypeDefRow). x.method_list_end) method_begins (test d.home d.rec) d.home.asm d.home.row k.0 d.rec d.row (members d.rec) d.there d.at k.1)

  pub field_looked : {B : Type 0} (test : RowAt → AsmRec → B → Bool) (members : AsmRec → List B) (e : TypeExpr) (at : RowAt)
      → in_definition recs (λ home rec t. option_map (at_row home.asm) (find_in_run (test home rec) t.field_list_first t.field_list_end (members rec))) e ≡ Some at → Has recs has_field at
  field_looked test members e at h =
      let d = finds.defined recs (λ home rec t. option_map (at_row home.asm) (find_in_run (test home rec) t.field_list_first t.field_list_end (members rec))) e at h in
      let k = map_some (at_row d.home.asm) (find_in_run (test d.home d.rec) d.row.field_list_first d.row.field_list_end (members d.rec)) at d.found in
      subst (Has recs has_field) k.2
      (of_found recs (λ (r : AsmRec). r.type_def) (λ (x : TypeDefRow). x.field_list_first) (λ (x : TypeDefRow). x.field_list_end) field_begins (test d.home d.rec) d.home.asm d.home.row k.0 d.rec d.row (members d.rec) d.there d.at k.1)

  -- a method with a type
  pub typed_has : (at t : RowAt) → type_of_method recs at ≡ Some t → Has recs has_method at
  typed_has at t e =
      let r = and_then_some (λ (rec : AsmRec). option_map (at_row at.asm) (owner_from owns_method at.row rec.type_def)) (slice_get recs at.asm) t e in
      let k = map_some (at_row at.asm) (owner_from owns_method at.row r.0.type_def) t r.2 in
      of_first recs (λ (r : AsmRec). r.type_def) (λ (x : TypeDefRow). x.method_list_first) (λ (x : TypeDefRow). x.method_list_end) at.asm at.row k.0 r.0 r.1 k.1
