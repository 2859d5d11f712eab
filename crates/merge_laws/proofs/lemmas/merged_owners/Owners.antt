-- Each kept member is in a run, and what has the run is kept.
use Rattle.std.proofs.Common.{◌≡◌, ◌<◌, ◌≤◌, ℕ, zero, suc, List, [], ◌∷◌, ◌++◌, map, Bool, true, false, nat_le, nat_lt, Option, Some, None, refl, sym, ap, ◌∙◌, arith}
use Rattle.std.specs.Prelude.{slice_get, if◌then◌else◌, ◌||◌}
use Rattle.std.specs.List.{Contains, flat_map, list_any, position_from}
use Rattle.std.specs.Option.{is_some, option_and_then, option_map}
use Rattle.std.proofs.lemmas.Bool.{and_parts, leb-true, ltb-true, eq-eqb}
use Rattle.std.proofs.lemmas.List.Elements.{Contains-append_left}
use Rattle.il_base.specs.declared.ids.Item.{Item}
use Rattle.il_base.specs.declared.table.TheConstants as table
use Rattle.descriptor_file.specs.declared.root.Root.{Root}
use Rattle.il_base.specs.declared.cli_format.column.Column.TheVariants.{Index}
use Rattle.il_base.specs.declared.world_model.types.TypeDefRow.{TypeDefRow}
use Rattle.il_base.specs.declared.world_model.members.PropertyMapRow.{PropertyMapRow}
use Rattle.il_base.specs.declared.world_model.members.EventMapRow.{EventMapRow}
use Rattle.il_base.specs.declared.world_model.record.AsmRec.{AsmRec}
use Rattle.il_base.specs.world_model.Tokens.{table_of, row_of as row_number, index_from, index_in}
use Rattle.il_base.specs.world_model.Records.{table_sizes, rows_in, Names}
use Rattle.il_base.specs.world_model.Worlds.{types_in}
use Rattle.rules.specs.declared.link_rules.row_at.RowAt.{RowAt}
use Rattle.rules.specs.link_rules.Types.{at_row}
use Rattle.rules.specs.link_rules.Members.{is_in_run, owns_method, owns_field, methods_in, fields_in}
use Rattle.rules.specs.link_rules.Cycles.{listed, same_row}
use Rattle.rules.specs.type_rules.Rows.{rec_at, owner_of_field}
use Rattle.rules.specs.type_rules.Slots.{owner_from, type_of_method}
use Rattle.base_laws.proofs.lemmas.type_laws.Places.{place_within, rows_decide}
use Rattle.base_laws.proofs.lemmas.walk_laws.Finds.{finds, found}
use Rattle.base_laws.proofs.lemmas.known_laws.Lists.{to_option, to_map, to_listed}
use Rattle.rules.specs.mark_rules.Facts.{Fact, by_one}
use Rattle.rules.specs.mark_rules.Facts.Fact.{marked}
use Rattle.rules.specs.mark_rules.Places.{row_of, marks_type, type_item, method_item, field_item, prop_item, event_item, props_in, events_in}
use Rattle.rules.specs.mark_rules.Naming.{of_parts}
use Rattle.rules.specs.mark_rules.Types.{parts_of_field, field_needs}
use Rattle.rules.specs.mark_rules.Calls.{owner_facts, parts_of_method, method_needs, makes, overrides_of, method_starts, field_starts}
use Rattle.rules.specs.mark_rules.Properties.{property_owner_in, event_owner_in, property_owner, event_owner, parts_of_property, parts_of_event, owned, property_needs, event_needs, accessed}
use Rattle.rules.specs.mark_rules.Attributes.{attribute_needs}
use Rattle.rules.specs.mark_rules.Dependencies.{dependency_needs}
use Rattle.rules.specs.mark_rules.Shown.{item_shows}
use Rattle.rules.specs.mark_rules.FlowMarks.{flow_marks}
use Rattle.rules.specs.mark_rules.Roots.{waiting_facts}
use Rattle.rules.specs.mark_rules.Marking.{row_needs, one, marking, Marks}
use Rattle.rules.specs.merge_rules.Numbers.{Kept, kept_types, kept_methods, kept_fields, kept_properties, kept_events, new_row}
use Rattle.rules.specs.merge_rules.Rows.{token_32, place_token, class_token}
use Rattle.merge_laws.specs.merged_record.Laws.{InputsAreRecords, HasOwner, OwnersAreKept}
use Rattle.merge_laws.proofs.lemmas.merged_record.Lists.{OfInput}
use Rattle.merge_laws.proofs.lemmas.merged_record.Tokens.{of_index, one_table}
use Rattle.merge_laws.proofs.lemmas.merged_record.Rows.{from_kept}
use Rattle.merge_laws.proofs.lemmas.merged_record.Owned.{to_kept}
use Rattle.merge_laws.specs.merged_owners.Laws.{AreMarked, AreKept, MarkedBelong, MembersBelong, OwnersStay, owns_property, owns_event}
use Rattle.merge_laws.proofs.lemmas.merged_owners.Homes.{passing, position_some, own_home}

-- ---- runs

pub record Within (first end k : ℕ) : Type 0 where
  pub begins : first ≤ suc k
  pub ends : suc k < end

pub within : (first end k : ℕ) → is_in_run first end (suc k) ≡ true → Within first end k
within first end k h =
    let p = and_parts (nat_le first (suc k)) (nat_lt (suc k) end) h in
    record { begins = leb-true first (suc k) p.0; ends = ltb-true (suc k) end p.1 }

-- the first row whose run has a member
record First {A : Type 0} (test : A → Bool) (xs : List A) : Type 0 where
  place : ℕ
  item : A
  there : slice_get xs place ≡ Some item
  passes : test item ≡ true
  first : position_from test 0 xs ≡ Some place

first_that : {A : Type 0} (test : A → Bool) (xs : List A) → list_any test xs ≡ true → First test xs
first_that test xs h =
    let p = passing test xs h in
    let f = finds test 0 xs p.place p.item p.there p.passes in
    let g = found test 0 xs f.0 f.1 in
    let z : f.0 ≡ g.place = omega (arith, g.is) in
    record { place = g.place; item = g.item; there = g.there; passes = g.passes; first = f.1 ∙ ap (λ (k : ℕ). Some k) z }

-- a map's row whose run has a member, and the type that it is of
record Mapped {A : Type 0} (test : A → Bool) (parent : A → ℕ) (rows : List A) (owner : Option ℕ) : Type 0 where
  place : ℕ
  row : A
  there : slice_get rows place ≡ Some row
  passes : test row ≡ true
  is : owner ≡ index_in table.TYPE_DEF (parent row)

module _ (k : ℕ) where
  abbrev has_property_run : PropertyMapRow → Bool
  has_property_run row = owns_property (suc k) row

  abbrev has_event_run : EventMapRow → Bool
  has_event_run row = owns_event (suc k) row

  property_by : (row : PropertyMapRow) (rows : List PropertyMapRow) (b : Bool) → has_property_run row ≡ b → (list_any has_property_run rows ≡ true → Mapped has_property_run (λ (r : PropertyMapRow). r.parent) rows (property_owner_in k rows))
      → (b || list_any has_property_run rows) ≡ true → Mapped has_property_run (λ (r : PropertyMapRow). r.parent) (row ∷ rows) (if b then index_in table.TYPE_DEF row.parent else property_owner_in k rows)
  property_by row rows true e more h = record { place = 0; row = row; there = refl; passes = e; is = refl }
  property_by row rows false e more h = let m = more h in record { place = suc m.place; row = m.row; there = m.there; passes = m.passes; is = m.is }

  property_mapped : (rows : List PropertyMapRow) → list_any has_property_run rows ≡ true → Mapped has_property_run (λ (r : PropertyMapRow). r.parent) rows (property_owner_in k rows)
  property_mapped [] h = absurd (cc)
  property_mapped (row ∷ rows) h = property_by row rows (has_property_run row) refl (property_mapped rows) h

  event_by : (row : EventMapRow) (rows : List EventMapRow) (b : Bool) → has_event_run row ≡ b → (list_any has_event_run rows ≡ true → Mapped has_event_run (λ (r : EventMapRow). r.parent) rows (event_owner_in k rows))
      → (b || list_any has_event_run rows) ≡ true → Mapped has_event_run (λ (r : EventMapRow). r.parent) (row ∷ rows) (if b then index_in table.TYPE_DEF row.parent else event_owner_in k rows)
  event_by row rows true e more h = record { place = 0; row = row; there = refl; passes = e; is = refl }
  event_by row rows false e more h = let m = more h in record { place = suc m.place; row = m.row; there = m.there; passes = m.passes; is = m.is }

  event_mapped : (rows : List EventMapRow) → list_any has_event_run rows ≡ true → Mapped has_event_run (λ (r : EventMapRow). r.parent) rows (event_owner_in k rows)
  event_mapped [] h = absurd (cc)
  event_mapped (row ∷ rows) h = event_by row rows (has_event_run row) refl (event_mapped rows) h

-- ---- a token of a type that is there

record NamesType (rec : AsmRec) (token : ℕ) : Type 0 where
  place : ℕ
  is : index_in table.TYPE_DEF token ≡ Some place
  below : place < types_in rec

types_there : (rec : AsmRec) (t : ℕ) → t ≡ table.TYPE_DEF → rows_in rec t ≡ types_in rec
unfolding table_sizes
types_there rec t e = rw e refl

row_there : (n count : ℕ) → 1 ≤ n → n ≤ count → (k : ℕ) × (index_from n ≡ Some k) × (k < count)
row_there zero count ge le = absurd (omega arith)
row_there (suc k) count ge le = (k, refl, omega arith)

names_type : (rec : AsmRec) (token : ℕ) → Names rec (Index table.TYPE_DEF) token → NamesType rec token
names_type rec token h =
    let n = of_index rec table.TYPE_DEF token h in
    let one : table_of token ≡ table.TYPE_DEF = sym (one_table table.TYPE_DEF (table_of token) n.table) in
    let long = types_there rec (table_of token) one in
    let le = n.within in
    let r = row_there (row_number token) (types_in rec) n.begins (omega (arith, le, long)) in
    record { place = r.0; is = ap (λ (b : Bool). if b then index_from (row_number token) else None) (eq-eqb (table_of token) table.TYPE_DEF one) ∙ r.1; below = r.2 }

-- ---- kept members

module _ (recs : List AsmRec) (entry : Option RowAt) (roots : List Root) (kept : Kept) (records : InputsAreRecords recs) (belong : MarkedBelong recs entry roots) (marks : AreMarked recs entry roots kept)
    (keeps : AreKept recs entry roots kept) where
  -- what the row of a marked item needs is marked
  row_needed : (i : Item) (at : RowAt) (f : Fact) → row_of recs i ≡ Some at → Marks recs entry roots (marked i) → Contains (row_needs recs i at) f → Marks recs entry roots f
  unfolding marking one
  row_needed i at f home m c =
      by_one (marked i) f m
      (Contains-append_left _ (flow_marks recs i) f
      (Contains-append_left _ (item_shows recs i) f
      (Contains-append_left _ (waiting_facts recs roots i) f
      (Contains-append_left _ (dependency_needs recs i) f
      (Contains-append_left (flat_map (row_needs recs i) (listed (row_of recs i))) (attribute_needs recs i) f (to_option (row_needs recs i) (row_of recs i) at f home c))))))

  type_there : (at : RowAt) (rec : AsmRec) → slice_get recs at.asm ≡ Some rec → at.row < types_in rec → row_of recs (type_item recs at) ≡ Some at
  unfolding row_of
  type_there at rec there lt = own_home types_in recs at rec there lt

  type_kept : (at : RowAt) (rec : AsmRec) → slice_get recs at.asm ≡ Some rec → at.row < types_in rec → Marks recs entry roots (marks_type recs at) → kept (type_item recs at) ≡ true
  type_kept at rec there lt m = keeps (type_item recs at) (ap (λ (x : Option RowAt). is_some x) (type_there at rec there lt)) m

  -- ---- fields

  field_home : (at : RowAt) (rec : AsmRec) → slice_get recs at.asm ≡ Some rec → at.row < fields_in rec → row_of recs (field_item recs at) ≡ Some at
  unfolding row_of
  field_home at rec there lt = own_home fields_in recs at rec there lt

  field_type : (at : RowAt) (rec : AsmRec) (t : ℕ) → slice_get recs at.asm ≡ Some rec → owner_of_field rec at.row ≡ Some t → Contains (row_needs recs (field_item recs at) at) (marks_type recs (at_row at.asm t))
  unfolding field_needs
  field_type at rec t there e =
      Contains-append_left (flat_map (λ (r : AsmRec). map (λ u. marks_type recs (at_row at.asm u)) (listed (owner_of_field r at.row))) (listed (rec_at recs at)) ++ of_parts (parts_of_field recs at)) (field_starts recs at)
      (marks_type recs (at_row at.asm t))
      (Contains-append_left (flat_map (λ (r : AsmRec). map (λ u. marks_type recs (at_row at.asm u)) (listed (owner_of_field r at.row))) (listed (rec_at recs at))) (of_parts (parts_of_field recs at))
      (marks_type recs (at_row at.asm t))
      (to_option (λ (r : AsmRec). map (λ u. marks_type recs (at_row at.asm u)) (listed (owner_of_field r at.row))) (rec_at recs at) rec (marks_type recs (at_row at.asm t)) there
      (to_map (λ u. marks_type recs (at_row at.asm u)) (listed (owner_of_field rec at.row)) t (to_listed (owner_of_field rec at.row) t e))))

  fields : (m : RowAt) → Contains (kept_fields recs kept) m
      → HasOwner recs (λ rec. rec.type_def) (λ (t : TypeDefRow). t.field_list_first) (λ (t : TypeDefRow). t.field_list_end) (λ a k t. kept (type_item recs (at_row a k))) m
  unfolding kept_fields
  fields m c =
      let i = from_kept fields_in (field_item recs) recs kept m c in
      let there = i.input.there in
      let mark = marks (field_item recs m) i.passes in
      let f = first_that (owns_field (suc m.row)) i.rec.type_def (belong.fields m i.rec i.input.within there i.below mark) in
      let w = within f.item.field_list_first f.item.field_list_end m.row f.passes in
      let t = row_needed (field_item recs m) m (marks_type recs (at_row m.asm f.place)) (field_home m i.rec there i.below) mark (field_type m i.rec f.place there f.first) in
      record { rec = i.rec; there = there; place = f.place; row = f.item; is = f.there; begins = w.begins; ends = w.ends; kept = type_kept (at_row m.asm f.place) i.rec there (place_within i.rec.type_def f.place f.item f.there) t }

  -- ---- methods

  method_home : (at : RowAt) (rec : AsmRec) → slice_get recs at.asm ≡ Some rec → at.row < methods_in rec → row_of recs (method_item recs at) ≡ Some at
  unfolding row_of
  method_home at rec there lt = own_home methods_in recs at rec there lt

  method_type : (at : RowAt) (rec : AsmRec) (t : ℕ) → slice_get recs at.asm ≡ Some rec → owner_from owns_method at.row rec.type_def ≡ Some t
      → Contains (row_needs recs (method_item recs at) at) (marks_type recs (at_row at.asm t))
  unfolding method_needs
  method_type at rec t there e =
      let own : type_of_method recs at ≡ Some (at_row at.asm t) =
      ap (option_and_then (λ (r : AsmRec). option_map (at_row at.asm) (owner_from owns_method at.row r.type_def))) there ∙ ap (option_map (at_row at.asm)) e in
      Contains-append_left _ (accessed recs at) (marks_type recs (at_row at.asm t))
      (Contains-append_left _ (method_starts recs at) (marks_type recs (at_row at.asm t))
      (Contains-append_left _ (overrides_of recs at) (marks_type recs (at_row at.asm t))
      (Contains-append_left (owner_facts recs at ++ of_parts (parts_of_method recs at)) (makes recs at) (marks_type recs (at_row at.asm t))
      (Contains-append_left (owner_facts recs at) (of_parts (parts_of_method recs at)) (marks_type recs (at_row at.asm t))
      (to_map (marks_type recs) (listed (type_of_method recs at)) (at_row at.asm t) (to_listed (type_of_method recs at) (at_row at.asm t) own))))))

  methods : (m : RowAt) → Contains (kept_methods recs kept) m
      → HasOwner recs (λ rec. rec.type_def) (λ (t : TypeDefRow). t.method_list_first) (λ (t : TypeDefRow). t.method_list_end) (λ a k t. kept (type_item recs (at_row a k))) m
  unfolding kept_methods
  methods m c =
      let i = from_kept methods_in (method_item recs) recs kept m c in
      let there = i.input.there in
      let mark = marks (method_item recs m) i.passes in
      let f = first_that (owns_method (suc m.row)) i.rec.type_def (belong.methods m i.rec i.input.within there i.below mark) in
      let w = within f.item.method_list_first f.item.method_list_end m.row f.passes in
      let t = row_needed (method_item recs m) m (marks_type recs (at_row m.asm f.place)) (method_home m i.rec there i.below) mark (method_type m i.rec f.place there f.first) in
      record { rec = i.rec; there = there; place = f.place; row = f.item; is = f.there; begins = w.begins; ends = w.ends; kept = type_kept (at_row m.asm f.place) i.rec there (place_within i.rec.type_def f.place f.item f.there) t }

  -- ---- the type of a map's row

  class_some : (a token place : ℕ) (rec : AsmRec) → OfInput recs a rec → index_in table.TYPE_DEF token ≡ Some place → place < types_in rec → kept (type_item recs (at_row a place)) ≡ true → is_some (class_token recs kept a token) ≡ true
  unfolding kept_types
  class_some a token place rec input is lt h =
      let c = to_kept types_in (type_item recs) recs kept (at_row a place) rec input lt h in
      let s = position_some (same_row (at_row a place)) (kept_types recs kept) (at_row a place) c ((rows_decide (at_row a place) (at_row a place)).1 refl) in
      ap (λ (x : Option ℕ). is_some (option_and_then (λ k. place_token table.TYPE_DEF (kept_types recs kept) (at_row a k)) x)) is
      ∙ mapped (new_row (kept_types recs kept) (at_row a place)) s
    where
      mapped : (o : Option ℕ) → is_some o ≡ true → is_some (option_map (token_32 table.TYPE_DEF) o) ≡ true
      mapped None e = absurd (cc)
      mapped (Some n) e = refl

  owned_in : (owner : AsmRec → ℕ → Option ℕ) (at : RowAt) (rec : AsmRec) (t : ℕ) → slice_get recs at.asm ≡ Some rec → owner rec at.row ≡ Some t → Contains (owned recs owner at) (marks_type recs (at_row at.asm t))
  owned_in owner at rec t there e =
      to_option (λ (r : AsmRec). map (λ u. marks_type recs (at_row at.asm u)) (listed (owner r at.row))) (rec_at recs at) rec (marks_type recs (at_row at.asm t)) there
      (to_map (λ u. marks_type recs (at_row at.asm u)) (listed (owner rec at.row)) t (to_listed (owner rec at.row) t e))

  -- ---- properties

  property_home : (at : RowAt) (rec : AsmRec) → slice_get recs at.asm ≡ Some rec → at.row < props_in rec → row_of recs (prop_item recs at) ≡ Some at
  unfolding row_of
  property_home at rec there lt = own_home props_in recs at rec there lt

  property_type : (at : RowAt) (rec : AsmRec) (t : ℕ) → slice_get recs at.asm ≡ Some rec → property_owner_in at.row rec.property_map ≡ Some t → Contains (row_needs recs (prop_item recs at) at) (marks_type recs (at_row at.asm t))
  unfolding property_needs property_owner
  property_type at rec t there e =
      Contains-append_left (owned recs property_owner at) (of_parts (parts_of_property recs at)) (marks_type recs (at_row at.asm t)) (owned_in property_owner at rec t there e)

  properties : (m : RowAt) → Contains (kept_properties recs kept) m
      → HasOwner recs (λ rec. rec.property_map) (λ (t : PropertyMapRow). t.property_list_first) (λ (t : PropertyMapRow). t.property_list_end) (λ a k t. is_some (class_token recs kept a t.parent)) m
  unfolding kept_properties
  properties m c =
      let i = from_kept props_in (prop_item recs) recs kept m c in
      let there = i.input.there in
      let mark = marks (prop_item recs m) i.passes in
      let p = property_mapped m.row i.rec.property_map (belong.properties m i.rec i.input.within there i.below mark) in
      let n = names_type i.rec p.row.parent ((records m.asm i.rec i.input.within there).tokens.property_maps p.place p.row p.there) in
      let w = within p.row.property_list_first p.row.property_list_end m.row p.passes in
      let t = row_needed (prop_item recs m) m (marks_type recs (at_row m.asm n.place)) (property_home m i.rec there i.below) mark (property_type m i.rec n.place there (p.is ∙ n.is)) in
      record {
        rec = i.rec;
        there = there;
        place = p.place;
        row = p.row;
        is = p.there;
        begins = w.begins;
        ends = w.ends;
        kept = class_some m.asm p.row.parent n.place i.rec i.input n.is n.below (type_kept (at_row m.asm n.place) i.rec there n.below t);
      }

  -- ---- events

  event_home : (at : RowAt) (rec : AsmRec) → slice_get recs at.asm ≡ Some rec → at.row < events_in rec → row_of recs (event_item recs at) ≡ Some at
  unfolding row_of
  event_home at rec there lt = own_home events_in recs at rec there lt

  event_type : (at : RowAt) (rec : AsmRec) (t : ℕ) → slice_get recs at.asm ≡ Some rec → event_owner_in at.row rec.event_map ≡ Some t → Contains (row_needs recs (event_item recs at) at) (marks_type recs (at_row at.asm t))
  unfolding event_needs event_owner
  event_type at rec t there e =
      Contains-append_left (owned recs event_owner at) (of_parts (parts_of_event recs at)) (marks_type recs (at_row at.asm t)) (owned_in event_owner at rec t there e)

  events : (m : RowAt) → Contains (kept_events recs kept) m
      → HasOwner recs (λ rec. rec.event_map) (λ (t : EventMapRow). t.event_list_first) (λ (t : EventMapRow). t.event_list_end) (λ a k t. is_some (class_token recs kept a t.parent)) m
  unfolding kept_events
  events m c =
      let i = from_kept events_in (event_item recs) recs kept m c in
      let there = i.input.there in
      let mark = marks (event_item recs m) i.passes in
      let p = event_mapped m.row i.rec.event_map (belong.events m i.rec i.input.within there i.below mark) in
      let n = names_type i.rec p.row.parent ((records m.asm i.rec i.input.within there).tokens.event_maps p.place p.row p.there) in
      let w = within p.row.event_list_first p.row.event_list_end m.row p.passes in
      let t = row_needed (event_item recs m) m (marks_type recs (at_row m.asm n.place)) (event_home m i.rec there i.below) mark (event_type m i.rec n.place there (p.is ∙ n.is)) in
      record {
        rec = i.rec;
        there = there;
        place = p.place;
        row = p.row;
        is = p.there;
        begins = w.begins;
        ends = w.ends;
        kept = class_some m.asm p.row.parent n.place i.rec i.input n.is n.below (type_kept (at_row m.asm n.place) i.rec there n.below t);
      }

  owners_kept : OwnersAreKept recs kept
  owners_kept = record { fields = fields; methods = methods; properties = properties; events = events }

pub owners_stay : MembersBelong → OwnersStay
owners_stay belong recs entry roots kept records marks keeps = owners_kept recs entry roots kept records (belong recs entry roots records) marks keeps
