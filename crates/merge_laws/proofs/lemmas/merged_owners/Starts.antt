-- What descriptors keep, and what is marked before any rule is used, belongs to something.
use Rattle.std.proofs.Common.{◌≡◌, ℕ, suc, List, [], ◌∷◌, ◌++◌, length, map, Bool, true, false, Option, Some, None, refl, sym, ap, subst, arith}
use Rattle.std.specs.Prelude.{slice_get, if◌then◌else◌, nat_eq, ◌==◌, ◌||◌}
use Rattle.std.specs.List.{flat_map, filter, list_any}
use Rattle.std.proofs.lemmas.Bool.{eqb-true}
use Rattle.il_base.specs.declared.ids.TypeId.{TypeId}
use Rattle.il_base.specs.declared.ids.Item.{Item}
use Rattle.il_base.specs.declared.ids.Item.TheVariants as item
use Rattle.descriptor_file.specs.declared.root.Root.{Root}
use Rattle.descriptor_file.specs.declared.root.RootMember.{RootMember}
use Rattle.descriptor_file.specs.declared.root.preserve.TheConstants as preserve
use Rattle.descriptor_file.specs.declared.root.member.TheConstants as member
use Rattle.il_base.specs.declared.world_model.types.TypeDefRow.{TypeDefRow}
use Rattle.il_base.specs.declared.world_model.record.AsmRec.{AsmRec}
use Rattle.il_base.specs.world_model.Worlds.{type_id}
use Rattle.rules.specs.declared.link_rules.row_at.RowAt.{RowAt}
use Rattle.rules.specs.link_rules.Types.{at_row}
use Rattle.rules.specs.link_rules.Members.{home_from, methods_in, fields_in}
use Rattle.rules.specs.link_rules.Cycles.{listed}
use Rattle.rules.specs.type_rules.Rows.{each_row, fields_of_type, is_module_type, methods_of_type}
use Rattle.rules.specs.type_rules.Slots.{type_of_method}
use Rattle.base_laws.proofs.lemmas.known_laws.Lists.{from_any}
use Rattle.rules.specs.mark_rules.Facts.{Fact}
use Rattle.rules.specs.mark_rules.Facts.Fact.{marked, instantiated, reflected, shown}
use Rattle.rules.specs.mark_rules.Places.{row_of, is_core, marks_type, marks_method, marks_field, props_in, events_in}
use Rattle.rules.specs.mark_rules.Properties.{whole_property, whole_event}
use Rattle.rules.specs.mark_rules.Members.{is_constructor, has_method_row, properties_of_type, events_of_type}
use Rattle.rules.specs.mark_rules.Attributes.{is_property_called}
use Rattle.rules.specs.mark_rules.Dependencies.{is_event_called}
use Rattle.rules.specs.mark_rules.Roots.{input_named, keeps_method, all_methods, all_fields, all_members, preserved, fits_method, fits_field, member_by, root_members, whole_assembly, root_type, no_type, root_facts, waits_for, waiting_facts, module_facts, entry_facts, start_facts}
use Rattle.rules.specs.mark_rules.Marking.{same_item, same_fact, is_core_fact, given}
use Rattle.merge_laws.specs.merged_record.Laws.{InputsAreRecords}
use Rattle.merge_laws.specs.merged_owners.Laws.{has_method, has_field, has_property, has_event}
use Rattle.merge_laws.proofs.lemmas.merged_owners.Homes.{Placed}
use Rattle.merge_laws.proofs.lemmas.merged_owners.Every.{Every, all_none, all_more, all_one, all_join, all_if, all_either, all_filter, all_flat, all_option, all_each, every_map, some_of}
use Rattle.merge_laws.proofs.lemmas.merged_owners.Runs.{OfItem, OfFact, Fine, Has, methods_have, fields_have, properties_have, events_have, method_fine, field_fine, typed_has}
use Rattle.merge_laws.proofs.lemmas.merged_owners.Members.{whole_property_fine, whole_event_fine, kept_method_fine}

module _ (recs : List AsmRec) (records : InputsAreRecords recs) where
  -- ---- what an element keeps

  methods_kept : (t : RowAt) (ms : List RowAt) → Every (Has recs has_method) ms → Fine recs (flat_map (keeps_method recs t) ms)
  methods_kept t ms h = all_flat (OfFact recs) (keeps_method recs t) ms (λ m c. kept_method_fine recs records (has_method_row recs is_constructor m) t m (h.each m c))

  fields_kept : (fs : List RowAt) → Every (Has recs has_field) fs → Fine recs (map (marks_field recs) fs)
  fields_kept fs h = every_map (Has recs has_field) (OfFact recs) (marks_field recs) fs (λ x e. field_fine recs records x e) h

  properties_kept : (ps : List RowAt) → Every (Has recs has_property) ps → Fine recs (flat_map (whole_property recs) ps)
  properties_kept ps h = all_flat (OfFact recs) (whole_property recs) ps (λ p c. whole_property_fine recs records p (h.each p c))

  events_kept : (es : List RowAt) → Every (Has recs has_event) es → Fine recs (flat_map (whole_event recs) es)
  events_kept es h = all_flat (OfFact recs) (whole_event recs) es (λ e c. whole_event_fine recs records e (h.each e c))

  all_methods_fine : (t : RowAt) → Fine recs (all_methods recs t)
  all_methods_fine t = methods_kept t (methods_of_type recs t) (methods_have recs records t)

  all_fields_fine : (t : RowAt) → Fine recs (all_fields recs t)
  all_fields_fine t = fields_kept (fields_of_type recs t) (fields_have recs records t)

  all_members_fine : (t : RowAt) → Fine recs (all_members recs t)
  all_members_fine t =
      all_join (OfFact recs) (all_methods recs t ++ all_fields recs t ++ flat_map (whole_property recs) (properties_of_type recs t)) (flat_map (whole_event recs) (events_of_type recs t))
      (all_join (OfFact recs) (all_methods recs t ++ all_fields recs t) (flat_map (whole_property recs) (properties_of_type recs t))
      (all_join (OfFact recs) (all_methods recs t) (all_fields recs t) (all_methods_fine t) (all_fields_fine t)) (properties_kept (properties_of_type recs t) (properties_have recs records t)))
      (events_kept (events_of_type recs t) (events_have recs records t))

  preserved_fine : (t : RowAt) (kind : ℕ) → Fine recs (preserved recs t kind)
  preserved_fine t kind =
      all_either (OfFact recs) (kind == preserve.FIELDS) (all_fields recs t)
      (if kind == preserve.METHODS then all_methods recs t else if kind == preserve.ALL then all_members recs t else []) (all_fields_fine t)
      (all_either (OfFact recs) (kind == preserve.METHODS) (all_methods recs t) (if kind == preserve.ALL then all_members recs t else []) (all_methods_fine t)
      (all_if (OfFact recs) (kind == preserve.ALL) (all_members recs t) (λ h. all_members_fine t)))

  member_fine : (t : RowAt) (r : RootMember) → Fine recs (member_by recs t r)
  member_fine t r =
      let ms : List RowAt = filter (fits_method recs r t) (methods_of_type recs t) in
      let fs : List RowAt = filter (fits_field recs r t) (fields_of_type recs t) in
      let ps : List RowAt = filter (is_property_called recs r.text) (properties_of_type recs t) in
      let es : List RowAt = filter (is_event_called recs r.text) (events_of_type recs t) in
      all_either (OfFact recs) (r.kind == member.METHOD) (flat_map (keeps_method recs t) ms)
      (if r.kind == member.FIELD then map (marks_field recs) fs else if r.kind == member.PROPERTY then flat_map (whole_property recs) ps else flat_map (whole_event recs) es)
      (methods_kept t ms (all_filter (Has recs has_method) (fits_method recs r t) (methods_of_type recs t) (methods_have recs records t)))
      (all_either (OfFact recs) (r.kind == member.FIELD) (map (marks_field recs) fs) (if r.kind == member.PROPERTY then flat_map (whole_property recs) ps else flat_map (whole_event recs) es)
      (fields_kept fs (all_filter (Has recs has_field) (fits_field recs r t) (fields_of_type recs t) (fields_have recs records t)))
      (all_either (OfFact recs) (r.kind == member.PROPERTY) (flat_map (whole_property recs) ps) (flat_map (whole_event recs) es)
      (properties_kept ps (all_filter (Has recs has_property) (is_property_called recs r.text) (properties_of_type recs t) (properties_have recs records t)))
      (events_kept es (all_filter (Has recs has_event) (is_event_called recs r.text) (events_of_type recs t) (events_have recs records t)))))

  root_members_fine : (t : RowAt) (r : Root) → Fine recs (root_members recs t r)
  root_members_fine t r =
      all_join (OfFact recs) (preserved recs t r.preserve) (flat_map (member_by recs t) r.members) (preserved_fine t r.preserve)
      (all_flat (OfFact recs) (member_by recs t) r.members (λ m c. member_fine t m))

  whole_assembly_fine : (a : ℕ) → Fine recs (whole_assembly recs a)
  whole_assembly_fine a =
      all_option (OfFact recs) (λ (rec : AsmRec). each_row (λ k t. if is_module_type k t then [] else marks_type recs (at_row a k) ∷ all_members recs (at_row a k)) rec.type_def) (slice_get recs a)
      (λ rec there.
      all_each (OfFact recs) (λ k t. if is_module_type k t then [] else marks_type recs (at_row a k) ∷ all_members recs (at_row a k)) rec.type_def
      (λ k t e.
      all_either (OfFact recs) (is_module_type k t) [] (marks_type recs (at_row a k) ∷ all_members recs (at_row a k)) (all_none (OfFact recs))
      (all_more (OfFact recs) (marks_type recs (at_row a k)) (all_members recs (at_row a k)) tt (all_members_fine (at_row a k)))))

  root_fine : (r : Root) → Fine recs (root_facts recs r)
  unfolding root_facts
  root_fine r =
      all_either (OfFact recs) (no_type r) (flat_map (whole_assembly recs) (listed (input_named recs r.asm)))
      (if r.required then flat_map (λ t. marks_type recs t ∷ root_members recs t r) (listed (root_type recs r)) else [])
      (all_option (OfFact recs) (whole_assembly recs) (input_named recs r.asm) (λ a e. whole_assembly_fine a))
      (all_if (OfFact recs) r.required (flat_map (λ t. marks_type recs t ∷ root_members recs t r) (listed (root_type recs r)))
      (λ h.
      all_option (OfFact recs) (λ t. marks_type recs t ∷ root_members recs t r) (root_type recs r)
      (λ t e. all_more (OfFact recs) (marks_type recs t) (root_members recs t r) tt (root_members_fine t r))))

  waits_type : (t : TypeId) (r : Root) → Fine recs (waits_for recs (item.Typ t) r)
  waits_type t r =
      all_either (OfFact recs) (no_type r || r.required) []
      (flat_map (λ (at : RowAt). if nat_eq (type_id recs at.asm at.row).0 t.0 then root_members recs at r else []) (listed (root_type recs r))) (all_none (OfFact recs))
      (all_option (OfFact recs) (λ (at : RowAt). if nat_eq (type_id recs at.asm at.row).0 t.0 then root_members recs at r else []) (root_type recs r)
      (λ at e. all_if (OfFact recs) (nat_eq (type_id recs at.asm at.row).0 t.0) (root_members recs at r) (λ h. root_members_fine at r)))

  waits_fine : (i : Item) (r : Root) → Fine recs (waits_for recs i r)
  waits_fine (item.Asm a) r = all_none (OfFact recs)
  waits_fine (item.Typ t) r = waits_type t r
  waits_fine (item.Method m) r = all_none (OfFact recs)
  waits_fine (item.Field f) r = all_none (OfFact recs)
  waits_fine (item.Prop p) r = all_none (OfFact recs)
  waits_fine (item.Event e) r = all_none (OfFact recs)
  waits_fine (item.Impl i) r = all_none (OfFact recs)

  pub waiting_fine : (roots : List Root) (i : Item) → Fine recs (waiting_facts recs roots i)
  unfolding waiting_facts
  waiting_fine roots i = all_flat (OfFact recs) (waits_for recs i) roots (λ r c. waits_fine i r)

  -- ---- the start

  module_by : (o : Option TypeDefRow) → Fine recs (map (λ (t : TypeDefRow). marks_type recs (at_row 0 0)) (listed o))
  module_by None = all_none (OfFact recs)
  module_by (Some t) = all_one (OfFact recs) (marks_type recs (at_row 0 0)) tt

  module_fine : Fine recs (module_facts recs)
  module_fine =
      all_option (OfFact recs) (λ (rec : AsmRec). map (λ (t : TypeDefRow). marks_type recs (at_row 0 0)) (listed (slice_get rec.type_def 0))) (slice_get recs 0)
      (λ rec there. module_by (slice_get rec.type_def 0))

  entry_by : (at : RowAt) (o : Option RowAt) → type_of_method recs at ≡ o → Fine recs (map (λ t. marks_method recs at) (listed o))
  entry_by at None e = all_none (OfFact recs)
  entry_by at (Some t) e = all_one (OfFact recs) (marks_method recs at) (method_fine recs records at (typed_has recs records at t e))

  entry_fine : (entry : Option RowAt) → Fine recs (entry_facts recs entry)
  entry_fine entry =
      all_option (OfFact recs) (λ (at : RowAt). map (λ t. marks_method recs at) (listed (type_of_method recs at))) entry (λ at e. entry_by at (type_of_method recs at) refl)

  start_fine : (entry : Option RowAt) (roots : List Root) → Fine recs (start_facts recs entry roots)
  unfolding start_facts
  start_fine entry roots =
      let first : Fact = marked (item.Asm (record { 0 = 0 })) in
      all_more (OfFact recs) first (module_facts recs ++ entry_facts recs entry ++ flat_map (root_facts recs) roots) tt
      (all_join (OfFact recs) (module_facts recs ++ entry_facts recs entry) (flat_map (root_facts recs) roots)
      (all_join (OfFact recs) (module_facts recs) (entry_facts recs entry) module_fine (entry_fine entry)) (all_flat (OfFact recs) (root_facts recs) roots (λ r c. root_fine r)))

  -- ---- facts of one number

  one_number : (count : AsmRec → ℕ) (has : AsmRec → ℕ → Bool) (m n : ℕ) → nat_eq m n ≡ true → Placed count has recs n → Placed count has recs m
  one_number count has m n e h = subst (Placed count has recs) (sym (eqb-true m n e)) h

  item_as : (i j : Item) → same_item i j ≡ true → OfItem recs j → OfItem recs i
  item_as (item.Asm a) j e h = tt
  item_as (item.Typ t) j e h = tt
  item_as (item.Impl i) j e h = tt
  item_as (item.Method a) (item.Method b) e h = one_number methods_in has_method a.0 b.0 e h
  item_as (item.Method a) (item.Asm b) e h = absurd (cc)
  item_as (item.Method a) (item.Typ b) e h = absurd (cc)
  item_as (item.Method a) (item.Field b) e h = absurd (cc)
  item_as (item.Method a) (item.Prop b) e h = absurd (cc)
  item_as (item.Method a) (item.Event b) e h = absurd (cc)
  item_as (item.Method a) (item.Impl b) e h = absurd (cc)
  item_as (item.Field a) (item.Field b) e h = one_number fields_in has_field a.0 b.0 e h
  item_as (item.Field a) (item.Asm b) e h = absurd (cc)
  item_as (item.Field a) (item.Typ b) e h = absurd (cc)
  item_as (item.Field a) (item.Method b) e h = absurd (cc)
  item_as (item.Field a) (item.Prop b) e h = absurd (cc)
  item_as (item.Field a) (item.Event b) e h = absurd (cc)
  item_as (item.Field a) (item.Impl b) e h = absurd (cc)
  item_as (item.Prop a) (item.Prop b) e h = one_number props_in has_property a.0 b.0 e h
  item_as (item.Prop a) (item.Asm b) e h = absurd (cc)
  item_as (item.Prop a) (item.Typ b) e h = absurd (cc)
  item_as (item.Prop a) (item.Method b) e h = absurd (cc)
  item_as (item.Prop a) (item.Field b) e h = absurd (cc)
  item_as (item.Prop a) (item.Event b) e h = absurd (cc)
  item_as (item.Prop a) (item.Impl b) e h = absurd (cc)
  item_as (item.Event a) (item.Event b) e h = one_number events_in has_event a.0 b.0 e h
  item_as (item.Event a) (item.Asm b) e h = absurd (cc)
  item_as (item.Event a) (item.Typ b) e h = absurd (cc)
  item_as (item.Event a) (item.Method b) e h = absurd (cc)
  item_as (item.Event a) (item.Field b) e h = absurd (cc)
  item_as (item.Event a) (item.Prop b) e h = absurd (cc)
  item_as (item.Event a) (item.Impl b) e h = absurd (cc)

  fact_as : (f g : Fact) → same_fact f g ≡ true → OfFact recs g → OfFact recs f
  fact_as (marked i) (marked j) e h = item_as i j e h
  fact_as (marked i) (instantiated t) e h = absurd (cc)
  fact_as (marked i) (reflected j) e h = absurd (cc)
  fact_as (marked i) (shown t) e h = absurd (cc)
  fact_as (instantiated t) g e h = tt
  fact_as (reflected i) g e h = tt
  fact_as (shown t) g e h = tt

  -- ---- the core library is no input

  core_by : (count : AsmRec → ℕ) (has : AsmRec → ℕ → Bool) (n : ℕ) (x : RowAt) → home_from count 0 recs n ≡ Some x → (suc x.asm == length recs) ≡ true → Placed count has recs n
  core_by count has n x e h = record {
    is = λ at rec home lt there.
        let same : x ≡ at = cc in
        let a : x.asm ≡ at.asm = ap (λ (y : RowAt). y.asm) same in
        let z : suc x.asm ≡ length recs = eqb-true (suc x.asm) (length recs) h in
        absurd (omega (arith, lt, a, z));
  }

  core_placed : (count : AsmRec → ℕ) (has : AsmRec → ℕ → Bool) (n : ℕ) → list_any (λ (at : RowAt). suc at.asm == length recs) (listed (home_from count 0 recs n)) ≡ true → Placed count has recs n
  core_placed count has n h = let s = some_of (λ (at : RowAt). suc at.asm == length recs) (home_from count 0 recs n) h in core_by count has n s.0 s.1 s.2

  core_item : (i : Item) → is_core recs i ≡ true → OfItem recs i
  unfolding is_core row_of
  core_item (item.Asm a) h = tt
  core_item (item.Typ t) h = tt
  core_item (item.Method m) h = core_placed methods_in has_method m.0 h
  core_item (item.Field f) h = core_placed fields_in has_field f.0 h
  core_item (item.Prop p) h = core_placed props_in has_property p.0 h
  core_item (item.Event e) h = core_placed events_in has_event e.0 h
  core_item (item.Impl i) h = tt

  core_fact : (f : Fact) → is_core_fact recs f ≡ true → OfFact recs f
  core_fact (marked i) h = core_item i h
  core_fact (instantiated t) h = tt
  core_fact (reflected i) h = tt
  core_fact (shown t) h = tt

  given_by : (entry : Option RowAt) (roots : List Root) (f : Fact) (b : Bool) → is_core_fact recs f ≡ b → (b || list_any (same_fact f) (start_facts recs entry roots)) ≡ true → OfFact recs f
  given_by entry roots f true e h = core_fact f e
  given_by entry roots f false e h = let x = from_any (same_fact f) (start_facts recs entry roots) h in fact_as f x.0 x.2 ((start_fine entry roots).each x.0 x.1)

  pub given_fine : (entry : Option RowAt) (roots : List Root) (f : Fact) → given recs entry roots f ≡ true → OfFact recs f
  unfolding given
  given_fine entry roots f h = given_by entry roots f (is_core_fact recs f) refl h
