-- The members that attributes, kinds of members and dependencies name belong to something.
use Rattle.std.proofs.Common.{◌≡◌, ℕ, zero, suc, List, [], ◌∷◌, ◌++◌, length, map, Bool, true, false, Option, Some, None, refl, ap, subst}
use Rattle.std.specs.Prelude.{slice_get, if◌then◌else◌, ◌==◌, ◌&&◌, ◌%◌}
use Rattle.std.specs.List.{Contains, flat_map, filter}
use Rattle.il_base.specs.declared.ids.Item.{Item}
use Rattle.il_base.specs.declared.table.TheConstants as table
use Rattle.il_base.specs.declared.semantics.TheConstants.{SETTER}
use Rattle.attr_blobs.specs.declared.value.NamedArg.{NamedArg}
use Rattle.attr_blobs.specs.declared.value.AttrValue.{AttrValue}
use Rattle.il_base.specs.declared.world_model.known.Known.{Known}
use Rattle.il_base.specs.declared.world_model.known.Known.TheVariants.{Good, Bad}
use Rattle.il_base.specs.declared.world_model.expr.TypeExpr.{TypeExpr}
use Rattle.il_base.specs.declared.world_model.expr.MethodUse.{MethodUse}
use Rattle.il_base.specs.declared.world_model.extras.CustomAttributeRow.{CustomAttributeRow}
use Rattle.il_base.specs.declared.world_model.record.AsmRec.{AsmRec}
use Rattle.il_base.specs.world_model.Tokens.{token_of, index_in}
use Rattle.il_base.specs.world_model.Worlds.{type_id}
use Rattle.rules.specs.declared.link_rules.row_at.RowAt.{RowAt}
use Rattle.rules.specs.link_rules.Types.{at_row}
use Rattle.rules.specs.link_rules.Members.{with_bases}
use Rattle.rules.specs.link_rules.Cycles.{listed, home_of}
use Rattle.rules.specs.type_rules.Rows.{rec_at, fields_of_type, methods_of_type}
use Rattle.rules.specs.type_rules.Slots.{nearest}
use Rattle.rules.specs.type_rules.Searches.{has_owner}
use Rattle.base_laws.proofs.lemmas.walk_laws.Finds.{nearest_is}
use Rattle.base_laws.proofs.lemmas.known_laws.Lists.{none_in, first_in, one_is, from_listed, map_some}
use Rattle.rules.specs.declared.mark_rules.member_kinds.TheConstants as kind
use Rattle.rules.specs.mark_rules.Facts.{Fact}
use Rattle.rules.specs.mark_rules.Facts.Fact.{marked, instantiated}
use Rattle.rules.specs.mark_rules.Places.{row_of, marks_type, marks_method, marks_field, type_item, method_item, field_item, prop_item, event_item, impl_item}
use Rattle.rules.specs.mark_rules.Naming.{of_expr, of_method_use, mark_types, method_named}
use Rattle.rules.specs.mark_rules.Properties.{property_owner, event_owner, is_there, accessor_in, accessors_by, property_accessors, event_accessors, whole_property, whole_event}
use Rattle.rules.specs.mark_rules.Attributes.{attributes_of, value_of, value_types, is_field_named, fields_named_in, head_of, field_facts, is_property_called, properties_called_in, setter_in, setters_of, setter_facts, flat, named_member, is_input_method, value_facts, row_facts, good_uses, attribute_facts, attribute_needs}
use Rattle.rules.specs.mark_rules.Members.{pair, lineage, is_own, is_constructor, has_method_row, constructor_counts, constructors_by, method_counts, methods_by, has_field_row, counts, fields_by, properties_of_type, events_of_type, accessors_count, properties_by, events_by, nested_in, nested_counts, whole_type, whole_within, whole_nested, nested_by, impls_by, members_by}
use Rattle.rules.specs.mark_rules.Annotations.{dependencies}
use Rattle.rules.specs.mark_rules.Dependencies.{sought_in, plain, has_parameters, is_method_called, is_event_called, with_made, methods_called, others_called, members_called, members_of_kinds, dependency_members, dependency_facts, dependency_needs}
use Rattle.merge_laws.specs.merged_record.Laws.{InputsAreRecords}
use Rattle.merge_laws.specs.merged_owners.Laws.{has_method, has_field, has_property, has_event}
use Rattle.merge_laws.proofs.lemmas.merged_owners.Every.{Every, all_none, all_more, all_one, all_join, all_if, all_either, all_filter, all_passing, all_flat, all_option, all_map, every_map}
use Rattle.merge_laws.proofs.lemmas.merged_owners.Runs.{OfItem, OfFact, Fine, Has, methods_have, fields_have, properties_have, events_have, method_fine, field_fine, property_fine, event_fine}
use Rattle.merge_laws.proofs.lemmas.merged_owners.Uses.{types_fine, expr_fine, method_use_fine, method_named_fine}
use Rattle.merge_laws.proofs.lemmas.merged_owners.Rules.{owner_has}

head_in : {A : Type 0} (xs : List A) (x : A) → head_of xs ≡ Some x → Contains xs x
head_in [] x e = absurd (cc)
head_in (y ∷ xs) x e = let same : y ≡ x = cc in subst (λ z. Contains (y ∷ xs) z) same (first_in y xs)

good_in : (x : Known MethodUse) (u : MethodUse) → Contains (good_uses x) u → x ≡ Good u
good_in (Good v) u c = ap (λ (z : MethodUse). Good z) (one_is v u c)
good_in (Bad why) u c = absurd (none_in u c)

module _ (recs : List AsmRec) (records : InputsAreRecords recs) where
  -- ---- attributes

  fields_named_have : (name : List ℕ) (e : TypeExpr) → Every (Has recs has_field) (fields_named_in recs name e)
  fields_named_have name e =
      all_filter (Has recs has_field) (is_field_named recs name) (flat_map (fields_of_type recs) (listed (home_of recs e)))
      (all_flat (Has recs has_field) (fields_of_type recs) (listed (home_of recs e)) (λ x c. fields_have recs records x))

  field_facts_fine : (name : List ℕ) (e : TypeExpr) (fs : List Fact) → field_facts recs name e ≡ Some fs → Fine recs fs
  field_facts_fine name e fs h =
      let m = map_some (λ f. marked (field_item recs f) ∷ of_expr e) (head_of (fields_named_in recs name e)) fs h in
      subst (λ (xs : List Fact). Fine recs xs) m.2
      (all_more (OfFact recs) (marked (field_item recs m.0)) (of_expr e) (field_fine recs records m.0 ((fields_named_have name e).each m.0 (head_in (fields_named_in recs name e) m.0 m.1))) (expr_fine recs e))

  setters_have : (p : RowAt) → Every (Has recs has_method) (setters_of recs p)
  setters_have p =
      all_option (Has recs has_method) (λ (rec : AsmRec). map (at_row p.asm) (listed (head_of (flat_map (setter_in rec (token_of table.PROPERTY (suc p.row))) rec.method_semantics)))) (rec_at recs p)
      (λ rec there.
      all_map (Has recs has_method) (at_row p.asm) (listed (head_of (flat_map (setter_in rec (token_of table.PROPERTY (suc p.row))) rec.method_semantics)))
      (λ k c.
      let xs : List ℕ = flat_map (setter_in rec (token_of table.PROPERTY (suc p.row))) rec.method_semantics in
      owner_has recs records p.asm k rec there ((have_owners rec).each k (head_in xs k (from_listed (head_of xs) k c)))))
    where
      have_owners : (rec : AsmRec) → Every (λ k. has_owner rec k ≡ true) (flat_map (setter_in rec (token_of table.PROPERTY (suc p.row))) rec.method_semantics)
      have_owners rec =
          all_flat (λ k. has_owner rec k ≡ true) (setter_in rec (token_of table.PROPERTY (suc p.row))) rec.method_semantics
          (λ row c.
          all_if (λ k. has_owner rec k ≡ true) (row.association == token_of table.PROPERTY (suc p.row) && row.semantics % 2 == SETTER) (filter (has_owner rec) (listed (index_in table.METHOD_DEF row.method)))
          (λ h. all_passing (λ k. has_owner rec k ≡ true) (has_owner rec) (listed (index_in table.METHOD_DEF row.method)) (λ k e. e)))

  setter_facts_fine : (name : List ℕ) (e : TypeExpr) (fs : List Fact) → setter_facts recs name e ≡ Some fs → Fine recs fs
  setter_facts_fine name e fs h =
      let m = map_some (λ p. flat_map (λ m. marks_method recs m ∷ of_expr e) (setters_of recs p)) (head_of (properties_called_in recs name e)) fs h in
      subst (λ (xs : List Fact). Fine recs xs) m.2
      (all_flat (OfFact recs) (λ m. marks_method recs m ∷ of_expr e) (setters_of recs m.0)
      (λ x c. all_more (OfFact recs) (marks_method recs x) (of_expr e) (method_fine recs records x ((setters_have m.0).each x c)) (expr_fine recs e)))

  look_fine : (b : Bool) (name : List ℕ) (e : TypeExpr) (fs : List Fact) → (if b then field_facts recs name else setter_facts recs name) e ≡ Some fs → Fine recs fs
  look_fine true name e fs h = field_facts_fine name e fs h
  look_fine false name e fs h = setter_facts_fine name e fs h

  flat_fine : (o : Option (List Fact)) → ((fs : List Fact) → o ≡ Some fs → Fine recs fs) → Fine recs (flat o)
  flat_fine None h = all_none (OfFact recs)
  flat_fine (Some fs) h = h fs refl

  named_fine : (owner : TypeExpr) (n : NamedArg) → Fine recs (named_member recs owner n)
  named_fine owner n =
      flat_fine (nearest (if n.field then field_facts recs n.name else setter_facts recs n.name) (with_bases recs owner))
      (λ fs h.
      let x = nearest_is (if n.field then field_facts recs n.name else setter_facts recs n.name) (with_bases recs owner) fs h in
      look_fine n.field n.name x.0 fs x.2)

  value_fine : (from : ℕ) (u : MethodUse) (v : AttrValue) → Fine recs (value_facts recs from u v)
  value_fine from u v =
      all_join (OfFact recs) (flat_map (named_member recs u.owner) v.named) (mark_types (value_types recs from v))
      (all_flat (OfFact recs) (named_member recs u.owner) v.named (λ n c. named_fine u.owner n)) (types_fine recs (value_types recs from v))

  attribute_row_fine : (a : ℕ) (rec : AsmRec) → slice_get recs a ≡ Some rec → (row : CustomAttributeRow) → Fine recs (attribute_facts recs a rec row)
  attribute_row_fine a rec there row =
      all_flat (OfFact recs) (row_facts recs a rec row) (good_uses (method_named recs a rec row.ctor))
      (λ u c.
      all_if (OfFact recs) (is_input_method recs u) (of_method_use u ++ flat_map (value_facts recs a u) (listed (value_of recs a rec row)))
      (λ h.
      all_join (OfFact recs) (of_method_use u) (flat_map (value_facts recs a u) (listed (value_of recs a rec row)))
      (method_use_fine recs u (method_named_fine recs records a rec there row.ctor u (good_in (method_named recs a rec row.ctor) u c)))
      (all_option (OfFact recs) (value_facts recs a u) (value_of recs a rec row) (λ v e. value_fine a u v))))

  pub attributes_fine : (i : Item) → Fine recs (attribute_needs recs i)
  unfolding attribute_needs
  attributes_fine i =
      all_option (OfFact recs) (λ (at : RowAt). flat_map (λ (rec : AsmRec). flat_map (attribute_facts recs at.asm rec) (attributes_of recs i)) (listed (rec_at recs at))) (row_of recs i)
      (λ at home.
      all_option (OfFact recs) (λ (rec : AsmRec). flat_map (attribute_facts recs at.asm rec) (attributes_of recs i)) (rec_at recs at)
      (λ rec there. all_flat (OfFact recs) (attribute_facts recs at.asm rec) (attributes_of recs i) (λ row c. attribute_row_fine at.asm rec there row)))

  -- ---- accessors

  accessors_have : (a token : ℕ) (rec : AsmRec) → slice_get recs a ≡ Some rec → Every (Has recs has_method) (map (at_row a) (accessors_by rec token))
  accessors_have a token rec there = every_map (λ k. has_owner rec k ≡ true) (Has recs has_method) (at_row a) (accessors_by rec token) (λ k e. owner_has recs records a k rec there e) have_owners
    where
      have_owners : Every (λ k. has_owner rec k ≡ true) (accessors_by rec token)
      have_owners =
          all_flat (λ k. has_owner rec k ≡ true) (accessor_in rec token) rec.method_semantics
          (λ row c.
          all_if (λ k. has_owner rec k ≡ true) (row.association == token) (filter (has_owner rec) (listed (index_in table.METHOD_DEF row.method)))
          (λ h. all_passing (λ k. has_owner rec k ≡ true) (has_owner rec) (listed (index_in table.METHOD_DEF row.method)) (λ k e. e)))

  property_accessors_have : (at : RowAt) → Every (Has recs has_method) (property_accessors recs at)
  unfolding property_accessors
  property_accessors_have at =
      all_option (Has recs has_method) (λ (rec : AsmRec). if is_there (property_owner rec at.row) then map (at_row at.asm) (accessors_by rec (token_of table.PROPERTY (suc at.row))) else []) (rec_at recs at)
      (λ rec there.
      all_if (Has recs has_method) (is_there (property_owner rec at.row)) (map (at_row at.asm) (accessors_by rec (token_of table.PROPERTY (suc at.row))))
      (λ h. accessors_have at.asm (token_of table.PROPERTY (suc at.row)) rec there))

  event_accessors_have : (at : RowAt) → Every (Has recs has_method) (event_accessors recs at)
  unfolding event_accessors
  event_accessors_have at =
      all_option (Has recs has_method) (λ (rec : AsmRec). if is_there (event_owner rec at.row) then map (at_row at.asm) (accessors_by rec (token_of table.EVENT (suc at.row))) else []) (rec_at recs at)
      (λ rec there.
      all_if (Has recs has_method) (is_there (event_owner rec at.row)) (map (at_row at.asm) (accessors_by rec (token_of table.EVENT (suc at.row))))
      (λ h. accessors_have at.asm (token_of table.EVENT (suc at.row)) rec there))

  pub whole_property_fine : (at : RowAt) → Has recs has_property at → Fine recs (whole_property recs at)
  unfolding whole_property
  whole_property_fine at h =
      all_more (OfFact recs) (marked (prop_item recs at)) (map (marks_method recs) (property_accessors recs at)) (property_fine recs records at h)
      (every_map (Has recs has_method) (OfFact recs) (marks_method recs) (property_accessors recs at) (λ x e. method_fine recs records x e) (property_accessors_have at))

  pub whole_event_fine : (at : RowAt) → Has recs has_event at → Fine recs (whole_event recs at)
  unfolding whole_event
  whole_event_fine at h =
      all_more (OfFact recs) (marked (event_item recs at)) (map (marks_method recs) (event_accessors recs at)) (event_fine recs records at h)
      (every_map (Has recs has_method) (OfFact recs) (marks_method recs) (event_accessors recs at) (λ x e. method_fine recs records x e) (event_accessors_have at))

  -- ---- members by kinds

  abbrev Items : List Item → Type 0
  Items xs = Every (OfItem recs) xs

  pub method_items : (xs : List RowAt) → Every (Has recs has_method) xs → Items (map (method_item recs) xs)
  method_items xs h = every_map (Has recs has_method) (OfItem recs) (method_item recs) xs (λ x e. method_fine recs records x e) h

  pub field_items : (xs : List RowAt) → Every (Has recs has_field) xs → Items (map (field_item recs) xs)
  field_items xs h = every_map (Has recs has_field) (OfItem recs) (field_item recs) xs (λ x e. field_fine recs records x e) h

  pub property_items : (xs : List RowAt) → Every (Has recs has_property) xs → Items (flat_map (λ p. prop_item recs p ∷ map (method_item recs) (property_accessors recs p)) xs)
  property_items xs h =
      all_flat (OfItem recs) (λ p. prop_item recs p ∷ map (method_item recs) (property_accessors recs p)) xs
      (λ p c.
      all_more (OfItem recs) (prop_item recs p) (map (method_item recs) (property_accessors recs p)) (property_fine recs records p (h.each p c)) (method_items (property_accessors recs p) (property_accessors_have p)))

  pub event_items : (xs : List RowAt) → Every (Has recs has_event) xs → Items (flat_map (λ e. event_item recs e ∷ map (method_item recs) (event_accessors recs e)) xs)
  event_items xs h =
      all_flat (OfItem recs) (λ e. event_item recs e ∷ map (method_item recs) (event_accessors recs e)) xs
      (λ p c. all_more (OfItem recs) (event_item recs p) (map (method_item recs) (event_accessors recs p)) (event_fine recs records p (h.each p c)) (method_items (event_accessors recs p) (event_accessors_have p)))

  whole_type_fine : (at : RowAt) → Items (whole_type recs at)
  whole_type_fine at =
      let ms : List Item = map (method_item recs) (methods_of_type recs at) in
      let fs : List Item = map (field_item recs) (fields_of_type recs at) in
      let ps : List Item = flat_map (λ p. prop_item recs p ∷ map (method_item recs) (property_accessors recs p)) (properties_of_type recs at) in
      let es : List Item = flat_map (λ e. event_item recs e ∷ map (method_item recs) (event_accessors recs e)) (events_of_type recs at) in
      all_more (OfItem recs) (type_item recs at) (ms ++ fs ++ ps ++ es) tt
      (all_join (OfItem recs) (ms ++ fs ++ ps) es
      (all_join (OfItem recs) (ms ++ fs) ps
      (all_join (OfItem recs) ms fs (method_items (methods_of_type recs at) (methods_have recs records at)) (field_items (fields_of_type recs at) (fields_have recs records at)))
      (property_items (properties_of_type recs at) (properties_have recs records at))) (event_items (events_of_type recs at) (events_have recs records at)))

  whole_within_fine : (n : ℕ) (at : RowAt) → Items (whole_within recs n at)
  unfolding whole_within
  whole_within_fine zero at = all_none (OfItem recs)
  whole_within_fine (suc n) at =
      all_join (OfItem recs) (whole_type recs at) (flat_map (whole_within recs n) (nested_in recs at)) (whole_type_fine at)
      (all_flat (OfItem recs) (whole_within recs n) (nested_in recs at) (λ x c. whole_within_fine n x))

  nested_fine : (flags : ℕ) (t : RowAt) → Items (nested_by recs flags t)
  unfolding nested_by
  nested_fine flags t =
      all_flat (OfItem recs) (whole_nested recs) (filter (nested_counts recs flags) (nested_in recs t))
      (λ x c. all_option (OfItem recs) (λ (rec : AsmRec). whole_within recs (suc (length rec.type_def)) x) (rec_at recs x) (λ rec there. whole_within_fine (suc (length rec.type_def)) x))

  pub constructors_have : (flags : ℕ) (t : RowAt) → Every (Has recs has_method) (constructors_by recs flags t)
  unfolding constructors_by
  constructors_have flags t = all_filter (Has recs has_method) (has_method_row recs (constructor_counts flags)) (methods_of_type recs t) (methods_have recs records t)

  pub methods_by_have : (flags : ℕ) (t : RowAt) → Every (Has recs has_method) (methods_by recs flags t)
  unfolding methods_by
  methods_by_have flags t =
      all_flat (Has recs has_method) (λ c. filter (has_method_row recs (method_counts (is_own t c) (pair flags kind.PUBLIC_METHODS kind.NON_PUBLIC_METHODS))) (methods_of_type recs c)) (lineage recs t)
      (λ c d. all_filter (Has recs has_method) (has_method_row recs (method_counts (is_own t c) (pair flags kind.PUBLIC_METHODS kind.NON_PUBLIC_METHODS))) (methods_of_type recs c) (methods_have recs records c))

  pub fields_by_have : (flags : ℕ) (t : RowAt) → Every (Has recs has_field) (fields_by recs flags t)
  unfolding fields_by
  fields_by_have flags t =
      all_flat (Has recs has_field) (λ c. filter (has_field_row recs (λ f. counts (is_own t c) (pair flags kind.PUBLIC_FIELDS kind.NON_PUBLIC_FIELDS) f.flags)) (fields_of_type recs c)) (lineage recs t)
      (λ c d. all_filter (Has recs has_field) (has_field_row recs (λ f. counts (is_own t c) (pair flags kind.PUBLIC_FIELDS kind.NON_PUBLIC_FIELDS) f.flags)) (fields_of_type recs c) (fields_have recs records c))

  pub properties_by_have : (flags : ℕ) (t : RowAt) → Every (Has recs has_property) (properties_by recs flags t)
  unfolding properties_by
  properties_by_have flags t =
      all_flat (Has recs has_property) (λ c. filter (λ p. accessors_count recs (is_own t c) (pair flags kind.PUBLIC_PROPERTIES kind.NON_PUBLIC_PROPERTIES) (property_accessors recs p)) (properties_of_type recs c)) (lineage recs t)
      (λ c d. all_filter (Has recs has_property) (λ p. accessors_count recs (is_own t c) (pair flags kind.PUBLIC_PROPERTIES kind.NON_PUBLIC_PROPERTIES) (property_accessors recs p)) (properties_of_type recs c) (properties_have recs records c))

  pub events_by_have : (flags : ℕ) (t : RowAt) → Every (Has recs has_event) (events_by recs flags t)
  unfolding events_by
  events_by_have flags t =
      all_flat (Has recs has_event) (λ c. filter (λ e. accessors_count recs (is_own t c) (pair flags kind.PUBLIC_EVENTS kind.NON_PUBLIC_EVENTS) (event_accessors recs e)) (events_of_type recs c)) (lineage recs t)
      (λ c d. all_filter (Has recs has_event) (λ e. accessors_count recs (is_own t c) (pair flags kind.PUBLIC_EVENTS kind.NON_PUBLIC_EVENTS) (event_accessors recs e)) (events_of_type recs c) (events_have recs records c))

  pub members_fine : (flags : ℕ) (t : RowAt) → Items (members_by recs flags t)
  unfolding members_by
  members_fine flags t =
      let ms : List Item = map (method_item recs) (constructors_by recs flags t ++ methods_by recs flags t) in
      let fs : List Item = map (field_item recs) (fields_by recs flags t) in
      let ps : List Item = flat_map (λ p. prop_item recs p ∷ map (method_item recs) (property_accessors recs p)) (properties_by recs flags t) in
      let es : List Item = flat_map (λ e. event_item recs e ∷ map (method_item recs) (event_accessors recs e)) (events_by recs flags t) in
      let ns : List Item = nested_by recs flags t in
      let is : List Item = map (impl_item recs) (impls_by recs flags t) in
      all_join (OfItem recs) (ms ++ fs ++ ps ++ es ++ ns) is
      (all_join (OfItem recs) (ms ++ fs ++ ps ++ es) ns
      (all_join (OfItem recs) (ms ++ fs ++ ps) es
      (all_join (OfItem recs) (ms ++ fs) ps
      (all_join (OfItem recs) ms fs
      (method_items (constructors_by recs flags t ++ methods_by recs flags t) (all_join (Has recs has_method) (constructors_by recs flags t) (methods_by recs flags t) (constructors_have flags t) (methods_by_have flags t)))
      (field_items (fields_by recs flags t) (fields_by_have flags t)))
      (property_items (properties_by recs flags t) (properties_by_have flags t)))
      (event_items (events_by recs flags t) (events_by_have flags t)))
      (nested_fine flags t))
      (all_map (OfItem recs) (impl_item recs) (impls_by recs flags t) (λ x c. tt))

  -- ---- dependencies

  pub kept_method_fine : (b : Bool) (t m : RowAt) → Has recs has_method m → Fine recs (if b then instantiated (type_id recs t.asm t.row) ∷ marks_method recs m ∷ [] else marks_method recs m ∷ [])
  kept_method_fine b t m h =
      let one : Fine recs (marks_method recs m ∷ []) = all_one (OfFact recs) (marks_method recs m) (method_fine recs records m h) in
      all_either (OfFact recs) b (instantiated (type_id recs t.asm t.row) ∷ marks_method recs m ∷ []) (marks_method recs m ∷ []) (all_more (OfFact recs) (instantiated (type_id recs t.asm t.row)) (marks_method recs m ∷ []) tt one) one

  methods_called_fine : (name : List ℕ) (t : RowAt) → Fine recs (methods_called recs name t)
  methods_called_fine name t =
      all_flat (OfFact recs) (with_made recs t) (filter (is_method_called recs (plain name)) (methods_of_type recs t))
      (λ m c.
      kept_method_fine (has_method_row recs is_constructor m) t m
      ((all_filter (Has recs has_method) (is_method_called recs (plain name)) (methods_of_type recs t) (methods_have recs records t)).each m c))

  others_called_fine : (name : List ℕ) (t : RowAt) → Fine recs (others_called recs name t)
  others_called_fine name t =
      let fs : List RowAt = filter (is_field_named recs name) (fields_of_type recs t) in
      let ps : List RowAt = filter (is_property_called recs name) (properties_of_type recs t) in
      let es : List RowAt = filter (is_event_called recs name) (events_of_type recs t) in
      all_join (OfFact recs) (map (marks_field recs) fs ++ map (λ p. marked (prop_item recs p)) ps) (map (λ e. marked (event_item recs e)) es)
      (all_join (OfFact recs) (map (marks_field recs) fs) (map (λ p. marked (prop_item recs p)) ps)
      (every_map (Has recs has_field) (OfFact recs) (marks_field recs) fs (λ x e. field_fine recs records x e) (all_filter (Has recs has_field) (is_field_named recs name) (fields_of_type recs t) (fields_have recs records t)))
      (every_map (Has recs has_property) (OfFact recs) (λ p. marked (prop_item recs p)) ps (λ x e. property_fine recs records x e)
      (all_filter (Has recs has_property) (is_property_called recs name) (properties_of_type recs t) (properties_have recs records t))))
      (every_map (Has recs has_event) (OfFact recs) (λ e. marked (event_item recs e)) es (λ x e. event_fine recs records x e)
      (all_filter (Has recs has_event) (is_event_called recs name) (events_of_type recs t) (events_have recs records t)))

  members_called_fine : (name : List ℕ) (t : RowAt) → Fine recs (members_called recs name t)
  unfolding members_called
  members_called_fine name t =
      all_join (OfFact recs) (methods_called recs name t) (if has_parameters name then [] else others_called recs name t) (methods_called_fine name t)
      (all_either (OfFact recs) (has_parameters name) [] (others_called recs name t) (all_none (OfFact recs)) (others_called_fine name t))

  abbrev made_of : RowAt → List RowAt → List Fact
  made_of t [] = []
  made_of t (c ∷ cs) = instantiated (type_id recs t.asm t.row) ∷ []

  made_fine : (t : RowAt) (cs : List RowAt) → Fine recs (made_of t cs)
  made_fine t [] = all_none (OfFact recs)
  made_fine t (c ∷ cs) = all_one (OfFact recs) (instantiated (type_id recs t.asm t.row)) tt

  kinds_fine : (flags : ℕ) (t : RowAt) → Fine recs (members_of_kinds recs flags t)
  kinds_fine flags t =
      all_join (OfFact recs) (made_of t (constructors_by recs flags t)) (map marked (members_by recs flags t)) (made_fine t (constructors_by recs flags t))
      (every_map (OfItem recs) (OfFact recs) marked (members_by recs flags t) (λ i e. e) (members_fine flags t))

  by_member : (flags : ℕ) (t : RowAt) (o : Option (List ℕ)) → Fine recs (elim o [ Some name ↦ members_called recs name t | None ↦ members_of_kinds recs flags t ])
  by_member flags t None = kinds_fine flags t
  by_member flags t (Some name) = members_called_fine name t

  pub dependencies_fine : (i : Item) → Fine recs (dependency_needs recs i)
  unfolding dependency_needs
  dependencies_fine i =
      all_option (OfFact recs) (λ at. flat_map (dependency_facts recs i at) (dependencies recs i)) (row_of recs i)
      (λ at home.
      all_flat (OfFact recs) (dependency_facts recs i at) (dependencies recs i)
      (λ d c.
      all_flat (OfFact recs) (λ t. marks_type recs t ∷ dependency_members recs d t) (sought_in recs i at d.sought)
      (λ t b. all_more (OfFact recs) (marks_type recs t) (dependency_members recs d t) tt (by_member d.kinds t d.member))))
