-- What the flow of values marks belongs to something.
use Rattle.std.proofs.Common.{ℕ, List, [], ◌∷◌, ◌++◌, map, Bool, Option, Some, None}
use Rattle.std.specs.List.{flat_map, filter}
use Rattle.il_base.specs.declared.ids.TypeId.{TypeId}
use Rattle.il_base.specs.declared.ids.Item.{Item}
use Rattle.il_base.specs.declared.ids.Item.TheVariants as item
use Rattle.il_base.specs.declared.world_model.record.AsmRec.{AsmRec}
use Rattle.rules.specs.declared.link_rules.row_at.RowAt.{RowAt}
use Rattle.rules.specs.link_rules.Members.{type_home}
use Rattle.rules.specs.link_rules.Cycles.{listed}
use Rattle.rules.specs.mark_rules.Facts.Fact.{marked, instantiated, reflected, shown}
use Rattle.rules.specs.mark_rules.Places.{row_of, method_item, field_item, prop_item, event_item}
use Rattle.rules.specs.mark_rules.Properties.{property_accessors, event_accessors}
use Rattle.rules.specs.mark_rules.Members.{constructors_by, methods_by, fields_by, properties_by, events_by}
use Rattle.rules.specs.mark_rules.FlowMarks.{is_method_among, is_field_among, is_property_among, is_event_among, with_accessors, named_members, asked_members, names_constructors, seen, reach, made_if, asked_of, known_types, found_by_name, source_marks, site_marks, flow_marks}
use Rattle.rules.specs.mark_rules.ReflectedShown.{owner_of, types_of_signature, shown_with, reflected_shows}
use Rattle.rules.specs.declared.flow_rules.source.Source.{Source}
use Rattle.rules.specs.declared.flow_rules.source.Source.TheVariants as source
use Rattle.rules.specs.flow_rules.Sources.{type_of_text}
use Rattle.rules.specs.declared.site_rules.target.Target.{Target}
use Rattle.rules.specs.declared.site_rules.target.Target.TheVariants as target
use Rattle.rules.specs.declared.site_rules.site.Site.{Site}
use Rattle.rules.specs.site_rules.Items.{item_sites}
use Rattle.merge_laws.specs.merged_record.Laws.{InputsAreRecords}
use Rattle.merge_laws.specs.merged_owners.Laws.{has_method, has_field, has_property, has_event}
use Rattle.merge_laws.proofs.lemmas.merged_owners.Every.{Every, all_none, all_more, all_one, all_join, all_if, all_filter, all_flat, all_option, all_map}
use Rattle.merge_laws.proofs.lemmas.merged_owners.Runs.{OfItem, OfFact, Fine, Has}
use Rattle.merge_laws.proofs.lemmas.merged_owners.Members.{method_items, field_items, property_items, event_items, constructors_have, methods_by_have, fields_by_have, properties_by_have, events_by_have, members_fine}

module _ (recs : List AsmRec) (records : InputsAreRecords recs) where
  -- ---- the members that a site asks for

  named_fine : (names : List (List ℕ)) (flags : ℕ) (t : RowAt) → Every (OfItem recs) (named_members recs names flags t)
  unfolding named_members
  named_fine names flags t =
      let methods : List RowAt = filter (is_method_among recs names) (constructors_by recs flags t ++ methods_by recs flags t) in
      let fields : List RowAt = filter (is_field_among recs names) (fields_by recs flags t) in
      let properties : List RowAt = filter (is_property_among recs names) (properties_by recs flags t) in
      let events : List RowAt = filter (is_event_among recs names) (events_by recs flags t) in
      let ms : List Item = map (method_item recs) methods in
      let fs : List Item = map (field_item recs) fields in
      let ps : List Item = flat_map (λ p. with_accessors recs (prop_item recs p) (property_accessors recs p)) properties in
      let es : List Item = flat_map (λ e. with_accessors recs (event_item recs e) (event_accessors recs e)) events in
      all_join (OfItem recs) (ms ++ fs ++ ps) es
      (all_join (OfItem recs) (ms ++ fs) ps
      (all_join (OfItem recs) ms fs
      (method_items recs records methods
      (all_filter (Has recs has_method) (is_method_among recs names) (constructors_by recs flags t ++ methods_by recs flags t)
      (all_join (Has recs has_method) (constructors_by recs flags t) (methods_by recs flags t) (constructors_have recs records flags t) (methods_by_have recs records flags t))))
      (field_items recs records fields (all_filter (Has recs has_field) (is_field_among recs names) (fields_by recs flags t) (fields_by_have recs records flags t))))
      (property_items recs records properties (all_filter (Has recs has_property) (is_property_among recs names) (properties_by recs flags t) (properties_by_have recs records flags t))))
      (event_items recs records events (all_filter (Has recs has_event) (is_event_among recs names) (events_by recs flags t) (events_by_have recs records flags t)))

  asked_fine : (names : Option (List (List ℕ))) (flags : ℕ) (t : RowAt) → Every (OfItem recs) (asked_members recs names flags t)
  asked_fine None flags t = members_fine recs records flags t
  asked_fine (Some names) flags t = named_fine names flags t

  -- ---- a known type

  seen_fine : (t : TypeId) → Fine recs (seen t)
  seen_fine t = all_more (OfFact recs) (marked (item.Typ t)) (shown t ∷ []) tt (all_one (OfFact recs) (shown t) tt)

  made_fine : (b : Bool) (t : TypeId) → Fine recs (made_if b t)
  made_fine b t = all_if (OfFact recs) b (instantiated t ∷ []) (λ h. all_one (OfFact recs) (instantiated t) tt)

  reach_fine : (i : Item) → OfItem recs i → Fine recs (reach i)
  reach_fine i h = all_more (OfFact recs) (marked i) (reflected i ∷ []) h (all_one (OfFact recs) (reflected i) tt)

  asked_of_fine : (s : Site) (t : TypeId) → Fine recs (asked_of recs s t)
  asked_of_fine s t =
      let asked : List Item = flat_map (asked_members recs s.names s.kinds) (listed (type_home recs t)) in
      all_join (OfFact recs) (seen t ++ made_if (names_constructors s.kinds) t) (flat_map reach asked)
      (all_join (OfFact recs) (seen t) (made_if (names_constructors s.kinds) t) (seen_fine t) (made_fine (names_constructors s.kinds) t))
      (all_flat (OfFact recs) reach asked
      (λ i c. reach_fine i ((all_option (OfItem recs) (asked_members recs s.names s.kinds) (type_home recs t) (λ x e. asked_fine s.names s.kinds x)).each i c)))

  known_fine : (s : Site) (to : Target) (x : Source) → Fine recs (flat_map (asked_of recs s) (known_types recs to x))
  known_fine s to x = all_flat (OfFact recs) (asked_of recs s) (known_types recs to x) (λ t c. asked_of_fine s t)

  -- ---- a known name

  found_fine : (asm : ℕ) (x : Source) → Fine recs (found_by_name recs asm x)
  found_fine asm (source.KnownText text) = all_option (OfFact recs) seen (type_of_text recs asm text) (λ t e. seen_fine t)
  found_fine asm (source.KnownType t) = all_none (OfFact recs)
  found_fine asm (source.KnownHandle t) = all_none (OfFact recs)
  found_fine asm source.Null = all_none (OfFact recs)
  found_fine asm (source.Parameter k) = all_none (OfFact recs)
  found_fine asm (source.Return m) = all_none (OfFact recs)
  found_fine asm (source.Field f) = all_none (OfFact recs)
  found_fine asm (source.TypeParam t k) = all_none (OfFact recs)
  found_fine asm (source.MethodParam k) = all_none (OfFact recs)
  found_fine asm source.Opaque = all_none (OfFact recs)

  -- ---- the rules

  source_fine : (s : Site) (to : Target) (x : Source) → Fine recs (source_marks recs s to x)
  source_fine s (target.Name m) x = found_fine s.place.asm x
  source_fine s (target.Param m k) x = known_fine s (target.Param m k) x
  source_fine s (target.Return m) x = known_fine s (target.Return m) x
  source_fine s (target.Field f) x = known_fine s (target.Field f) x
  source_fine s (target.This m) x = known_fine s (target.This m) x
  source_fine s (target.TypeArg t k) x = known_fine s (target.TypeArg t k) x
  source_fine s (target.MethodArg m k) x = known_fine s (target.MethodArg m k) x
  source_fine s (target.Unreferenced m) x = known_fine s (target.Unreferenced m) x
  source_fine s (target.Override m) x = known_fine s (target.Override m) x
  source_fine s (target.Reflection i) x = known_fine s (target.Reflection i) x

  site_fine : (s : Site) → Fine recs (site_marks recs s)
  unfolding site_marks
  site_fine s = all_flat (OfFact recs) (source_marks recs s s.target) s.sources (λ x c. source_fine s s.target x)

  pub flow_fine : (i : Item) → Fine recs (flow_marks recs i)
  unfolding flow_marks
  flow_fine i = all_flat (OfFact recs) (site_marks recs) (item_sites recs i) (λ s c. site_fine s)

  pub reflected_fine : (i : Item) → Fine recs (reflected_shows recs i)
  unfolding reflected_shows
  reflected_fine i =
      all_option (OfFact recs) (shown_with recs i) (row_of recs i) (λ at home. all_map (OfFact recs) shown (listed (owner_of recs i at) ++ types_of_signature recs i at) (λ t c. tt))
