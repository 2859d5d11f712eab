-- What the parts of an item name, and the type of a method, are among what one fact gives.
use Rattle.std.proofs.Common.{◌≡◌, ◌<◌, ℕ, zero, suc, List, [], ◌∷◌, ◌++◌, length, get_or, Option, Some, inl, inr, refl, sym, arith}
use Rattle.std.specs.List.{Contains, flat_map}
use Rattle.il_base.specs.declared.ids.Item.{Item}
use Rattle.il_base.specs.declared.ids.Item.TheVariants as item
use Rattle.descriptor_file.specs.declared.root.Root.{Root}
use Rattle.il_base.specs.declared.world_model.record.AsmRec.{AsmRec}
use Rattle.rules.specs.declared.link_rules.row_at.RowAt.{RowAt}
use Rattle.rules.specs.link_rules.Cycles.{listed}
use Rattle.rules.specs.type_rules.Slots.{type_of_method}
use Rattle.rules.specs.type_rules.Rows.{rec_at}
use Rattle.base_laws.proofs.lemmas.type_laws.Within.{In, in_front, in_behind, listed_in, flat_in}
use Rattle.base_laws.proofs.lemmas.walk_laws.Finds.{contains}
use Rattle.rules.specs.mark_rules.Facts.{Fact}
use Rattle.rules.specs.mark_rules.Facts.Fact.{marked}
use Rattle.rules.specs.mark_rules.Places.{row_of, method_item, marks_type, marks_method}
use Rattle.rules.specs.mark_rules.Naming.{of_parts}
use Rattle.rules.specs.mark_rules.Types.{encloser_of, parts_of_type, layout_needs, type_needs, parts_of_field, field_needs, impl_needs}
use Rattle.rules.specs.mark_rules.Calls.{owner_facts, parts_of_method, method_needs, makes, overrides_of, method_starts, field_starts}
use Rattle.rules.specs.mark_rules.Properties.{owned, property_owner, event_owner, parts_of_property, parts_of_event, property_needs, event_needs, accessed}
use Rattle.rules.specs.mark_rules.Attributes.{attribute_needs}
use Rattle.rules.specs.mark_rules.Dependencies.{dependency_needs}
use Rattle.rules.specs.mark_rules.Roots.{waiting_facts}
use Rattle.rules.specs.mark_rules.Shown.{parts_of_item, item_shows}
use Rattle.rules.specs.mark_rules.FlowMarks.{flow_marks}
use Rattle.rules.specs.mark_rules.Marking.{row_needs, item_needs, one}
use Rattle.run_laws.proofs.lemmas.marked_laws.Closing.{mapped_in}

contained : (xs : List Fact) (i : Fact) → Contains xs i → In i xs
contained [] i c = absurd (let lt = c.1 in omega arith)
contained (x ∷ xs) i (zero, lt, is) = inl (sym is)
contained (x ∷ xs) i (suc n, lt, is) = inr (contained xs i (n, omega arith, is))

module _ (recs : List AsmRec) (roots : List Root) where
  needed : (i : Item) (at : RowAt) (f : Fact) → In f (of_parts (parts_of_item recs i at)) → In f (row_needs recs i at)
  unfolding type_needs field_needs impl_needs method_needs property_needs event_needs
  needed (item.Asm a) at f h = absurd h
  needed (item.Typ t) at f h =
      in_front f (flat_map (encloser_of recs at) (listed (rec_at recs at)) ++ of_parts (parts_of_type recs at)) (layout_needs recs at)
      (in_behind f (flat_map (encloser_of recs at) (listed (rec_at recs at))) (of_parts (parts_of_type recs at)) h)
  needed (item.Method m) at f h =
      in_front f (method_needs recs at ++ makes recs at ++ overrides_of recs at ++ method_starts recs at) (accessed recs at)
      (in_front f (method_needs recs at ++ makes recs at ++ overrides_of recs at) (method_starts recs at)
      (in_front f (method_needs recs at ++ makes recs at) (overrides_of recs at)
      (in_front f (method_needs recs at) (makes recs at) (in_behind f (owner_facts recs at) (of_parts (parts_of_method recs at)) h))))
  needed (item.Field x) at f h = in_front f (field_needs recs at) (field_starts recs at) (in_behind f _ (of_parts (parts_of_field recs at)) h)
  needed (item.Prop p) at f h = in_behind f (owned recs property_owner at) (of_parts (parts_of_property recs at)) h
  needed (item.Event e) at f h = in_behind f (owned recs event_owner at) (of_parts (parts_of_event recs at)) h
  needed (item.Impl i) at f h = h

  abbrev rows : Item → List Fact
  rows i = flat_map (row_needs recs i) (listed (row_of recs i))

  in_one : (i : Item) (at : RowAt) (f : Fact) → row_of recs i ≡ Some at → In f (row_needs recs i at) → In f (one recs roots (marked i))
  unfolding one
  in_one i at f is h =
      in_front f (item_needs recs roots i) (flow_marks recs i)
      (in_front f (rows i ++ attribute_needs recs i ++ dependency_needs recs i ++ waiting_facts recs roots i) (item_shows recs i)
      (in_front f (rows i ++ attribute_needs recs i ++ dependency_needs recs i) (waiting_facts recs roots i)
      (in_front f (rows i ++ attribute_needs recs i) (dependency_needs recs i)
      (in_front f (rows i) (attribute_needs recs i) (flat_in (row_needs recs i) f at (listed (row_of recs i)) (listed_in at (row_of recs i) is) h)))))

  pub part_in_one : (i : Item) (at : RowAt) (f : Fact) → row_of recs i ≡ Some at → Contains (of_parts (parts_of_item recs i at)) f → Contains (one recs roots (marked i)) f
  part_in_one i at f is c = contains (one recs roots (marked i)) f (in_one i at f is (needed i at f (contained (of_parts (parts_of_item recs i at)) f c)))

  owner_needed : (at owner : RowAt) → type_of_method recs at ≡ Some owner → In (marks_type recs owner) (row_needs recs (method_item recs at) at)
  unfolding method_needs
  owner_needed at owner is =
      let f : Fact = marks_type recs owner in
      in_front f (method_needs recs at ++ makes recs at ++ overrides_of recs at ++ method_starts recs at) (accessed recs at)
      (in_front f (method_needs recs at ++ makes recs at ++ overrides_of recs at) (method_starts recs at)
      (in_front f (method_needs recs at ++ makes recs at) (overrides_of recs at)
      (in_front f (method_needs recs at) (makes recs at)
      (in_front f (owner_facts recs at) (of_parts (parts_of_method recs at)) (mapped_in (marks_type recs) owner (listed (type_of_method recs at)) (listed_in owner (type_of_method recs at) is))))))

  pub owner_in_one : (at owner : RowAt) → row_of recs (method_item recs at) ≡ Some at → type_of_method recs at ≡ Some owner → Contains (one recs roots (marks_method recs at)) (marks_type recs owner)
  owner_in_one at owner is o = contains (one recs roots (marks_method recs at)) (marks_type recs owner) (in_one (method_item recs at) at (marks_type recs owner) is (owner_needed at owner o))
