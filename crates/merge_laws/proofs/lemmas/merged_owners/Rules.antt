-- What the rows of items need belongs to something.
use Rattle.std.proofs.Common.{◌≡◌, ℕ, suc, List, [], ◌∷◌, ◌++◌, map, Bool, true, false, Option, Some, refl, subst}
use Rattle.std.specs.Prelude.{slice_get, if◌then◌else◌, ◌==◌, ◌&&◌, ◌||◌}
use Rattle.std.specs.List.{flat_map, filter, list_any}
use Rattle.std.specs.Option.{option_and_then, option_map}
use Rattle.il_base.specs.declared.ids.Item.{Item}
use Rattle.il_base.specs.declared.ids.Item.TheVariants as item
use Rattle.il_base.specs.declared.body.Form.{Form}
use Rattle.il_base.specs.declared.body.Form.TheVariants as form
use Rattle.il_base.specs.declared.body.Operand.{Operand}
use Rattle.il_base.specs.declared.body.Operand.TheVariants as operand
use Rattle.il_base.specs.declared.body.Instr.{Instr}
use Rattle.il_base.specs.declared.table.TheConstants as table
use Rattle.il_base.specs.declared.world_model.known.Known.{Known}
use Rattle.il_base.specs.declared.world_model.known.Known.TheVariants.{Good, Bad}
use Rattle.il_base.specs.declared.world_model.expr.MethodUse.{MethodUse}
use Rattle.il_base.specs.declared.world_model.members.MethodImplRow.{MethodImplRow}
use Rattle.il_base.specs.declared.world_model.members.MethodSemanticsRow.{MethodSemanticsRow}
use Rattle.il_base.specs.declared.world_model.members.PropertyMapRow.{PropertyMapRow}
use Rattle.il_base.specs.declared.world_model.members.EventMapRow.{EventMapRow}
use Rattle.il_base.specs.declared.world_model.record.AsmRec.{AsmRec}
use Rattle.il_base.specs.world_model.Tokens.{token_of, index_in}
use Rattle.il_base.specs.world_model.Worlds.{type_id}
use Rattle.rules.specs.declared.link_rules.row_at.RowAt.{RowAt}
use Rattle.rules.specs.link_rules.Types.{at_row, encloser}
use Rattle.rules.specs.link_rules.Signatures.{token_type}
use Rattle.rules.specs.link_rules.Members.{generic_method, good_type, owner_of}
use Rattle.rules.specs.link_rules.Cycles.{listed, is_value_type, is_static_field}
use Rattle.rules.specs.type_rules.Rows.{each_row, field_row_at, rec_at, owner_of_field, fields_of_type, is_enum, is_instance_field}
use Rattle.rules.specs.type_rules.Slots.{type_of_method, method_row_at}
use Rattle.rules.specs.type_rules.Dispatch.{good_use}
use Rattle.rules.specs.type_rules.Searches.{has_owner}
use Rattle.rules.specs.mark_rules.Facts.Fact.{marked, instantiated}
use Rattle.rules.specs.mark_rules.Places.{marks_type, marks_field, prop_item, event_item, impl_item}
use Rattle.rules.specs.mark_rules.Naming.{of_expr, of_known, of_parts, of_method_use, method_named}
use Rattle.rules.specs.mark_rules.Types.{encloser_of, parts_of_type, type_needs, laid_fields, layout_needs, parts_of_field, field_needs, parts_of_impl, impl_needs, implies_one, row_for, rows_for}
use Rattle.rules.specs.mark_rules.Calls.{owner_facts, parts_of_method, method_needs, makes_type, makes_by, made_in, makes, code_of, overridden, has_body, declared_by, declared_in, overrides_of, initializer_of, method_starts, field_starts}
use Rattle.rules.specs.mark_rules.Properties.{property_owner_in, event_owner_in, property_owner, event_owner, is_there, parts_of_property, parts_of_event, owned, property_needs, event_needs, accessed_by, accessed}
use Rattle.rules.specs.mark_rules.Marking.{row_needs}
use Rattle.merge_laws.specs.merged_record.Laws.{InputsAreRecords}
use Rattle.merge_laws.specs.merged_owners.Laws.{owns_property, owns_event, has_method, has_field, has_property, has_event}
use Rattle.merge_laws.proofs.lemmas.merged_owners.Every.{Every, all_none, all_more, all_join, all_if, all_either, all_filter, all_passing, all_flat, all_option, all_map, all_each, every_map}
use Rattle.merge_laws.proofs.lemmas.merged_owners.Runs.{OfFact, Fine, Has, fields_have, field_fine, property_fine, event_fine}
use Rattle.merge_laws.proofs.lemmas.merged_owners.Uses.{expr_fine, method_use_fine, generic_fine}
use Rattle.merge_laws.proofs.lemmas.merged_owners.Dispatched.{overridden_fine, initializer_fine}
use Rattle.merge_laws.proofs.lemmas.merged_owners.Parts.{parts_fine, type_parts_fine, field_parts_fine, impl_parts_fine, property_parts_fine, event_parts_fine, method_parts_fine}

good_used : (x : Known MethodUse) (u : MethodUse) → good_use x ≡ Some u → x ≡ Good u
good_used (Good v) u e = cc
good_used (Bad why) u e = absurd (cc)

module _ (recs : List AsmRec) (records : InputsAreRecords recs) where
  module _ (at : RowAt) where
    -- ---- types

    type_fine : Fine recs (type_needs recs at)
    unfolding type_needs
    type_fine =
        all_join (OfFact recs) (flat_map (encloser_of recs at) (listed (rec_at recs at))) (of_parts (parts_of_type recs at))
        (all_option (OfFact recs) (encloser_of recs at) (rec_at recs at) (λ rec there. all_map (OfFact recs) (λ k. marks_type recs (at_row at.asm k)) (listed (encloser rec at.row)) (λ k c. tt)))
        (parts_fine recs records (parts_of_type recs at) (type_parts_fine recs records at))

    laid_have : Every (Has recs has_field) (laid_fields recs at)
    laid_have =
        all_either (Has recs has_field) (is_enum recs at) (fields_of_type recs at) (filter (is_instance_field recs) (fields_of_type recs at)) (fields_have recs records at)
        (all_filter (Has recs has_field) (is_instance_field recs) (fields_of_type recs at) (fields_have recs records at))

    layout_fine : Fine recs (layout_needs recs at)
    unfolding layout_needs
    layout_fine =
        all_if (OfFact recs) (is_value_type recs at) (instantiated (type_id recs at.asm at.row) ∷ map (marks_field recs) (laid_fields recs at))
        (λ h.
        all_more (OfFact recs) (instantiated (type_id recs at.asm at.row)) (map (marks_field recs) (laid_fields recs at)) tt
        (every_map (Has recs has_field) (OfFact recs) (marks_field recs) (laid_fields recs at) (λ x e. field_fine recs records x e) laid_have))

    -- ---- fields, interface rows

    field_needs_fine : Fine recs (field_needs recs at)
    unfolding field_needs
    field_needs_fine =
        all_join (OfFact recs) (flat_map (λ (rec : AsmRec). map (λ t. marks_type recs (at_row at.asm t)) (listed (owner_of_field rec at.row))) (listed (rec_at recs at))) (of_parts (parts_of_field recs at))
        (all_option (OfFact recs) (λ (rec : AsmRec). map (λ t. marks_type recs (at_row at.asm t)) (listed (owner_of_field rec at.row))) (rec_at recs at)
        (λ rec there. all_map (OfFact recs) (λ t. marks_type recs (at_row at.asm t)) (listed (owner_of_field rec at.row)) (λ t c. tt)))
        (parts_fine recs records (parts_of_field recs at) (field_parts_fine recs records at))

    field_starts_fine : Fine recs (field_starts recs at)
    unfolding field_starts
    field_starts_fine = all_if (OfFact recs) (list_any is_static_field (listed (field_row_at recs at))) (initializer_of recs (option_and_then (λ (rec : AsmRec). option_map (at_row at.asm) (owner_of_field rec at.row)) (rec_at recs at))) (λ h. initializer_fine recs records (option_and_then (λ (rec : AsmRec). option_map (at_row at.asm) (owner_of_field rec at.row)) (rec_at recs at)))

    impl_fine : Fine recs (impl_needs recs at)
    unfolding impl_needs
    impl_fine = parts_fine recs records (parts_of_impl recs at) (impl_parts_fine recs records at)

    -- ---- properties and events

    owned_fine : (owner : AsmRec → ℕ → Option ℕ) → Fine recs (owned recs owner at)
    owned_fine owner =
        all_option (OfFact recs) (λ (rec : AsmRec). map (λ t. marks_type recs (at_row at.asm t)) (listed (owner rec at.row))) (rec_at recs at)
        (λ rec there. all_map (OfFact recs) (λ t. marks_type recs (at_row at.asm t)) (listed (owner rec at.row)) (λ t c. tt))

    property_needs_fine : Fine recs (property_needs recs at)
    unfolding property_needs
    property_needs_fine = all_join (OfFact recs) (owned recs property_owner at) (of_parts (parts_of_property recs at)) (owned_fine property_owner) (parts_fine recs records (parts_of_property recs at) (property_parts_fine recs records at))

    event_needs_fine : Fine recs (event_needs recs at)
    unfolding event_needs
    event_needs_fine = all_join (OfFact recs) (owned recs event_owner at) (of_parts (parts_of_event recs at)) (owned_fine event_owner) (parts_fine recs records (parts_of_event recs at) (event_parts_fine recs records at))

  -- a row with an owner is in a run
  property_run : (k : ℕ) (rows : List PropertyMapRow) → is_there (property_owner_in k rows) ≡ true → list_any (λ r. owns_property (suc k) r) rows ≡ true
  property_run k [] h = absurd (cc)
  property_run k (row ∷ rows) h = property_by k row rows (owns_property (suc k) row) (property_run k rows) h
    where
      property_by : (k : ℕ) (row : PropertyMapRow) (rows : List PropertyMapRow) (b : Bool) → (is_there (property_owner_in k rows) ≡ true → list_any (λ r. owns_property (suc k) r) rows ≡ true)
          → is_there (if b then index_in table.TYPE_DEF row.parent else property_owner_in k rows) ≡ true → (b || list_any (λ r. owns_property (suc k) r) rows) ≡ true
      property_by k row rows true more e = refl
      property_by k row rows false more e = more e

  event_run : (k : ℕ) (rows : List EventMapRow) → is_there (event_owner_in k rows) ≡ true → list_any (λ r. owns_event (suc k) r) rows ≡ true
  event_run k [] h = absurd (cc)
  event_run k (row ∷ rows) h = event_by k row rows (owns_event (suc k) row) (event_run k rows) h
    where
      event_by : (k : ℕ) (row : EventMapRow) (rows : List EventMapRow) (b : Bool) → (is_there (event_owner_in k rows) ≡ true → list_any (λ r. owns_event (suc k) r) rows ≡ true)
          → is_there (if b then index_in table.TYPE_DEF row.parent else event_owner_in k rows) ≡ true → (b || list_any (λ r. owns_event (suc k) r) rows) ≡ true
      event_by k row rows true more e = refl
      event_by k row rows false more e = more e

  property_has : (a k : ℕ) (rec : AsmRec) → slice_get recs a ≡ Some rec → is_there (property_owner rec k) ≡ true → Has recs has_property (at_row a k)
  unfolding property_owner
  property_has a k rec there h = record { is = λ found here lt. let same : rec ≡ found = cc in subst (λ (r : AsmRec). has_property r k ≡ true) same (property_run k rec.property_map h) }

  event_has : (a k : ℕ) (rec : AsmRec) → slice_get recs a ≡ Some rec → is_there (event_owner rec k) ≡ true → Has recs has_event (at_row a k)
  unfolding event_owner
  event_has a k rec there h = record { is = λ found here lt. let same : rec ≡ found = cc in subst (λ (r : AsmRec). has_event r k ≡ true) same (event_run k rec.event_map h) }

  pub owner_has : (a k : ℕ) (rec : AsmRec) → slice_get recs a ≡ Some rec → has_owner rec k ≡ true → Has recs has_method (at_row a k)
  owner_has a k rec there h = record { is = λ found here lt. let same : rec ≡ found = cc in subst (λ (r : AsmRec). has_method r k ≡ true) same h }

  -- ---- methods

  module _ (at : RowAt) where
    method_fine_here : Fine recs (method_needs recs at)
    unfolding method_needs
    method_fine_here =
        all_join (OfFact recs) (owner_facts recs at) (of_parts (parts_of_method recs at)) (all_map (OfFact recs) (marks_type recs) (listed (type_of_method recs at)) (λ t c. tt))
        (parts_fine recs records (parts_of_method recs at) (method_parts_fine recs records at))

    makes_fine : Fine recs (makes recs at)
    unfolding makes
    makes_fine =
        all_option (OfFact recs) (λ (rec : AsmRec). flat_map (made_in recs at.asm rec) (listed (slice_get rec.method_def at.row))) (rec_at recs at)
        (λ rec there.
        all_option (OfFact recs) (made_in recs at.asm rec) (slice_get rec.method_def at.row)
        (λ m e. all_flat (OfFact recs) (λ (i : Instr). makes_by recs at.asm rec i.form i.operand) (code_of rec m) (λ i c. made at.asm rec i.form i.operand)))
      where
        made_good : (x : Known MethodUse) → Fine recs (of_known (makes_type recs) x)
        made_good (Good u) = all_map (OfFact recs) instantiated (listed (owner_of recs u.owner)) (λ t c. tt)
        made_good (Bad why) = all_none (OfFact recs)

        made_new : (a : ℕ) (rec : AsmRec) (o : Operand) → Fine recs (makes_by recs a rec form.NewObj o)
        made_new a rec operand.None = all_none (OfFact recs)
        made_new a rec (operand.Number n) = all_none (OfFact recs)
        made_new a rec (operand.Slot n) = all_none (OfFact recs)
        made_new a rec (operand.Token token) = made_good (method_named recs a rec token)
        made_new a rec (operand.Target n) = all_none (OfFact recs)
        made_new a rec (operand.Targets ns) = all_none (OfFact recs)

        made : (a : ℕ) (rec : AsmRec) (f : Form) (o : Operand) → Fine recs (makes_by recs a rec f o)
        made a rec form.Nop o = all_none (OfFact recs)
        made a rec form.LdArg o = all_none (OfFact recs)
        made a rec form.LdArgA o = all_none (OfFact recs)
        made a rec form.StArg o = all_none (OfFact recs)
        made a rec form.LdLoc o = all_none (OfFact recs)
        made a rec form.LdLocA o = all_none (OfFact recs)
        made a rec form.StLoc o = all_none (OfFact recs)
        made a rec form.LdNull o = all_none (OfFact recs)
        made a rec form.LdI4 o = all_none (OfFact recs)
        made a rec form.LdI8 o = all_none (OfFact recs)
        made a rec form.LdStr o = all_none (OfFact recs)
        made a rec form.Dup o = all_none (OfFact recs)
        made a rec form.Pop o = all_none (OfFact recs)
        made a rec form.Br o = all_none (OfFact recs)
        made a rec form.BrIf o = all_none (OfFact recs)
        made a rec form.Switch o = all_none (OfFact recs)
        made a rec form.Leave o = all_none (OfFact recs)
        made a rec form.EndFinally o = all_none (OfFact recs)
        made a rec form.Binary o = all_none (OfFact recs)
        made a rec form.Unary o = all_none (OfFact recs)
        made a rec form.Convert o = all_none (OfFact recs)
        made a rec form.Call o = all_none (OfFact recs)
        made a rec form.Ret o = all_none (OfFact recs)
        made a rec form.NewObj o = made_new a rec o
        made a rec form.Throw o = all_none (OfFact recs)
        made a rec form.Cast o = all_none (OfFact recs)
        made a rec form.Box o = all_none (OfFact recs)
        made a rec form.Unbox o = all_none (OfFact recs)
        made a rec form.Field o = all_none (OfFact recs)
        made a rec form.NewArr o = all_none (OfFact recs)
        made a rec form.Elem o = all_none (OfFact recs)
        made a rec form.Indirect o = all_none (OfFact recs)
        made a rec form.LdToken o = all_none (OfFact recs)
        made a rec form.Prefix o = all_none (OfFact recs)

    overrides_fine : Fine recs (overrides_of recs at)
    unfolding overrides_of
    overrides_fine =
        all_join (OfFact recs) (flat_map (overridden recs at) (listed (method_row_at recs at))) (each_row (declared_in recs at) recs)
        (all_option (OfFact recs) (overridden recs at) (method_row_at recs at) (λ m e. overridden_fine recs records at m))
        (all_each (OfFact recs) (declared_in recs at) recs
        (λ a rec there.
        all_flat (OfFact recs) (declared_by recs at a rec) rec.method_impl
        (λ row c. declared a rec there row)))
      where
        declared : (a : ℕ) (rec : AsmRec) → slice_get recs a ≡ Some rec → (row : MethodImplRow) → Fine recs (declared_by recs at a rec row)
        declared a rec there row =
            all_option (OfFact recs) (λ (body : MethodUse). if has_body recs at body then of_method_use body ++ flat_map of_method_use (listed (good_use (generic_method recs a rec row.declaration))) else [])
            (good_use (generic_method recs a rec row.body))
            (λ body e.
            all_if (OfFact recs) (has_body recs at body) (of_method_use body ++ flat_map of_method_use (listed (good_use (generic_method recs a rec row.declaration))))
            (λ h.
            all_join (OfFact recs) (of_method_use body) (flat_map of_method_use (listed (good_use (generic_method recs a rec row.declaration))))
            (method_use_fine recs body (generic_fine recs records a rec there row.body body (good_used (generic_method recs a rec row.body) body e)))
            (all_option (OfFact recs) of_method_use (good_use (generic_method recs a rec row.declaration))
            (λ d f. method_use_fine recs d (generic_fine recs records a rec there row.declaration d (good_used (generic_method recs a rec row.declaration) d f))))))

    starts_fine : Fine recs (method_starts recs at)
    unfolding method_starts
    starts_fine = initializer_fine recs records (type_of_method recs at)

    accessed_fine : Fine recs (accessed recs at)
    unfolding accessed
    accessed_fine =
        all_option (OfFact recs) (λ (rec : AsmRec). flat_map (accessed_by recs at rec) rec.method_semantics) (rec_at recs at)
        (λ rec there. all_flat (OfFact recs) (accessed_by recs at rec) rec.method_semantics (λ row c. by_row rec there row))
      where
        by_row : (rec : AsmRec) → slice_get recs at.asm ≡ Some rec → (row : MethodSemanticsRow) → Fine recs (accessed_by recs at rec row)
        by_row rec there row =
            all_if (OfFact recs) (row.method == token_of table.METHOD_DEF (suc at.row) && has_owner rec at.row)
            (map (λ k. marked (prop_item recs (at_row at.asm k))) (filter (λ k. is_there (property_owner rec k)) (listed (index_in table.PROPERTY row.association)))
            ++ map (λ k. marked (event_item recs (at_row at.asm k))) (filter (λ k. is_there (event_owner rec k)) (listed (index_in table.EVENT row.association))))
            (λ h.
            all_join (OfFact recs) (map (λ k. marked (prop_item recs (at_row at.asm k))) (filter (λ k. is_there (property_owner rec k)) (listed (index_in table.PROPERTY row.association))))
            (map (λ k. marked (event_item recs (at_row at.asm k))) (filter (λ k. is_there (event_owner rec k)) (listed (index_in table.EVENT row.association))))
            (every_map (λ k. Has recs has_property (at_row at.asm k)) (OfFact recs) (λ k. marked (prop_item recs (at_row at.asm k))) (filter (λ k. is_there (property_owner rec k)) (listed (index_in table.PROPERTY row.association)))
            (λ k e. property_fine recs records (at_row at.asm k) e)
            (all_passing (λ k. Has recs has_property (at_row at.asm k)) (λ k. is_there (property_owner rec k)) (listed (index_in table.PROPERTY row.association)) (λ k e. property_has at.asm k rec there e)))
            (every_map (λ k. Has recs has_event (at_row at.asm k)) (OfFact recs) (λ k. marked (event_item recs (at_row at.asm k))) (filter (λ k. is_there (event_owner rec k)) (listed (index_in table.EVENT row.association)))
            (λ k e. event_fine recs records (at_row at.asm k) e)
            (all_passing (λ k. Has recs has_event (at_row at.asm k)) (λ k. is_there (event_owner rec k)) (listed (index_in table.EVENT row.association)) (λ k e. event_has at.asm k rec there e))))

  -- ---- rows

  pub row_fine : (i : Item) (at : RowAt) → Fine recs (row_needs recs i at)
  row_fine (item.Asm a) at = all_none (OfFact recs)
  row_fine (item.Typ t) at = all_join (OfFact recs) (type_needs recs at) (layout_needs recs at) (type_fine at) (layout_fine at)
  row_fine (item.Method m) at =
      all_join (OfFact recs) (method_needs recs at ++ makes recs at ++ overrides_of recs at ++ method_starts recs at) (accessed recs at)
      (all_join (OfFact recs) (method_needs recs at ++ makes recs at ++ overrides_of recs at) (method_starts recs at)
      (all_join (OfFact recs) (method_needs recs at ++ makes recs at) (overrides_of recs at) (all_join (OfFact recs) (method_needs recs at) (makes recs at) (method_fine_here at) (makes_fine at)) (overrides_fine at)) (starts_fine at))
      (accessed_fine at)
  row_fine (item.Field f) at = all_join (OfFact recs) (field_needs recs at) (field_starts recs at) (field_needs_fine at) (field_starts_fine at)
  row_fine (item.Prop p) at = property_needs_fine at
  row_fine (item.Event e) at = event_needs_fine at
  row_fine (item.Impl i) at = impl_fine at

  -- an interface row and what it names
  pub rows_fine : (t j : RowAt) → Fine recs (rows_for recs t j)
  unfolding rows_for
  rows_fine t j =
      all_option (OfFact recs) (λ (rec : AsmRec). each_row (row_for recs t j rec) rec.interface_impl) (rec_at recs t)
      (λ rec there.
      all_each (OfFact recs) (row_for recs t j rec) rec.interface_impl
      (λ k row e.
      all_if (OfFact recs) (row.class == token_of table.TYPE_DEF (suc t.row))
      (flat_map (λ e. if implies_one recs e j then marked (impl_item recs (at_row t.asm k)) ∷ of_expr e else []) (listed (good_type (token_type recs t.asm rec row.interface))))
      (λ h.
      all_option (OfFact recs) (λ e. if implies_one recs e j then marked (impl_item recs (at_row t.asm k)) ∷ of_expr e else []) (good_type (token_type recs t.asm rec row.interface))
      (λ x f.
      all_if (OfFact recs) (implies_one recs x j) (marked (impl_item recs (at_row t.asm k)) ∷ of_expr x) (λ g. all_more (OfFact recs) (marked (impl_item recs (at_row t.asm k))) (of_expr x) tt (expr_fine recs x))))))
