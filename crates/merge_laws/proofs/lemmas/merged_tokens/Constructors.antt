-- The constructors of attributes in what is left stand.
use Rattle.std.proofs.Common.{◌≡◌, ◌≤◌, ℕ, List, [], ◌++◌, map, Bool, true, false, not, Option, Some, None, refl, sym, ap, subst, ◌∙◌}
use Rattle.std.specs.Prelude.{slice_get, ◌==◌, if◌then◌else◌}
use Rattle.std.specs.List.{Contains, flat_map, filter}
use Rattle.std.specs.Option.{is_some, option_and_then, option_map}
use Rattle.std.proofs.lemmas.Bool.{eq-eqb}
use Rattle.std.proofs.lemmas.List.Elements.{Contains-append_left, Contains-append_right}
use Rattle.il_base.specs.declared.ids.MethodId.{MethodId}
use Rattle.il_base.specs.declared.ids.Item.{Item}
use Rattle.il_base.specs.declared.ids.Item.TheVariants as item
use Rattle.il_base.specs.declared.table.TheConstants as table
use Rattle.descriptor_file.specs.declared.root.Root.{Root}
use Rattle.il_base.specs.declared.cli_format.column.CodedIndex.TheVariants.{HasCustomAttribute, CustomAttributeType}
use Rattle.il_base.specs.cli_format.Tokens.{coded_of}
use Rattle.il_base.specs.declared.world_model.known.Known.{Known}
use Rattle.il_base.specs.declared.world_model.known.Known.TheVariants.{Good}
use Rattle.il_base.specs.declared.world_model.expr.MethodUse.{MethodUse}
use Rattle.il_base.specs.declared.world_model.members.MemberRefRow.{MemberRefRow}
use Rattle.il_base.specs.declared.world_model.extras.CustomAttributeRow.{CustomAttributeRow}
use Rattle.il_base.specs.declared.world_model.record.AsmRec.{AsmRec}
use Rattle.il_base.specs.world_model.Tokens.{table_of, index_in}
use Rattle.rules.specs.declared.link_rules.row_at.RowAt.{RowAt}
use Rattle.rules.specs.link_rules.Types.{at_row, or_else}
use Rattle.rules.specs.link_rules.Members.{methods_in}
use Rattle.rules.specs.link_rules.Cycles.{listed}
use Rattle.rules.specs.type_rules.Rows.{rec_at}
use Rattle.base_laws.proofs.lemmas.known_laws.Lists.{first_in, to_flat, to_map, from_map, from_listed, from_option, to_option, to_if, to_any, and_then_some, map_some}
use Rattle.rules.specs.mark_rules.Facts.{Fact, by_one}
use Rattle.rules.specs.mark_rules.Facts.Fact.{marked}
use Rattle.rules.specs.mark_rules.Places.{row_of, is_core}
use Rattle.rules.specs.mark_rules.Naming.{of_expr, of_exprs, of_method_use, method_named}
use Rattle.rules.specs.mark_rules.Attributes.{ref_sig, tokens_in, has_parent, attributes_of, is_input_method, value_facts, row_facts, good_uses, attribute_facts, attribute_needs}
use Rattle.rules.specs.mark_rules.Attributes.{value_of}
use Rattle.rules.specs.mark_rules.Dependencies.{dependency_needs}
use Rattle.rules.specs.mark_rules.Shown.{item_shows}
use Rattle.rules.specs.mark_rules.FlowMarks.{flow_marks}
use Rattle.rules.specs.mark_rules.Roots.{waiting_facts}
use Rattle.rules.specs.mark_rules.Marking.{row_needs, one, marking, Marks}
use Rattle.rules.specs.merge_rules.Numbers.{Kept}
use Rattle.rules.specs.merge_rules.Keys.{MethodKey, own_method, absent_method, good, world_method_sig, type_key, method_key}
use Rattle.rules.specs.merge_rules.Order.{met_method, met_by_types}
use Rattle.rules.specs.merge_rules.Attributes.{is_copied, absent_constructor, copied_constructor, is_in_input, constructor_key, Attribute, attribute_with, attribute_in, kept_attributes, met_by_attributes}
use Rattle.rules.specs.merge_rules.Rows.{all_rows, kept_row_token}
use Rattle.rules.specs.merge_rules.Refs.{Output, method_token}
use Rattle.rules.specs.merge_rules.Restricted.{placed_methods, moved_methods, restricted_by, attribute_row, output_of, restricted}
use Rattle.merge_laws.specs.merged_record.Laws.{InputsAreRecords, ReferencesStand, RowsFit}
use Rattle.merge_laws.proofs.lemmas.merged_record.Lists.{OfInput, from_all}
use Rattle.merge_laws.proofs.lemmas.merged_record.Sizes.{left}
use Rattle.merge_laws.proofs.lemmas.merged_record.Sorting.{sorted_in}
use Rattle.merge_laws.proofs.lemmas.merged_record.Tokens.{of_coded}
use Rattle.merge_laws.specs.merged_owners.Laws.{AreMarked, AreKept}
use Rattle.merge_laws.proofs.lemmas.merged_owners.Homes.{own_home}
use Rattle.merge_laws.specs.merged_tokens.Laws.{ConstructorsNamed}
use Rattle.merge_laws.proofs.lemmas.merged_tokens.Once.{to_filter}
use Rattle.merge_laws.proofs.lemmas.merged_tokens.Interfaces.{contained}
use Rattle.merge_laws.proofs.lemmas.merged_tokens.OwnMethods.{OwnThere, own_there, key_use, generic_of, own_same}
use Rattle.merge_laws.proofs.lemmas.merged_tokens.Callees.{method_stands}
use Rattle.merge_laws.proofs.lemmas.merged_tokens.Bodies.{no_spec, not_core}
use Rattle.merge_laws.proofs.lemmas.merged_tokens.Parents.{Parent, parent_is}

-- ---- a constructor that is known by its own row is a method's key

module _ (recs : List AsmRec) (a : ℕ) (rec : AsmRec) (token : ℕ) (m : MethodId) where
  absent_own : (row : MemberRefRow) → absent_constructor recs a rec row ≡ Some (own_method m) → ⊥
  absent_own row h =
      let p = and_then_some (λ p. option_map (λ s. absent_method p row.name (world_method_sig recs a rec s)) (good (ref_sig row))) (type_key recs a rec row.class) (own_method m) h in
      let q = map_some (λ s. absent_method p.0 row.name (world_method_sig recs a rec s)) (good (ref_sig row)) (own_method m) p.2 in
      let e : absent_method p.0 row.name (world_method_sig recs a rec q.0) ≡ own_method m = q.2 in
      cc

  or_own : (row : MemberRefRow) (o : Option MethodKey) → or_else o (absent_constructor recs a rec row) ≡ Some (own_method m) → o ≡ Some (own_method m)
  or_own row (Some k) h = h
  or_own row None h = absurd (absent_own row h)

  copied_own : (row : MemberRefRow) (b : Bool) → (if b then or_else (method_key recs a rec token) (absent_constructor recs a rec row) else None) ≡ Some (own_method m) → method_key recs a rec token ≡ Some (own_method m)
  copied_own row true h = or_own row (method_key recs a rec token) h
  copied_own row false h = absurd (cc)

  key_by : (b : Bool) → (if b then method_key recs a rec token else option_and_then (copied_constructor recs a rec token) (option_and_then (slice_get rec.member_ref) (index_in table.MEMBER_REF token))) ≡ Some (own_method m)
      → method_key recs a rec token ≡ Some (own_method m)
  key_by true h = h
  key_by false h =
      let r = and_then_some (copied_constructor recs a rec token) (option_and_then (slice_get rec.member_ref) (index_in table.MEMBER_REF token)) (own_method m) h in
      copied_own r.0 (is_copied recs a rec r.0) r.2

  own_key : constructor_key recs a rec token ≡ Some (own_method m) → method_key recs a rec token ≡ Some (own_method m)
  unfolding constructor_key
  own_key h = key_by (is_in_input recs a rec token) h

module _ (recs : List AsmRec) (kept : Kept) (records : InputsAreRecords recs) (entry : Option RowAt) (roots : List Root) (marks : AreMarked recs entry roots kept) (stays : AreKept recs entry roots kept) where
  -- ---- a kept attribute marks its constructor

  module _ (a : ℕ) (rec : AsmRec) (input : OfInput recs a rec) (j : ℕ) (row : CustomAttributeRow) (is : slice_get rec.custom_attribute j ≡ Some row) (parent : Parent recs kept records entry roots marks a rec input row.parent) where
    listed_row : Contains (attributes_of recs parent.item) row
    unfolding attributes_of
    listed_row =
        to_option (λ (at : RowAt). flat_map (λ (r : AsmRec). filter (has_parent (tokens_in parent.item at.row r)) r.custom_attribute) (listed (rec_at recs at))) (row_of recs parent.item) (at_row a parent.row) row parent.home
        (to_option (λ (r : AsmRec). filter (has_parent (tokens_in parent.item parent.row r)) r.custom_attribute) (rec_at recs (at_row a parent.row)) rec row input.there
        (to_filter (has_parent (tokens_in parent.item parent.row rec)) rec.custom_attribute row (contained rec.custom_attribute j row is)
        (to_any (λ t. row.parent == t) (tokens_in parent.item parent.row rec) row.parent parent.among (eq-eqb row.parent row.parent refl))))

    needs : (u : MethodUse) → method_named recs a rec row.ctor ≡ Good u → is_input_method recs u ≡ true → Contains (attribute_needs recs parent.item) (marked (item.Method u.method))
    unfolding attribute_needs
    needs u e h =
        let f : Fact = marked (item.Method u.method) in
        let inner : Contains (row_facts recs a rec row u) f =
        to_if (is_input_method recs u) (of_method_use u ++ flat_map (value_facts recs a u) (listed (value_of recs a rec row))) f h
        (Contains-append_left (of_method_use u) (flat_map (value_facts recs a u) (listed (value_of recs a rec row))) f (first_in f (of_expr u.owner ++ of_exprs u.args))) in
        let facts : Contains (attribute_facts recs a rec row) f =
        to_flat (row_facts recs a rec row) (good_uses (method_named recs a rec row.ctor)) f
        (record { item = u; there = subst (λ (x : Known MethodUse). Contains (good_uses x) u) (sym e) (first_in u []); inside = inner }) in
        to_option (λ (at : RowAt). flat_map (λ (r : AsmRec). flat_map (attribute_facts recs at.asm r) (attributes_of recs parent.item)) (listed (rec_at recs at))) (row_of recs parent.item) (at_row a parent.row) f parent.home
        (to_option (λ (r : AsmRec). flat_map (attribute_facts recs a r) (attributes_of recs parent.item)) (rec_at recs (at_row a parent.row)) rec f input.there
        (to_flat (attribute_facts recs a rec) (attributes_of recs parent.item) f (record { item = row; there = listed_row; inside = facts })))

    constructor_marked : (u : MethodUse) → method_named recs a rec row.ctor ≡ Good u → is_input_method recs u ≡ true → Marks recs entry roots (marked (item.Method u.method))
    unfolding marking one
    constructor_marked u e h =
        let i : Item = parent.item in
        let f : Fact = marked (item.Method u.method) in
        by_one (marked i) f parent.needed
        (Contains-append_left _ (flow_marks recs i) f
        (Contains-append_left _ (item_shows recs i) f
        (Contains-append_left _ (waiting_facts recs roots i) f
        (Contains-append_left _ (dependency_needs recs i) f (Contains-append_right (flat_map (row_needs recs i) (listed (row_of recs i))) (attribute_needs recs i) f (needs u e h))))))

    home_own : (m : MethodId) (t : OwnThere recs m) → is_some (row_of recs (item.Method m)) ≡ true
    unfolding row_of
    home_own m t = ap (λ (x : Option RowAt). is_some x) (ap (λ (n : MethodId). row_of recs (item.Method n)) t.is ∙ own_home methods_in recs t.at t.rec t.there t.below)

    constructor_own : (m : MethodId) → constructor_key recs a rec row.ctor ≡ Some (own_method m) → OwnThere recs m × (kept (item.Method m) ≡ true)
    constructor_own m h =
        let s = no_spec (table_of row.ctor) (of_coded rec CustomAttributeType row.ctor ((records a rec input.within input.there).tokens.custom_attributes j row is).1).table in
        let key = own_key recs a rec row.ctor m h in
        let t = own_there recs a rec input.there input.within row.ctor m s key in
        let k = key_use recs a rec input.there input.within row.ctor (own_method m) s key in
        let of : k.0.method ≡ m = own_same recs (table_of row.ctor == table.METHOD_DEF) k.0 m k.2 in
        let in_input : is_input_method recs k.0 ≡ true = ap (λ (n : MethodId). not (is_core recs (item.Method n))) of ∙ ap not (not_core recs m t) in
        let needed : Marks recs entry roots (marked (item.Method m)) =
        subst (λ (n : MethodId). Marks recs entry roots (marked (item.Method n))) of (constructor_marked k.0 (generic_of recs a rec input.there input.within row.ctor s ∙ k.1) in_input) in
        (t, stays (item.Method m) (home_own m t) needed)

  -- ---- each kept attribute

  attribute_own : (x : Attribute) → Contains (kept_attributes recs kept) x → (m : MethodId) → x.ctor ≡ own_method m → OwnThere recs m × (kept (item.Method m) ≡ true)
  unfolding kept_attributes
  attribute_own x c m e =
      let r = from_all (λ rec. rec.custom_attribute) (attribute_in recs kept) recs x (sorted_in (λ (y : Attribute). coded_of HasCustomAttribute y.parent) (all_rows (λ rec. rec.custom_attribute) (attribute_in recs kept) recs) x c) in
      let p = from_option (λ parent. map (attribute_with r.row.value parent) (listed (constructor_key recs r.asm r.rec r.row.ctor))) (kept_row_token recs kept r.asm r.row.parent) x r.inside in
      let k = from_map (attribute_with r.row.value p.0) (listed (constructor_key recs r.asm r.rec r.row.ctor)) x p.2 in
      let same : k.0 ≡ own_method m = ap (λ (y : Attribute). y.ctor) k.2 ∙ e in
      constructor_own r.asm r.rec r.input r.place r.row r.there (parent_is recs kept records entry roots marks r.asm r.rec r.input r.row.parent p.0 p.1) m
      (from_listed (constructor_key recs r.asm r.rec r.row.ctor) k.0 k.1 ∙ ap (λ (y : MethodKey). Some y) same)

  attribute_met : (x : Attribute) → Contains (kept_attributes recs kept) x → Contains (output_of recs kept).mets (met_method x.ctor)
  unfolding output_of met_by_attributes
  attribute_met x c = Contains-append_right (met_by_types recs kept) (met_by_attributes recs kept) (met_method x.ctor) (to_map (λ (y : Attribute). met_method y.ctor) (kept_attributes recs kept) x c)

  left_constructors : (internal : Bool) (primary : AsmRec) → ReferencesStand (output_of recs kept) (left internal (output_of recs kept) primary) → RowsFit (left internal (output_of recs kept) primary)
      → (k : ℕ) (row : CustomAttributeRow) → slice_get (left internal (output_of recs kept) primary).custom_attribute k ≡ Some row → 1 ≤ row.ctor
  unfolding output_of
  left_constructors internal primary refs fit k row e =
      let o : Output = output_of recs kept in
      let x = from_map (attribute_row o) (kept_attributes recs kept) row (contained (map (attribute_row o) (kept_attributes recs kept)) k row e) in
      let ge : 1 ≤ method_token o x.0.ctor = method_stands internal o primary refs fit x.0.ctor (met_method x.0.ctor) (attribute_met x.0 x.1) refl (attribute_own x.0 x.1) in
      subst (λ (y : CustomAttributeRow). 1 ≤ y.ctor) x.2 ge

pub constructors_named : ConstructorsNamed
unfolding restricted
constructors_named internal recs entry roots kept rec e records marks keeps good refs fit k row there =
    let p = map_some (restricted_by internal (output_of recs kept) (placed_methods (moved_methods (output_of recs kept)))) (slice_get recs 0) rec e in
    left_constructors recs kept records entry roots marks keeps internal p.0 (subst (ReferencesStand (output_of recs kept)) (sym p.2) refs) (subst RowsFit (sym p.2) fit) k row
    (subst (λ (r : AsmRec). slice_get r.custom_attribute k ≡ Some row) (sym p.2) there)
