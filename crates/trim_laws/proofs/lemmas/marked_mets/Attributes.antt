-- What kept attributes meet is kept: the constructor of one whose constructor is in an input is needed, another is the core library's or
-- names nothing.
use Rattle.std.proofs.Common.{◌≡◌, ℕ, suc, Bool, true, false, List, [], ◌++◌, length, map, not, Option, Some, None, refl, sym, ap, subst, ◌∙◌}
use Rattle.std.specs.Prelude.{slice_get, ◌==◌, ◌||◌, if◌then◌else◌}
use Rattle.std.specs.List.{Contains, list_any, flat_map, filter}
use Rattle.std.specs.Option.{option_map, option_and_then}
use Rattle.std.specs.Cmp.{first_so, second_so}
use Rattle.std.proofs.lemmas.Bool.{eq-eqb, eqb-true}
use Rattle.std.proofs.lemmas.List.Elements.{Contains-append_left}
use Rattle.il_base.specs.declared.ids.MethodId.{MethodId}
use Rattle.il_base.specs.declared.ids.Item.TheVariants as item
use Rattle.il_base.specs.declared.sig.MethodSig.{MethodSig}
use Rattle.il_base.specs.declared.table.TheConstants as table
use Rattle.il_base.specs.declared.cli_format.column.CodedIndex.TheVariants.{HasCustomAttribute, CustomAttributeType}
use Rattle.il_base.specs.cli_format.Tokens.{coded_of}
use Rattle.descriptor_file.specs.declared.root.Root.{Root}
use Rattle.il_base.specs.declared.world_model.known.Known.{Known}
use Rattle.il_base.specs.declared.world_model.known.Known.TheVariants.{Good, Bad}
use Rattle.il_base.specs.declared.world_model.expr.MethodUse.{MethodUse}
use Rattle.il_base.specs.declared.world_model.members.MemberRefRow.{MemberRefRow}
use Rattle.il_base.specs.declared.world_model.extras.CustomAttributeRow.{CustomAttributeRow}
use Rattle.il_base.specs.declared.world_model.record.AsmRec.{AsmRec}
use Rattle.il_base.specs.world_model.Tokens.{table_of, index_in, row_index}
use Rattle.il_base.specs.world_model.Worlds.{row_below}
use Rattle.rules.specs.declared.link_rules.row_at.RowAt.{RowAt}
use Rattle.rules.specs.link_rules.Types.{at_row, or_else}
use Rattle.rules.specs.link_rules.Cycles.{listed}
use Rattle.rules.specs.link_rules.Members.{methods_in, method_ref_use, ref_use_at, def_use_at, generic_method}
use Rattle.rules.specs.type_rules.Rows.{rec_at}
use Rattle.base_laws.proofs.lemmas.known_laws.Lists.{first_in, from_map, to_map, from_option, to_option, from_listed, to_listed, to_if, to_flat, to_any, and_then_some, map_some}
use Rattle.rules.specs.mark_rules.Facts.{Fact, start}
use Rattle.rules.specs.mark_rules.Facts.Fact.{marked}
use Rattle.rules.specs.mark_rules.Places.{row_of, is_core}
use Rattle.rules.specs.mark_rules.Naming.{of_method_use, spec_use_at, method_named}
use Rattle.rules.specs.mark_rules.Attributes.{tokens_in, has_parent, attributes_of, ref_sig, is_input_method, value_of, value_facts, row_facts, good_uses, attribute_facts, attribute_needs}
use Rattle.rules.specs.mark_rules.Roots.{start_facts}
use Rattle.rules.specs.mark_rules.Marking.{same_fact, given, marking, Marks}
use Rattle.rules.specs.mark_rules.BadItems.{IsFirstFlaw}
use Rattle.rules.specs.merge_rules.Numbers.{Kept}
use Rattle.rules.specs.merge_rules.Keys.{MethodKey, absent_method, good, method_key_of, world_method_sig, type_key, method_key, instance_key}
use Rattle.rules.specs.merge_rules.Order.{met_method, met_instance}
use Rattle.rules.specs.merge_rules.Refs.{types_of_key, types_of_method_sig}
use Rattle.rules.specs.merge_rules.Rows.{all_rows, kept_row_token}
use Rattle.rules.specs.merge_rules.Attributes.{may_be_parent, may_take, is_copied, absent_constructor, copied_constructor, is_in_input, constructor_key, Attribute, attribute_with, attribute_in, kept_attributes, met_by_attributes}
use Rattle.merge_laws.specs.merged_record.Laws.{InputsAreRecords}
use Rattle.merge_laws.proofs.lemmas.merged_record.Lists.{from_all, OfInput, place_in}
use Rattle.merge_laws.proofs.lemmas.merged_record.Sorting.{sorted_in}
use Rattle.merge_laws.proofs.lemmas.merged_record.Tokens.{of_coded}
use Rattle.merge_laws.specs.merged_owners.Laws.{AreMarked, AreKept}
use Rattle.merge_laws.proofs.lemmas.merged_owners.Every.{Every, all_none, all_join, all_map, some_of}
use Rattle.merge_laws.proofs.lemmas.merged_tokens.Bodies.{no_spec}
use Rattle.merge_laws.proofs.lemmas.merged_tokens.Once.{to_filter}
use Rattle.merge_laws.proofs.lemmas.merged_tokens.Parents.{Parent, parent_is}
use Rattle.trim_laws.proofs.lemmas.marked_mets.Stays.{Stays}
use Rattle.trim_laws.proofs.lemmas.marked_mets.Parts.{attributes_needed}
use Rattle.trim_laws.proofs.lemmas.marked_mets.Uses.{CoreIsBare, Holds, Fine, KeyFine, key_fine, callee_fine}
use Rattle.trim_laws.proofs.lemmas.marked_mets.CoreOnly.{last_stays}
use Rattle.trim_laws.proofs.lemmas.marked_mets.Copied.{IsBare, ref_core, method_sig_stays, parent_stays}

-- the core library has no TypeSpec rows (II.22.39)
abbrev pub CoreHasNoSpecs : List AsmRec → Type 0
CoreHasNoSpecs recs = (a : ℕ) (rec : AsmRec) → slice_get recs a ≡ Some rec → suc a ≡ length recs → rec.type_spec ≡ []

core_or : (b c : Bool) → b ≡ true → (b || c) ≡ true
core_or true c h = refl
core_or false c h = absurd (cc)

or_second : (b c : Bool) → c ≡ true → (b || c) ≡ true
or_second true c h = refl
or_second false c h = h

only : (b : Bool) → (b || false) ≡ true → b ≡ true
only true h = refl
only false h = h

not_input : (b : Bool) → (not b || false) ≡ false → b ≡ true
not_input true h = refl
not_input false h = absurd (cc)

good_is : {A : Type 0} (x : Known A) (y : A) → good x ≡ Some y → x ≡ Good y
good_is (Good z) y e = let same : z ≡ y = cc in ap Good same
good_is (Bad why) y e = absurd (cc)

core_marked : (recs : List AsmRec) (entry : Option RowAt) (roots : List Root) (m : MethodId) → is_core recs (item.Method m) ≡ true → Marks recs entry roots (marked (item.Method m))
unfolding marking given
core_marked recs entry roots m h = start (marked (item.Method m)) (core_or (is_core recs (item.Method m)) (list_any (same_fact (marked (item.Method m))) (start_facts recs entry roots)) h)

-- ---- tokens of constructors

of_table : (t token k : ℕ) (b : Bool) → (table_of token == t) ≡ b → (if b then row_index token else None) ≡ Some k → table_of token ≡ t
of_table t token k true e h = eqb-true (table_of token) t e
of_table t token k false e h = absurd (cc)

-- one of a MemberRef row names what the row does
named_row : (recs : List AsmRec) (a : ℕ) (rec : AsmRec) (token : ℕ) (row : MemberRefRow) → option_and_then (slice_get rec.member_ref) (index_in table.MEMBER_REF token) ≡ Some row
    → method_named recs a rec token ≡ method_ref_use recs a rec row
unfolding method_named generic_method
named_row recs a rec token row e =
    let k = and_then_some (slice_get rec.member_ref) (index_in table.MEMBER_REF token) row e in
    by_table (of_table table.MEMBER_REF token k.0 (table_of token == table.MEMBER_REF) refl k.1)
  where
    by_test : (b c : Bool) → b ≡ false → c ≡ false
        → (if b then spec_use_at recs a rec (option_and_then (slice_get rec.method_spec) (index_in table.METHOD_SPEC token))
        else if c then def_use_at recs a rec (row_below (methods_in rec) (index_in table.METHOD_DEF token))
        else ref_use_at recs a rec (option_and_then (slice_get rec.member_ref) (index_in table.MEMBER_REF token))) ≡ method_ref_use recs a rec row
    by_test true c f g = absurd (cc)
    by_test false true f g = absurd (cc)
    by_test false false f g = ap (ref_use_at recs a rec) e

    by_table : table_of token ≡ table.MEMBER_REF
        → (if table_of token == table.METHOD_SPEC then spec_use_at recs a rec (option_and_then (slice_get rec.method_spec) (index_in table.METHOD_SPEC token))
        else if table_of token == table.METHOD_DEF then def_use_at recs a rec (row_below (methods_in rec) (index_in table.METHOD_DEF token))
        else ref_use_at recs a rec (option_and_then (slice_get rec.member_ref) (index_in table.MEMBER_REF token))) ≡ method_ref_use recs a rec row
    by_table t =
        by_test (table_of token == table.METHOD_SPEC) (table_of token == table.METHOD_DEF) (subst (λ (n : ℕ). (n == table.METHOD_SPEC) ≡ false) (sym t) refl) (subst (λ (n : ℕ). (n == table.METHOD_DEF) ≡ false) (sym t) refl)

module _ (recs : List AsmRec) (kept : Kept) (bare : CoreIsBare recs) (specs : CoreHasNoSpecs recs) (records : InputsAreRecords recs) (entry : Option RowAt) (roots : List Root) (stays : AreKept recs entry roots kept)
    (marks : AreMarked recs entry roots kept) (good_all : IsFirstFlaw recs entry (Marks recs entry roots) None) where
  of_key : (k : MethodKey) → KeyFine recs kept bare entry roots stays marks good_all k → Fine recs kept (met_method k)
  of_key k h = record { types = h.types; members = h.members }

  module _ (a : ℕ) (rec : AsmRec) (input : OfInput recs a rec) where
    -- ---- constructors of inputs

    module _ (j : ℕ) (row : CustomAttributeRow) (is : slice_get rec.custom_attribute j ≡ Some row) (parent : Parent recs kept records entry roots marks a rec input row.parent) where
      listed_row : Contains (attributes_of recs parent.item) row
      unfolding attributes_of
      listed_row =
          to_option (λ (at : RowAt). flat_map (λ (r : AsmRec). filter (has_parent (tokens_in parent.item at.row r)) r.custom_attribute) (listed (rec_at recs at))) (row_of recs parent.item) (at_row a parent.row) row parent.home
          (to_option (λ (r : AsmRec). filter (has_parent (tokens_in parent.item parent.row r)) r.custom_attribute) (rec_at recs (at_row a parent.row)) rec row input.there
          (to_filter (has_parent (tokens_in parent.item parent.row rec)) rec.custom_attribute row (place_in rec.custom_attribute j row is)
          (to_any (λ t. row.parent == t) (tokens_in parent.item parent.row rec) row.parent parent.among (eq-eqb row.parent row.parent refl))))

      needs : (u : MethodUse) (f : Fact) → method_named recs a rec row.ctor ≡ Good u → is_input_method recs u ≡ true → Contains (of_method_use u) f → Contains (attribute_needs recs parent.item) f
      unfolding attribute_needs
      needs u f e h c =
          let inner : Contains (row_facts recs a rec row u) f =
          to_if (is_input_method recs u) (of_method_use u ++ flat_map (value_facts recs a u) (listed (value_of recs a rec row))) f h
          (Contains-append_left (of_method_use u) (flat_map (value_facts recs a u) (listed (value_of recs a rec row))) f c) in
          let facts : Contains (attribute_facts recs a rec row) f =
          to_flat (row_facts recs a rec row) (good_uses (method_named recs a rec row.ctor)) f
          (record { item = u; there = subst (λ (x : Known MethodUse). Contains (good_uses x) u) (sym e) (first_in u []); inside = inner }) in
          to_option (λ (at : RowAt). flat_map (λ (r : AsmRec). flat_map (attribute_facts recs at.asm r) (attributes_of recs parent.item)) (listed (rec_at recs at))) (row_of recs parent.item) (at_row a parent.row) f parent.home
          (to_option (λ (r : AsmRec). flat_map (attribute_facts recs a r) (attributes_of recs parent.item)) (rec_at recs (at_row a parent.row)) rec f input.there
          (to_flat (attribute_facts recs a rec) (attributes_of recs parent.item) f (record { item = row; there = listed_row; inside = facts })))

      use_needed : (u : MethodUse) → method_named recs a rec row.ctor ≡ Good u → is_input_method recs u ≡ true → (f : Fact) → Contains (of_method_use u) f → Marks recs entry roots f
      use_needed u e h f c = attributes_needed recs kept entry roots parent.item parent.needed f (needs u f e h c)

      in_callee : (k : MethodKey) (b : Bool) → b ≡ false → method_key recs a rec row.ctor ≡ Some k
          → Contains (if b then map met_instance (listed (instance_key recs a rec row.ctor)) else map met_method (listed (method_key recs a rec row.ctor))) (met_method k)
      in_callee k true f e = absurd (cc)
      in_callee k false f e = to_map met_method (listed (method_key recs a rec row.ctor)) k (to_listed (method_key recs a rec row.ctor) k e)

      input_fine : (k : MethodKey) → is_in_input recs a rec row.ctor ≡ true → (table_of row.ctor == table.METHOD_SPEC) ≡ false → method_key recs a rec row.ctor ≡ Some k → Fine recs kept (met_method k)
      input_fine k h s e =
          let u = some_of (is_input_method recs) (good (method_named recs a rec row.ctor)) h in
          let named = good_is (method_named recs a rec row.ctor) u.0 u.1 in
          (callee_fine recs kept bare entry roots stays marks good_all records a rec input.there input.within row.ctor u.0 named (use_needed u.0 named u.2)).each (met_method k) (in_callee k (table_of row.ctor == table.METHOD_SPEC) s e)

    -- ---- others

    is_bare : (b : ℕ) (r : AsmRec) → slice_get recs b ≡ Some r → suc b ≡ length recs → IsBare r
    is_bare b r there last = record { refs = bare b r there last; specs = specs b r there last }

    core_use : (x : Option MethodUse) (u : MethodUse) → x ≡ Some u → list_any (is_input_method recs) (listed x) ≡ false → is_core recs (item.Method u.method) ≡ true
    core_use None u e h = absurd (cc)
    core_use (Some v) u e h = let same : v ≡ u = cc in subst (λ (w : MethodUse). is_core recs (item.Method w.method) ≡ true) same (not_input (is_core recs (item.Method v.method)) h)

    -- one that is found is the core library's
    core_fine : (token : ℕ) (row : MemberRefRow) (k : MethodKey) → option_and_then (slice_get rec.member_ref) (index_in table.MEMBER_REF token) ≡ Some row → is_in_input recs a rec token ≡ false
        → may_be_parent recs a rec row.class ≡ true → method_key recs a rec token ≡ Some k → Fine recs kept (met_method k)
    unfolding method_key
    core_fine token row k is other may e =
        let m = map_some (method_key_of recs (table_of token == table.METHOD_DEF)) (good (method_named recs a rec token)) k e in
        let core = core_use (good (method_named recs a rec token)) m.0 m.1 other in
        let used = sym (named_row recs a rec token row is) ∙ good_is (method_named recs a rec token) m.0 m.1 in
        subst (λ (x : MethodKey). Fine recs kept (met_method x)) m.2
        (of_key (method_key_of recs (table_of token == table.METHOD_DEF) m.0)
        (key_fine recs kept bare entry roots stays marks good_all (table_of token == table.METHOD_DEF) m.0 (core_marked recs entry roots m.0.method core) (last_stays recs kept m.0.owner (ref_core recs is_bare a rec row m.0 may used))
        (or_second (kept (item.Method m.0.method)) (is_core recs (item.Method m.0.method)) core)))

    one_take : (x : Option MethodSig) (s : MethodSig) → x ≡ Some s → list_any (may_take recs a rec) (listed x) ≡ true → may_take recs a rec s ≡ true
    one_take None s e h = absurd (cc)
    one_take (Some r) s e h = let same : r ≡ s = cc in subst (λ (y : MethodSig). may_take recs a rec y ≡ true) same (only (may_take recs a rec r) h)

    -- one that names nothing refers to nothing of an input
    absent_fine : (row : MemberRefRow) (k : MethodKey) → is_copied recs a rec row ≡ true → absent_constructor recs a rec row ≡ Some k → Fine recs kept (met_method k)
    absent_fine row k copied e =
        let takes : Bool = list_any (may_take recs a rec) (listed (good (ref_sig row))) in
        let p = and_then_some (λ p. option_map (λ s. absent_method p row.name (world_method_sig recs a rec s)) (good (ref_sig row))) (type_key recs a rec row.class) k e in
        let q = map_some (λ s. absent_method p.0 row.name (world_method_sig recs a rec s)) (good (ref_sig row)) k p.2 in
        subst (λ (x : MethodKey). Fine recs kept (met_method x)) q.2
        (record {
          types =
              all_join (Stays recs kept) (types_of_key p.0) (types_of_method_sig (world_method_sig recs a rec q.0))
              (parent_stays recs kept a rec row.class p.0 (first_so (may_be_parent recs a rec row.class) takes copied) p.1)
              (method_sig_stays recs kept a rec q.0 (one_take (good (ref_sig row)) q.0 q.1 (second_so (may_be_parent recs a rec row.class) takes copied)));
          members = all_none (Holds recs kept);
        })

    either_fine : (token : ℕ) (row : MemberRefRow) (k : MethodKey) (o : Option MethodKey) → option_and_then (slice_get rec.member_ref) (index_in table.MEMBER_REF token) ≡ Some row → is_in_input recs a rec token ≡ false
        → is_copied recs a rec row ≡ true → method_key recs a rec token ≡ o → or_else o (absent_constructor recs a rec row) ≡ Some k → Fine recs kept (met_method k)
    either_fine token row k (Some x) is other copied e h =
        core_fine token row k is other (first_so (may_be_parent recs a rec row.class) (list_any (may_take recs a rec) (listed (good (ref_sig row)))) copied) (e ∙ h)
    either_fine token row k None is other copied e h = absent_fine row k copied h

    copied_by : (token : ℕ) (row : MemberRefRow) (k : MethodKey) (b : Bool) → option_and_then (slice_get rec.member_ref) (index_in table.MEMBER_REF token) ≡ Some row → is_in_input recs a rec token ≡ false → is_copied recs a rec row ≡ b
        → (if b then or_else (method_key recs a rec token) (absent_constructor recs a rec row) else None) ≡ Some k → Fine recs kept (met_method k)
    copied_by token row k true is other copied h = either_fine token row k (method_key recs a rec token) is other copied refl h
    copied_by token row k false is other copied h = absurd (cc)

    -- ---- each constructor

    constructor_by : (j : ℕ) (row : CustomAttributeRow) → slice_get rec.custom_attribute j ≡ Some row → Parent recs kept records entry roots marks a rec input row.parent → (table_of row.ctor == table.METHOD_SPEC) ≡ false → (k : MethodKey) (b : Bool)
        → is_in_input recs a rec row.ctor ≡ b
        → (if b then method_key recs a rec row.ctor else option_and_then (copied_constructor recs a rec row.ctor) (option_and_then (slice_get rec.member_ref) (index_in table.MEMBER_REF row.ctor))) ≡ Some k → Fine recs kept (met_method k)
    constructor_by j row is parent s k true e h = input_fine j row is parent k e s h
    constructor_by j row is parent s k false e h =
        let r = and_then_some (copied_constructor recs a rec row.ctor) (option_and_then (slice_get rec.member_ref) (index_in table.MEMBER_REF row.ctor)) k h in
        copied_by row.ctor r.0 k (is_copied recs a rec r.0) r.1 e refl r.2

    constructor_fine : (j : ℕ) (row : CustomAttributeRow) → slice_get rec.custom_attribute j ≡ Some row → Parent recs kept records entry roots marks a rec input row.parent → (k : MethodKey) → constructor_key recs a rec row.ctor ≡ Some k
        → Fine recs kept (met_method k)
    unfolding constructor_key
    constructor_fine j row is parent k h =
        let s = no_spec (table_of row.ctor) (of_coded rec CustomAttributeType row.ctor ((records a rec input.within input.there).tokens.custom_attributes j row is).1).table in
        constructor_by j row is parent s k (is_in_input recs a rec row.ctor) refl h

  attribute_fine : (x : Attribute) → Contains (kept_attributes recs kept) x → Fine recs kept (met_method x.ctor)
  unfolding kept_attributes
  attribute_fine x c =
      let r = from_all (λ rec. rec.custom_attribute) (attribute_in recs kept) recs x (sorted_in (λ (y : Attribute). coded_of HasCustomAttribute y.parent) (all_rows (λ rec. rec.custom_attribute) (attribute_in recs kept) recs) x c) in
      let p = from_option (λ parent. map (attribute_with r.row.value parent) (listed (constructor_key recs r.asm r.rec r.row.ctor))) (kept_row_token recs kept r.asm r.row.parent) x r.inside in
      let k = from_map (attribute_with r.row.value p.0) (listed (constructor_key recs r.asm r.rec r.row.ctor)) x p.2 in
      subst (λ (y : Attribute). Fine recs kept (met_method y.ctor)) k.2
      (constructor_fine r.asm r.rec r.input r.place r.row r.there (parent_is recs kept records entry roots marks r.asm r.rec r.input r.row.parent p.0 p.1) k.0
      (from_listed (constructor_key recs r.asm r.rec r.row.ctor) k.0 k.1))

  pub by_attributes : Every (Fine recs kept) (met_by_attributes recs kept)
  unfolding met_by_attributes
  by_attributes = all_map (Fine recs kept) (λ (x : Attribute). met_method x.ctor) (kept_attributes recs kept) attribute_fine
