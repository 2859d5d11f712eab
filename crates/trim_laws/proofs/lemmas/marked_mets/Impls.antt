-- What MethodImpl rows of kept types meet is kept: bodies and declarations.
use Rattle.std.proofs.Common.{◌≡◌, ◌<◌, ℕ, suc, ◌+◌, List, [], ◌++◌, length, map, Bool, true, false, Option, Some, None, refl, sym, ap, subst, ◌∙◌, arith}
use Rattle.std.specs.Prelude.{slice_get, ◌==◌, ◌||◌, if◌then◌else◌}
use Rattle.std.specs.List.{Contains, flat_map, filter, list_any}
use Rattle.std.specs.Option.{option_map}
use Rattle.std.proofs.lemmas.Bool.{and_parts}
use Rattle.std.proofs.lemmas.List.Elements.{Contains-append_left, Contains-append_right}
use Rattle.il_base.specs.declared.ids.MethodId.{MethodId}
use Rattle.il_base.specs.declared.ids.Item.TheVariants as item
use Rattle.il_base.specs.declared.table.TheConstants as table
use Rattle.descriptor_file.specs.declared.root.Root.{Root}
use Rattle.il_base.specs.declared.cli_format.column.CodedIndex.TheVariants.{MethodDefOrRef}
use Rattle.il_base.specs.declared.world_model.known.Known.{Known}
use Rattle.il_base.specs.declared.world_model.known.Known.TheVariants.{Good, Bad}
use Rattle.il_base.specs.declared.world_model.expr.MethodUse.{MethodUse}
use Rattle.il_base.specs.declared.world_model.members.MethodImplRow.{MethodImplRow}
use Rattle.il_base.specs.declared.world_model.record.AsmRec.{AsmRec}
use Rattle.il_base.specs.world_model.Tokens.{token_of, table_of}
use Rattle.rules.specs.declared.link_rules.row_at.RowAt.{RowAt}
use Rattle.rules.specs.link_rules.Cycles.{listed, same_row}
use Rattle.rules.specs.link_rules.Members.{methods_in, generic_method}
use Rattle.rules.specs.type_rules.Rows.{rec_at, each_row}
use Rattle.rules.specs.type_rules.Slots.{method_row_at, method_home}
use Rattle.rules.specs.type_rules.Dispatch.{good_use}
use Rattle.base_laws.proofs.lemmas.type_laws.Places.{rows_decide}
use Rattle.base_laws.proofs.lemmas.known_laws.Lists.{to_flat, to_option, to_if, to_each}
use Rattle.rules.specs.mark_rules.Facts.{Fact, start}
use Rattle.rules.specs.mark_rules.Facts.Fact.{marked}
use Rattle.rules.specs.mark_rules.Places.{row_of, is_core}
use Rattle.rules.specs.mark_rules.Naming.{of_method_use}
use Rattle.rules.specs.mark_rules.Calls.{method_needs, makes, overridden, has_body, declared_by, declared_in, overrides_of, method_starts}
use Rattle.rules.specs.mark_rules.Properties.{accessed}
use Rattle.rules.specs.mark_rules.Roots.{start_facts}
use Rattle.rules.specs.mark_rules.Marking.{same_fact, given, marking, Marks}
use Rattle.rules.specs.mark_rules.BadItems.{IsFirstFlaw}
use Rattle.rules.specs.merge_rules.Numbers.{Kept}
use Rattle.rules.specs.merge_rules.Keys.{MethodKey, own_method, found_method, good, is_plain_owner, method_key_of, method_key, instance_key}
use Rattle.rules.specs.merge_rules.Order.{met_method, met_instance, met_callee, is_kept_method, is_impl_of, met_impls}
use Rattle.merge_laws.specs.merged_record.Laws.{InputsAreRecords}
use Rattle.merge_laws.proofs.lemmas.merged_record.Lists.{from_filter}
use Rattle.merge_laws.proofs.lemmas.merged_record.Tokens.{of_coded}
use Rattle.merge_laws.specs.merged_owners.Laws.{AreMarked, AreKept}
use Rattle.merge_laws.proofs.lemmas.merged_owners.Every.{Every, all_none, all_join, all_flat, all_option, some_of}
use Rattle.merge_laws.proofs.lemmas.merged_owners.Homes.{own_home, to_place}
use Rattle.merge_laws.proofs.lemmas.merged_tokens.OwnMethods.{MethodAt, use_there, key_use, generic_of}
use Rattle.merge_laws.proofs.lemmas.merged_tokens.Bodies.{no_spec}
use Rattle.merge_laws.proofs.lemmas.merged_tokens.Interfaces.{contained}
use Rattle.trim_laws.proofs.lemmas.marked_mets.Stays.{Needed}
use Rattle.trim_laws.proofs.lemmas.marked_mets.Parts.{row_needed}
use Rattle.trim_laws.proofs.lemmas.marked_mets.Uses.{CoreIsBare, Fine, callee_fine}

or_first : (b c : Bool) → b ≡ true → (b || c) ≡ true
or_first true c h = refl
or_first false c h = absurd (cc)

either : (b c : Bool) (P : Type 0) → (b || c) ≡ true → (b ≡ true → P) → (c ≡ true → P) → P
either true c P h f g = f refl
either false c P h f g = g h

module _ (recs : List AsmRec) (kept : Kept) (bare : CoreIsBare recs) (records : InputsAreRecords recs) (entry : Option RowAt) (roots : List Root) (stays : AreKept recs entry roots kept) (marks : AreMarked recs entry roots kept)
    (good_all : IsFirstFlaw recs entry (Marks recs entry roots) None) where
  core_marked : (m : MethodId) → is_core recs (item.Method m) ≡ true → Marks recs entry roots (marked (item.Method m))
  unfolding marking given
  core_marked m h = start (marked (item.Method m)) (or_first (is_core recs (item.Method m)) (list_any (same_fact (marked (item.Method m))) (start_facts recs entry roots)) h)

  home_of_method : (m : MethodId) (t : MethodAt recs m) → row_of recs (item.Method m) ≡ Some t.at
  unfolding row_of
  home_of_method m t = ap (λ (n : MethodId). row_of recs (item.Method n)) t.is ∙ own_home methods_in recs t.at t.rec t.there t.below

  has_own : (u : MethodUse) (t : MethodAt recs u.method) → has_body recs t.at u ≡ true
  has_own u t =
      let home : method_home recs u.method ≡ Some t.at = ap (method_home recs) t.is ∙ own_home methods_in recs t.at t.rec t.there t.below in
      ap (λ (x : Option RowAt). list_any (same_row t.at) (listed x)) home ∙ or_first (same_row t.at t.at) false ((rows_decide t.at t.at).1 refl)

  kept_by : (u : MethodUse) (b : Bool) → is_kept_method recs kept (if b then own_method u.method else found_method u.method u.owner) ≡ (kept (item.Method u.method) || is_core recs (item.Method u.method))
  kept_by u true = refl
  kept_by u false = refl

  module _ (a : ℕ) (rec : AsmRec) (there : slice_get recs a ≡ Some rec) (input : suc a < length recs) (j : ℕ) (row : MethodImplRow) (is : slice_get rec.method_impl j ≡ Some row) (u : MethodUse)
      (body : generic_method recs a rec row.body ≡ Good u) (needed : Marks recs entry roots (marked (item.Method u.method))) where
    abbrev t : MethodAt recs u.method
    t = use_there recs a rec there input row.body u body

    -- the row is one of the body's
    row_uses : (f : Fact) → Contains (of_method_use u ++ flat_map of_method_use (listed (good_use (generic_method recs a rec row.declaration)))) f → Marks recs entry roots f
    unfolding overrides_of
    row_uses f c =
        let z : 0 + a ≡ a = omega arith in
        let all : List Fact = of_method_use u ++ flat_map of_method_use (listed (good_use (generic_method recs a rec row.declaration))) in
        let by : Contains (declared_by recs t.at a rec row) f =
        to_option (λ (b : MethodUse). if has_body recs t.at b then of_method_use b ++ flat_map of_method_use (listed (good_use (generic_method recs a rec row.declaration))) else []) (good_use (generic_method recs a rec row.body)) u f (ap good_use body)
        (to_if (has_body recs t.at u) all f (has_own u t) c) in
        let in_rec : Contains (declared_in recs t.at (0 + a) rec) f =
        subst (λ (n : ℕ). Contains (declared_in recs t.at n rec) f) (sym z) (to_flat (declared_by recs t.at a rec) rec.method_impl f (record { item = row; there = contained rec.method_impl j row is; inside = by })) in
        let overrides : Contains (overrides_of recs t.at) f =
        Contains-append_right (flat_map (overridden recs t.at) (listed (method_row_at recs t.at))) (each_row (declared_in recs t.at) recs) f
        (to_each (declared_in recs t.at) 0 recs f (record { place = a; item = rec; there = there; inside = in_rec })) in
        row_needed recs kept entry roots (item.Method u.method) t.at (home_of_method u.method t) needed f
        (Contains-append_left (method_needs recs t.at ++ makes recs t.at ++ overrides_of recs t.at ++ method_starts recs t.at) (accessed recs t.at) f
        (Contains-append_left (method_needs recs t.at ++ makes recs t.at ++ overrides_of recs t.at) (method_starts recs t.at) f
        (Contains-append_right (method_needs recs t.at ++ makes recs t.at) (overrides_of recs t.at) f overrides)))

    body_uses : Needed recs kept entry roots stays (of_method_use u)
    body_uses f c = row_uses f (Contains-append_left (of_method_use u) (flat_map of_method_use (listed (good_use (generic_method recs a rec row.declaration)))) f c)

    declaration_uses : (d : MethodUse) → generic_method recs a rec row.declaration ≡ Good d → Needed recs kept entry roots stays (of_method_use d)
    declaration_uses d e f c =
        row_uses f
        (Contains-append_right (of_method_use u) (flat_map of_method_use (listed (good_use (generic_method recs a rec row.declaration)))) f
        (to_option of_method_use (good_use (generic_method recs a rec row.declaration)) d f (ap good_use e) c))

  -- ---- a row of a kept type

  module _ (a : ℕ) (rec : AsmRec) (there : slice_get recs a ≡ Some rec) (input : suc a < length recs) where
    not_named : (token : ℕ) → (table_of token == table.METHOD_SPEC) ≡ false → (k : Known MethodUse) → generic_method recs a rec token ≡ k → ((u : MethodUse) → k ≡ Good u → Every (Fine recs kept) (met_callee recs a rec token))
        → Every (Fine recs kept) (met_callee recs a rec token)
    unfolding method_key
    not_named token s (Good u) e h = h u refl
    not_named token s (Bad why) e h =
        let none : method_key recs a rec token ≡ None = ap (λ (x : Known MethodUse). option_map (method_key_of recs (table_of token == table.METHOD_DEF)) (good x)) (generic_of recs a rec there input token s ∙ e) in
        subst (λ (b : Bool). Every (Fine recs kept) (if b then map met_instance (listed (instance_key recs a rec token)) else map met_method (listed (method_key recs a rec token)))) (sym s)
        (subst (λ (o : Option MethodKey). Every (Fine recs kept) (map met_method (listed o))) (sym none) (all_none (Fine recs kept)))

    module _ (j : ℕ) (row : MethodImplRow) (is : slice_get rec.method_impl j ≡ Some row) (passes : list_any (is_kept_method recs kept) (listed (method_key recs a rec row.body)) ≡ true) where
      body_plain : (table_of row.body == table.METHOD_SPEC) ≡ false
      body_plain = no_spec (table_of row.body) (of_coded rec MethodDefOrRef row.body ((records a rec input there).tokens.method_impls j row is).1).table

      declaration_plain : (table_of row.declaration == table.METHOD_SPEC) ≡ false
      declaration_plain = no_spec (table_of row.declaration) (of_coded rec MethodDefOrRef row.declaration ((records a rec input there).tokens.method_impls j row is).2).table

      row_fine : Every (Fine recs kept) (met_callee recs a rec row.body ++ met_callee recs a rec row.declaration)
      row_fine =
          let k = some_of (is_kept_method recs kept) (method_key recs a rec row.body) passes in
          let b = key_use recs a rec there input row.body k.0 body_plain k.1 in
          let u : MethodUse = b.0 in
          let h : (kept (item.Method u.method) || is_core recs (item.Method u.method)) ≡ true =
          sym (kept_by u ((table_of row.body == table.METHOD_DEF) || is_plain_owner recs u.owner)) ∙ ap (is_kept_method recs kept) b.2 ∙ k.2 in
          let needed : Marks recs entry roots (marked (item.Method u.method)) =
          either (kept (item.Method u.method)) (is_core recs (item.Method u.method)) (Marks recs entry roots (marked (item.Method u.method))) h (λ e. marks (item.Method u.method) e) (λ e. core_marked u.method e) in
          all_join (Fine recs kept) (met_callee recs a rec row.body) (met_callee recs a rec row.declaration)
          (callee_fine recs kept bare entry roots stays marks good_all records a rec there input row.body u (generic_of recs a rec there input row.body body_plain ∙ b.1) (body_uses a rec there input j row is u b.1 needed))
          (not_named row.declaration declaration_plain (generic_method recs a rec row.declaration) refl
          (λ d e.
          callee_fine recs kept bare entry roots stays marks good_all records a rec there input row.declaration d (generic_of recs a rec there input row.declaration declaration_plain ∙ e)
          (declaration_uses a rec there input j row is u b.1 needed d e)))

  pub impls_fine : (at : RowAt) → suc at.asm < length recs → Every (Fine recs kept) (met_impls recs kept at)
  impls_fine at input =
      all_option (Fine recs kept) (λ (rec : AsmRec). flat_map (λ (row : MethodImplRow). met_callee recs at.asm rec row.body ++ met_callee recs at.asm rec row.declaration) (filter (is_impl_of recs kept at rec) rec.method_impl)) (rec_at recs at)
      (λ rec there.
      all_flat (Fine recs kept) (λ (row : MethodImplRow). met_callee recs at.asm rec row.body ++ met_callee recs at.asm rec row.declaration) (filter (is_impl_of recs kept at rec) rec.method_impl)
      (λ row c.
      let f = from_filter (is_impl_of recs kept at rec) rec.method_impl row c in
      let j = to_place rec.method_impl row f.0 in
      row_fine at.asm rec there input j.0 row j.1 (and_parts (row.class == token_of table.TYPE_DEF (suc at.row)) (list_any (is_kept_method recs kept) (listed (method_key recs at.asm rec row.body))) f.1).1))
