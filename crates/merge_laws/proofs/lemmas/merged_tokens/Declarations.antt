-- The declarations of MethodImpl rows in what is left name methods.
use Rattle.std.proofs.Common.{◌≡◌, ◌≤◌, ℕ, suc, ◌+◌, List, [], ◌∷◌, ◌++◌, map, Bool, true, false, Option, Some, None, refl, sym, ap, subst, ◌∙◌, arith}
use Rattle.std.specs.Prelude.{slice_get, ◌==◌, ◌||◌, if◌then◌else◌}
use Rattle.std.specs.List.{Contains, flat_map, list_any}
use Rattle.std.specs.Option.{is_some}
use Rattle.std.proofs.lemmas.List.Elements.{Contains-append_left, Contains-append_right}
use Rattle.il_base.specs.declared.ids.MethodId.{MethodId}
use Rattle.il_base.specs.declared.ids.Item.TheVariants as item
use Rattle.il_base.specs.declared.table.TheConstants as table
use Rattle.descriptor_file.specs.declared.root.Root.{Root}
use Rattle.il_base.specs.declared.world_model.known.Known.{Known}
use Rattle.il_base.specs.declared.world_model.known.Known.TheVariants.{Good, Bad}
use Rattle.il_base.specs.declared.world_model.expr.MethodUse.{MethodUse}
use Rattle.il_base.specs.declared.world_model.members.MethodImplRow.{MethodImplRow}
use Rattle.il_base.specs.declared.world_model.record.AsmRec.{AsmRec}
use Rattle.il_base.specs.world_model.Tokens.{token_of, table_of, index_in}
use Rattle.il_base.specs.world_model.Worlds.{types_in}
use Rattle.rules.specs.declared.link_rules.row_at.RowAt.{RowAt}
use Rattle.rules.specs.link_rules.Types.{at_row}
use Rattle.rules.specs.link_rules.Members.{methods_in, generic_method}
use Rattle.rules.specs.link_rules.Cycles.{listed, same_row}
use Rattle.rules.specs.type_rules.Rows.{each_row}
use Rattle.rules.specs.type_rules.Slots.{method_row_at, method_home}
use Rattle.rules.specs.type_rules.Dispatch.{good_use}
use Rattle.base_laws.proofs.lemmas.type_laws.Places.{rows_decide}
use Rattle.base_laws.proofs.lemmas.known_laws.Lists.{first_in, to_flat, to_map, to_option, to_if, to_each, map_some}
use Rattle.rules.specs.mark_rules.Facts.{Fact, start, by_one}
use Rattle.rules.specs.mark_rules.Facts.Fact.{marked}
use Rattle.rules.specs.mark_rules.Places.{row_of, is_core, type_item}
use Rattle.rules.specs.mark_rules.Naming.{of_expr, of_exprs, of_method_use}
use Rattle.rules.specs.mark_rules.Calls.{method_needs, makes, overridden, has_body, declared_by, declared_in, overrides_of, method_starts}
use Rattle.rules.specs.mark_rules.Properties.{accessed}
use Rattle.rules.specs.mark_rules.Attributes.{attribute_needs}
use Rattle.rules.specs.mark_rules.Dependencies.{dependency_needs}
use Rattle.rules.specs.mark_rules.Shown.{item_shows}
use Rattle.rules.specs.mark_rules.FlowMarks.{flow_marks}
use Rattle.rules.specs.mark_rules.Roots.{start_facts, waiting_facts}
use Rattle.rules.specs.mark_rules.Marking.{row_needs, one, same_fact, given, marking, Marks}
use Rattle.rules.specs.mark_rules.BadItems.{Flaw, flaw, declaration_flaw, ImplRow, impl_rows_by, impl_rows, of_row, IsFirstFlaw}
use Rattle.rules.specs.merge_rules.Numbers.{Kept, kept_types}
use Rattle.rules.specs.merge_rules.Keys.{MethodKey, own_method, found_method, is_plain_owner, method_key_of, method_key}
use Rattle.rules.specs.merge_rules.Order.{met_method, met_callee, is_kept_method}
use Rattle.rules.specs.merge_rules.Rows.{all_rows, class_token}
use Rattle.rules.specs.merge_rules.Refs.{Output}
use Rattle.rules.specs.merge_rules.Moved.{moved_callee}
use Rattle.rules.specs.merge_rules.Restricted.{placed_methods, moved_methods, restricted_by, impl_row, has_kept_body, new_method_impl, output_of, restricted}
use Rattle.merge_laws.specs.merged_record.Laws.{InputsAreRecords, ReferencesStand, RowsFit}
use Rattle.merge_laws.proofs.lemmas.merged_record.Lists.{from_if, from_map, from_listed, from_all, OfInput}
use Rattle.merge_laws.proofs.lemmas.merged_record.Rows.{from_kept}
use Rattle.merge_laws.proofs.lemmas.merged_record.Sizes.{left}
use Rattle.merge_laws.proofs.lemmas.merged_record.Sorting.{sorted_in}
use Rattle.merge_laws.specs.merged_owners.Laws.{AreMarked, AreKept}
use Rattle.merge_laws.proofs.lemmas.merged_owners.Every.{some_of}
use Rattle.merge_laws.proofs.lemmas.merged_owners.Homes.{own_home}
use Rattle.merge_laws.specs.merged_tokens.Laws.{DeclarationsNamed}
use Rattle.merge_laws.proofs.lemmas.merged_tokens.Interfaces.{contained}
use Rattle.merge_laws.proofs.lemmas.merged_tokens.OwnMethods.{MethodAt, own_there, key_use, key_some, use_there, own_same}
use Rattle.merge_laws.proofs.lemmas.merged_tokens.Callees.{method_stands, callee_is}
use Rattle.merge_laws.proofs.lemmas.merged_tokens.Bodies.{class_there, declaration_table, body_table, callee_met, row_met}

or_first : (b c : Bool) → b ≡ true → (b || c) ≡ true
or_first true c h = refl
or_first false c h = absurd (cc)

either : (b c : Bool) → (b || c) ≡ true → (P : Type 0) → (b ≡ true → P) → (c ≡ true → P) → P
either true c h P f g = f refl
either false c h P f g = g h

-- the method of a good body, as `impl_rows_by` takes it
abbrev good_bodies : Known MethodUse → List MethodUse
good_bodies (Good u) = u ∷ []
good_bodies (Bad why) = []

module _ (recs : List AsmRec) where
  home_of_method : (m : MethodId) (t : MethodAt recs m) → row_of recs (item.Method m) ≡ Some t.at
  unfolding row_of
  home_of_method m t = ap (λ (n : MethodId). row_of recs (item.Method n)) t.is ∙ own_home methods_in recs t.at t.rec t.there t.below

  has_own : (u : MethodUse) (t : MethodAt recs u.method) → has_body recs t.at u ≡ true
  has_own u t =
      let home : method_home recs u.method ≡ Some t.at = ap (method_home recs) t.is ∙ own_home methods_in recs t.at t.rec t.there t.below in
      ap (λ (x : Option RowAt). list_any (same_row t.at) (listed x)) home ∙ or_first (same_row t.at t.at) false ((rows_decide t.at t.at).1 refl)

  -- a kept key is a kept method, or one of the core library
  kept_by : (kept : Kept) (u : MethodUse) (b : Bool) → is_kept_method recs kept (if b then own_method u.method else found_method u.method u.owner) ≡ (kept (item.Method u.method) || is_core recs (item.Method u.method))
  kept_by kept u true = refl
  kept_by kept u false = refl

  kept_use : (kept : Kept) (own : Bool) (u : MethodUse) → is_kept_method recs kept (method_key_of recs own u) ≡ (kept (item.Method u.method) || is_core recs (item.Method u.method))
  kept_use kept own u = kept_by kept u (own || is_plain_owner recs u.owner)

  -- ---- what the rules say of a row

  module _ (a : ℕ) (rec : AsmRec) (there : slice_get recs a ≡ Some rec) (j : ℕ) (row : MethodImplRow) (is : slice_get rec.method_impl j ≡ Some row) (u : MethodUse) (body : generic_method recs a rec row.body ≡ Good u) where
    -- its body needs what it declares
    body_needs : (d : MethodUse) (t : MethodAt recs u.method) → generic_method recs a rec row.declaration ≡ Good d → Contains (row_needs recs (item.Method u.method) t.at) (marked (item.Method d.method))
    unfolding overrides_of
    body_needs d t e =
        let f : Fact = marked (item.Method d.method) in
        let z : 0 + a ≡ a = omega arith in
        let uses : Contains (of_method_use u ++ flat_map of_method_use (listed (good_use (generic_method recs a rec row.declaration)))) f =
        Contains-append_right (of_method_use u) (flat_map of_method_use (listed (good_use (generic_method recs a rec row.declaration)))) f
        (to_option of_method_use (good_use (generic_method recs a rec row.declaration)) d f (ap good_use e) (first_in f (of_expr d.owner ++ of_exprs d.args))) in
        let by : Contains (declared_by recs t.at a rec row) f =
        to_option (λ (b : MethodUse). if has_body recs t.at b then of_method_use b ++ flat_map of_method_use (listed (good_use (generic_method recs a rec row.declaration))) else []) (good_use (generic_method recs a rec row.body)) u f (ap good_use body)
        (to_if (has_body recs t.at u) (of_method_use u ++ flat_map of_method_use (listed (good_use (generic_method recs a rec row.declaration)))) f (has_own u t) uses) in
        let in_rec : Contains (declared_in recs t.at (0 + a) rec) f =
        subst (λ (n : ℕ). Contains (declared_in recs t.at n rec) f) (sym z) (to_flat (declared_by recs t.at a rec) rec.method_impl f (record { item = row; there = contained rec.method_impl j row is; inside = by })) in
        let overrides : Contains (overrides_of recs t.at) f =
        Contains-append_right (flat_map (overridden recs t.at) (listed (method_row_at recs t.at))) (each_row (declared_in recs t.at) recs) f
        (to_each (declared_in recs t.at) 0 recs f (record { place = a; item = rec; there = there; inside = in_rec })) in
        Contains-append_left (method_needs recs t.at ++ makes recs t.at ++ overrides_of recs t.at ++ method_starts recs t.at) (accessed recs t.at) f
        (Contains-append_left (method_needs recs t.at ++ makes recs t.at ++ overrides_of recs t.at) (method_starts recs t.at) f
        (Contains-append_right (method_needs recs t.at ++ makes recs t.at) (overrides_of recs t.at) f overrides))

    abbrev impl_here : (c : ℕ) → ImplRow
    impl_here c = record { class = type_item recs (at_row a c); body = item.Method u.method; flaws = declaration_flaw (at_row a j) j (generic_method recs a rec row.declaration) }

    listed_here : (c : ℕ) → index_in table.TYPE_DEF row.class ≡ Some c → Contains (impl_rows recs) (impl_here c)
    unfolding impl_rows
    listed_here c of =
        let z : 0 + a ≡ a = omega arith in
        let y : 0 + j ≡ j = omega arith in
        let make : ℕ → MethodUse → ImplRow = λ k (v : MethodUse). record { class = type_item recs (at_row a k); body = item.Method v.method; flaws = declaration_flaw (at_row a j) j (generic_method recs a rec row.declaration) } in
        let one : Contains (impl_rows_by recs a rec j row) (impl_here c) =
        to_option (λ k. map (make k) (good_bodies (generic_method recs a rec row.body))) (index_in table.TYPE_DEF row.class) c (impl_here c) of
        (to_map (make c) (good_bodies (generic_method recs a rec row.body)) u (subst (λ (x : Known MethodUse). Contains (good_bodies x) u) (sym body) (first_in u []))) in
        let in_rec : Contains (each_row (impl_rows_by recs a rec) rec.method_impl) (impl_here c) =
        to_each (impl_rows_by recs a rec) 0 rec.method_impl (impl_here c) (record { place = j; item = row; there = is; inside = subst (λ (n : ℕ). Contains (impl_rows_by recs a rec n row) (impl_here c)) (sym y) one }) in
        to_each (λ b (r : AsmRec). each_row (impl_rows_by recs b r) r.method_impl) 0 recs (impl_here c)
        (record { place = a; item = rec; there = there; inside = subst (λ (n : ℕ). Contains (each_row (impl_rows_by recs n rec) rec.method_impl) (impl_here c)) (sym z) in_rec })

    module _ (entry : Option RowAt) (roots : List Root) (kept : Kept) (marks : AreMarked recs entry roots kept) (keeps : AreKept recs entry roots kept) (good : IsFirstFlaw recs entry (Marks recs entry roots) None) (c : ℕ)
        (of : index_in table.TYPE_DEF row.class ≡ Some c) (class : Marks recs entry roots (marked (type_item recs (at_row a c)))) (marked_body : Marks recs entry roots (marked (item.Method u.method))) where
      good_by : (x : Known MethodUse) → generic_method recs a rec row.declaration ≡ x → (d : MethodUse) × (generic_method recs a rec row.declaration ≡ Good d)
      good_by (Good d) e = (d, e)
      good_by (Bad why) e =
          let f : Flaw = flaw (at_row a j) (token_of table.METHOD_IMPL (suc j)) 0 why in
          absurd (good f (of_row (impl_here c) f (listed_here c of) class marked_body (subst (λ (x : Known MethodUse). Contains (declaration_flaw (at_row a j) j x) f) (sym e) (first_in f []))))

      declares : (d : MethodUse) × (generic_method recs a rec row.declaration ≡ Good d)
      declares = good_by (generic_method recs a rec row.declaration) refl

      declared_marked : (d : MethodUse) → MethodAt recs u.method → generic_method recs a rec row.declaration ≡ Good d → Marks recs entry roots (marked (item.Method d.method))
      unfolding marking one
      declared_marked d t e =
          let i = item.Method u.method in
          let f : Fact = marked (item.Method d.method) in
          by_one (marked i) f marked_body
          (Contains-append_left _ (flow_marks recs i) f
          (Contains-append_left _ (item_shows recs i) f
          (Contains-append_left _ (waiting_facts recs roots i) f
          (Contains-append_left _ (dependency_needs recs i) f
          (Contains-append_left (flat_map (row_needs recs i) (listed (row_of recs i))) (attribute_needs recs i) f (to_option (row_needs recs i) (row_of recs i) t.at f (home_of_method u.method t) (body_needs d t e)))))))

      declared_kept : (d : MethodUse) → MethodAt recs u.method → MethodAt recs d.method → generic_method recs a rec row.declaration ≡ Good d → kept (item.Method d.method) ≡ true
      declared_kept d t s e = keeps (item.Method d.method) (ap (λ (x : Option RowAt). is_some x) (home_of_method d.method s)) (declared_marked d t e)

core_marked : (recs : List AsmRec) (entry : Option RowAt) (roots : List Root) (m : MethodId) → is_core recs (item.Method m) ≡ true → Marks recs entry roots (marked (item.Method m))
unfolding marking given
core_marked recs entry roots m h = start (marked (item.Method m)) (or_first (is_core recs (item.Method m)) (list_any (same_fact (marked (item.Method m))) (start_facts recs entry roots)) h)

class_kept : (recs : List AsmRec) (kept : Kept) (at : RowAt) → Contains (kept_types recs kept) at → kept (type_item recs at) ≡ true
unfolding kept_types
class_kept recs kept at c = (from_kept types_in (type_item recs) recs kept at c).passes

-- ---- a row that is kept

module _ (recs : List AsmRec) (kept : Kept) (records : InputsAreRecords recs) (entry : Option RowAt) (roots : List Root) (marks : AreMarked recs entry roots kept) (keeps : AreKept recs entry roots kept)
    (good : IsFirstFlaw recs entry (Marks recs entry roots) None) (a : ℕ) (rec : AsmRec) (input : OfInput recs a rec) (j : ℕ) (row : MethodImplRow) (is : slice_get rec.method_impl j ≡ Some row) (class c : ℕ)
    (of : index_in table.TYPE_DEF row.class ≡ Some c) (owner : Contains (kept_types recs kept) (at_row a c)) (body : MethodKey) (names : method_key recs a rec row.body ≡ Some body) (passes : is_kept_method recs kept body ≡ true)
    (internal : Bool) (primary : AsmRec) (refs : ReferencesStand (output_of recs kept) (left internal (output_of recs kept) primary)) (fit : RowsFit (left internal (output_of recs kept) primary)) where
  body_is : (u : MethodUse) × (generic_method recs a rec row.body ≡ Good u) × (method_key_of recs (table_of row.body == table.METHOD_DEF) u ≡ body)
  body_is = key_use recs a rec input.there input.within row.body body (body_table recs kept records a rec input j row is class c of owner body names passes) names

  body_marked : Marks recs entry roots (marked (item.Method body_is.0.method))
  body_marked =
      let u : MethodUse = body_is.0 in
      let h : (kept (item.Method u.method) || is_core recs (item.Method u.method)) ≡ true =
      sym (kept_use recs kept (table_of row.body == table.METHOD_DEF) u) ∙ ap (is_kept_method recs kept) body_is.2 ∙ passes in
      either (kept (item.Method u.method)) (is_core recs (item.Method u.method)) h (Marks recs entry roots (marked (item.Method u.method))) (λ e. marks (item.Method u.method) e) (λ e. core_marked recs entry roots u.method e)

  declaration_is : (d : MethodUse) × (generic_method recs a rec row.declaration ≡ Good d)
  declaration_is = declares recs a rec input.there j row is body_is.0 body_is.1 entry roots kept marks keeps good c of (marks (type_item recs (at_row a c)) (class_kept recs kept (at_row a c) owner)) body_marked

  declaration_kept : (d : MethodUse) → generic_method recs a rec row.declaration ≡ Good d → kept (item.Method d.method) ≡ true
  declaration_kept d e =
      declared_kept recs a rec input.there j row is body_is.0 body_is.1 entry roots kept marks keeps good c of (marks (type_item recs (at_row a c)) (class_kept recs kept (at_row a c) owner)) body_marked d
      (use_there recs a rec input.there input.within row.body body_is.0 body_is.1) (use_there recs a rec input.there input.within row.declaration d e) e

  abbrev no_spec : (table_of row.declaration == table.METHOD_SPEC) ≡ false
  no_spec = declaration_table recs kept records a rec input j row is class c of owner body names passes

  key_stands : (d : MethodUse) → generic_method recs a rec row.declaration ≡ Good d → (k : MethodKey) → method_key_of recs (table_of row.declaration == table.METHOD_DEF) d ≡ k → method_key recs a rec row.declaration ≡ Some k
      → 1 ≤ moved_callee (output_of recs kept) a rec row.declaration
  unfolding output_of
  key_stands d e k same key =
      let met : Contains (output_of recs kept).mets (met_method k) =
      row_met recs kept records a rec input j row is class c of owner body names passes (met_method k)
      (Contains-append_right (met_callee recs a rec row.body) (met_callee recs a rec row.declaration) (met_method k)
      (callee_met recs kept records a rec input j row is class c of owner body names passes row.declaration k no_spec key)) in
      subst (λ (n : ℕ). 1 ≤ n) (sym (callee_is internal (output_of recs kept) primary refs fit a rec row.declaration k no_spec key))
      (method_stands internal (output_of recs kept) primary refs fit k (met_method k) met refl
      (λ m f. (
        own_there recs a rec input.there input.within row.declaration m no_spec (key ∙ ap (λ (y : MethodKey). Some y) f),
        subst (λ (n : MethodId). kept (item.Method n) ≡ true) (own_same recs (table_of row.declaration == table.METHOD_DEF) d m (same ∙ f)) (declaration_kept d e),
      )))

  declaration_stands : 1 ≤ moved_callee (output_of recs kept) a rec row.declaration
  declaration_stands =
      key_stands declaration_is.0 declaration_is.1 (method_key_of recs (table_of row.declaration == table.METHOD_DEF) declaration_is.0) refl
      (key_some recs a rec input.there input.within row.declaration declaration_is.0 no_spec declaration_is.1)

-- ---- what is left

left_declarations : (internal : Bool) (recs : List AsmRec) (entry : Option RowAt) (roots : List Root) (kept : Kept) (primary : AsmRec) → InputsAreRecords recs → AreMarked recs entry roots kept → AreKept recs entry roots kept
    → IsFirstFlaw recs entry (Marks recs entry roots) None → ReferencesStand (output_of recs kept) (left internal (output_of recs kept) primary) → RowsFit (left internal (output_of recs kept) primary)
    → (k : ℕ) (row : MethodImplRow) → slice_get (left internal (output_of recs kept) primary).method_impl k ≡ Some row → 1 ≤ row.declaration
unfolding output_of
left_declarations internal recs entry roots kept primary records marks keeps good refs fit k row e =
    let o : Output = output_of recs kept in
    let r = from_all (λ rec. rec.method_impl) (new_method_impl o) recs row (sorted_in (λ (x : MethodImplRow). x.class) (all_rows (λ rec. rec.method_impl) (new_method_impl o) recs) row (contained _ k row e)) in
    let i = from_if (has_kept_body o r.asm r.rec r.row) (map (impl_row o r.asm r.rec r.row) (listed (class_token recs kept r.asm r.row.class))) row r.inside in
    let m = from_map (impl_row o r.asm r.rec r.row) (listed (class_token recs kept r.asm r.row.class)) row i.1 in
    let c = class_there recs kept records r.asm r.row.class m.0 (from_listed (class_token recs kept r.asm r.row.class) m.0 m.1) in
    let b = some_of (is_kept_method recs kept) (method_key recs r.asm r.rec r.row.body) i.0 in
    let ge : 1 ≤ moved_callee o r.asm r.rec r.row.declaration =
    declaration_stands recs kept records entry roots marks keeps good r.asm r.rec r.input r.place r.row r.there m.0 c.0 c.1 c.2 b.0 b.1 b.2 internal primary refs fit in
    subst (λ (x : MethodImplRow). 1 ≤ x.declaration) m.2 ge

pub declarations_named : DeclarationsNamed
unfolding restricted
declarations_named internal recs entry roots kept rec e records marks keeps good refs fit k row there =
    let p = map_some (restricted_by internal (output_of recs kept) (placed_methods (moved_methods (output_of recs kept)))) (slice_get recs 0) rec e in
    left_declarations internal recs entry roots kept p.0 records marks keeps good (subst (ReferencesStand (output_of recs kept)) (sym p.2) refs) (subst RowsFit (sym p.2) fit) k row
    (subst (λ (r : AsmRec). slice_get r.method_impl k ≡ Some row) (sym p.2) there)
