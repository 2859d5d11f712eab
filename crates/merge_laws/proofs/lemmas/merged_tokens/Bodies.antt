-- The bodies and declarations of MethodImpl rows in what is left name methods.
use Rattle.std.proofs.Common.{◌≡◌, ◌≤◌, ℕ, suc, ◌%◌, List, [], ◌∷◌, ◌++◌, length, map, Bool, true, false, Option, Some, refl, sym, ap, subst, ◌∙◌, arith}
use Rattle.std.specs.Prelude.{slice_get, ◌==◌, ◌||◌, if◌then◌else◌}
use Rattle.std.specs.List.{Contains, flat_map, filter, list_any}
use Rattle.std.proofs.lemmas.Bool.{eq-eqb, eqb-true, ne_eqb, and_from}
use Rattle.std.proofs.lemmas.List.Elements.{Contains-append_left, Contains-append_right}
use Rattle.il_base.specs.declared.ids.MethodId.{MethodId}
use Rattle.il_base.specs.declared.ids.Item.TheVariants as item
use Rattle.il_base.specs.declared.table.TheConstants as table
use Rattle.il_base.specs.declared.cli_format.column.CodedIndex.TheVariants.{MethodDefOrRef}
use Rattle.il_base.specs.declared.world_model.members.MethodImplRow.{MethodImplRow}
use Rattle.il_base.specs.declared.world_model.record.AsmRec.{AsmRec}
use Rattle.il_base.specs.world_model.Tokens.{token_of, table_of, index_in}
use Rattle.rules.specs.declared.link_rules.row_at.RowAt.{RowAt}
use Rattle.rules.specs.link_rules.Types.{at_row}
use Rattle.rules.specs.link_rules.Members.{methods_in}
use Rattle.rules.specs.link_rules.Cycles.{listed, same_row}
use Rattle.rules.specs.type_rules.Rows.{rec_at, methods_of_type, fields_of_type}
use Rattle.base_laws.proofs.lemmas.known_laws.Lists.{to_flat, to_map, to_listed, to_option, and_then_some, map_some}
use Rattle.rules.specs.mark_rules.Members.{properties_of_type, events_of_type}
use Rattle.rules.specs.mark_rules.Places.{row_of, is_core, method_item, field_item, prop_item, event_item}
use Rattle.rules.specs.merge_rules.Numbers.{Kept, kept_types, new_row}
use Rattle.rules.specs.merge_rules.Keys.{MethodKey, own_method, method_key, instance_key}
use Rattle.rules.specs.merge_rules.Order.{Met, met_method, met_instance, met_callee, is_kept_method, is_impl_of, met_impls, met_extends, met_interfaces, met_field_row, met_method_row, met_constraints, met_property_row, met_event_row, those, met_in_type, met_by_types}
use Rattle.rules.specs.merge_rules.Attributes.{met_by_attributes}
use Rattle.rules.specs.merge_rules.Rows.{all_rows, place_token, class_token}
use Rattle.rules.specs.merge_rules.Refs.{Output}
use Rattle.rules.specs.merge_rules.Moved.{moved_callee}
use Rattle.rules.specs.merge_rules.Restricted.{placed_methods, moved_methods, restricted_by, impl_row, has_kept_body, new_method_impl, output_of, restricted}
use Rattle.merge_laws.specs.merged_record.Laws.{InputsAreRecords, ReferencesStand, RowsFit}
use Rattle.merge_laws.proofs.lemmas.merged_record.Lists.{from_if, from_map, from_listed, from_all, OfInput}
use Rattle.merge_laws.proofs.lemmas.merged_record.Sizes.{left}
use Rattle.merge_laws.proofs.lemmas.merged_record.Sorting.{sorted_in}
use Rattle.merge_laws.proofs.lemmas.merged_record.Tokens.{position_is, row_is, of_coded, index_row}
use Rattle.merge_laws.proofs.lemmas.merged_owners.Every.{some_of}
use Rattle.merge_laws.proofs.lemmas.merged_owners.Homes.{own_home}
use Rattle.merge_laws.specs.merged_tokens.Laws.{BodiesNamed}
use Rattle.merge_laws.proofs.lemmas.merged_tokens.Once.{to_filter}
use Rattle.merge_laws.proofs.lemmas.merged_tokens.Interfaces.{contained, token_parts}
use Rattle.merge_laws.proofs.lemmas.merged_tokens.OwnMethods.{OwnThere, own_there}
use Rattle.merge_laws.proofs.lemmas.merged_tokens.Callees.{method_stands, callee_is}

-- a token of MethodDef or MemberRef is none of MethodSpec
pub no_spec : (t : ℕ) → list_any (λ u. u == t) (table.METHOD_DEF ∷ table.MEMBER_REF ∷ []) ≡ true → (t == table.METHOD_SPEC) ≡ false
no_spec t h = by_test (t == table.METHOD_SPEC) refl
  where
    by_test : (b : Bool) → (t == table.METHOD_SPEC) ≡ b → (t == table.METHOD_SPEC) ≡ false
    by_test true e =
        let same : t ≡ table.METHOD_SPEC = eqb-true t table.METHOD_SPEC e in
        let bad : list_any (λ u. u == table.METHOD_SPEC) (table.METHOD_DEF ∷ table.MEMBER_REF ∷ []) ≡ true = subst (λ (n : ℕ). list_any (λ u. u == n) (table.METHOD_DEF ∷ table.MEMBER_REF ∷ []) ≡ true) same h in
        absurd (cc)
    by_test false e = e

either_kept : (b c : Bool) → (b || c) ≡ true → c ≡ false → b ≡ true
either_kept true c h f = refl
either_kept false c h f = absurd (cc)

-- a method of an input is none of the core library
pub not_core : (recs : List AsmRec) (m : MethodId) → OwnThere recs m → is_core recs (item.Method m) ≡ false
unfolding is_core row_of
not_core recs m t =
    let home : row_of recs (item.Method m) ≡ Some t.at = ap (λ (n : MethodId). row_of recs (item.Method n)) t.is ∙ own_home methods_in recs t.at t.rec t.there t.below in
    let w = t.within in
    ap (λ (x : Option RowAt). list_any (λ (r : RowAt). suc r.asm == length recs) (listed x)) home ∙ ap (λ (b : Bool). b || false) (ne_eqb (suc t.at.asm) (length recs) (λ e. omega (arith, w, e)))

module _ (recs : List AsmRec) (kept : Kept) (records : InputsAreRecords recs) where
  in_type : (at : RowAt) (x : Met) → Contains (met_impls recs kept at) x → Contains (met_in_type recs kept at) x
  in_type at x c =
      let methods : List RowAt = those recs kept (method_item recs) (methods_of_type recs at) in
      let first : List Met = met_extends recs at ++ met_interfaces recs kept at ++ flat_map (met_field_row recs) (those recs kept (field_item recs) (fields_of_type recs at)) ++ flat_map (met_method_row recs) methods in
      let own : List Met = met_constraints recs at (token_of table.TYPE_DEF (suc at.row)) in
      let others : List Met = flat_map (λ m. met_constraints recs m (token_of table.METHOD_DEF (suc m.row))) methods in
      let props : List Met = flat_map (met_property_row recs) (those recs kept (prop_item recs) (properties_of_type recs at)) in
      let events : List Met = flat_map (met_event_row recs) (those recs kept (event_item recs) (events_of_type recs at)) in
      Contains-append_right (first ++ own ++ others ++ props ++ events) (met_impls recs kept at) x c

  -- the kept class of a row
  pub class_there : (a token owner : ℕ) → class_token recs kept a token ≡ Some owner → (k : ℕ) × (index_in table.TYPE_DEF token ≡ Some k) × Contains (kept_types recs kept) (at_row a k)
  class_there a token owner e =
      let k = and_then_some (λ k. place_token table.TYPE_DEF (kept_types recs kept) (at_row a k)) (index_in table.TYPE_DEF token) owner e in
      let n = map_some (λ m. token_of table.TYPE_DEF (suc m) % 4294967296) (new_row (kept_types recs kept) (at_row a k.0)) owner k.2 in
      let p = position_is (same_row (at_row a k.0)) (kept_types recs kept) n.0 n.1 in
      let same : at_row a k.0 ≡ p.item = row_is (at_row a k.0) p.item p.passes in
      (k.0, k.1, subst (λ (y : RowAt). Contains (kept_types recs kept) y) (sym same) (contained (kept_types recs kept) n.0 p.item p.there))

  -- ---- a row that is kept

  module _ (a : ℕ) (rec : AsmRec) (input : OfInput recs a rec) (j : ℕ) (row : MethodImplRow) (is : slice_get rec.method_impl j ≡ Some row) (class c : ℕ) (of : index_in table.TYPE_DEF row.class ≡ Some c)
      (owner : Contains (kept_types recs kept) (at_row a c)) (body : MethodKey) (names : method_key recs a rec row.body ≡ Some body) (keeps : is_kept_method recs kept body ≡ true) where
    abbrev at : RowAt
    at = at_row a c

    pub body_table : (table_of row.body == table.METHOD_SPEC) ≡ false
    body_table = no_spec (table_of row.body) (of_coded rec MethodDefOrRef row.body ((records a rec input.within input.there).tokens.method_impls j row is).1).table

    pub declaration_table : (table_of row.declaration == table.METHOD_SPEC) ≡ false
    declaration_table = no_spec (table_of row.declaration) (of_coded rec MethodDefOrRef row.declaration ((records a rec input.within input.there).tokens.method_impls j row is).2).table

    pub row_met : (x : Met) → Contains (met_callee recs a rec row.body ++ met_callee recs a rec row.declaration) x → Contains (output_of recs kept).mets x
    unfolding output_of met_by_types
    row_met x m =
        let r = index_row table.TYPE_DEF row.class c of in
        let own : row.class ≡ token_of table.TYPE_DEF (suc c) = token_parts row.class table.TYPE_DEF c r.0 r.1 in
        let passes : list_any (is_kept_method recs kept) (listed (method_key recs a rec row.body)) ≡ true =
        ap (λ (o : Option MethodKey). list_any (is_kept_method recs kept) (listed o)) names ∙ ap (λ (b : Bool). b || false) keeps in
        let impls : Contains (met_impls recs kept at) x =
        to_option (λ (r : AsmRec). flat_map (λ (y : MethodImplRow). met_callee recs at.asm r y.body ++ met_callee recs at.asm r y.declaration) (filter (is_impl_of recs kept at r) r.method_impl)) (rec_at recs at) rec x input.there
        (to_flat (λ (y : MethodImplRow). met_callee recs at.asm rec y.body ++ met_callee recs at.asm rec y.declaration) (filter (is_impl_of recs kept at rec) rec.method_impl) x
        (record {
          item = row;
          there =
              to_filter (is_impl_of recs kept at rec) rec.method_impl row (contained rec.method_impl j row is)
              (and_from (row.class == token_of table.TYPE_DEF (suc at.row)) (list_any (is_kept_method recs kept) (listed (method_key recs at.asm rec row.body))) (eq-eqb row.class (token_of table.TYPE_DEF (suc at.row)) own) passes);
          inside = m;
        })) in
        Contains-append_left (flat_map (met_in_type recs kept) (kept_types recs kept)) (met_by_attributes recs kept) x
        (to_flat (met_in_type recs kept) (kept_types recs kept) x (record { item = at; there = owner; inside = in_type at x impls }))

    pub callee_met : (token : ℕ) (k : MethodKey) → (table_of token == table.METHOD_SPEC) ≡ false → method_key recs a rec token ≡ Some k → Contains (met_callee recs a rec token) (met_method k)
    callee_met token k s e =
        subst (λ (b : Bool). Contains (if b then map met_instance (listed (instance_key recs a rec token)) else map met_method (listed (method_key recs a rec token))) (met_method k)) (sym s)
        (to_map met_method (listed (method_key recs a rec token)) k (to_listed (method_key recs a rec token) k e))

    body_met : Contains (output_of recs kept).mets (met_method body)
    body_met = row_met (met_method body) (Contains-append_left (met_callee recs a rec row.body) (met_callee recs a rec row.declaration) (met_method body) (callee_met row.body body body_table names))

    body_own : (m : MethodId) → body ≡ own_method m → OwnThere recs m × (kept (item.Method m) ≡ true)
    body_own m e =
        let t = own_there recs a rec input.there input.within row.body m body_table (names ∙ ap (λ (k : MethodKey). Some k) e) in
        (t, either_kept (kept (item.Method m)) (is_core recs (item.Method m)) (subst (λ (k : MethodKey). is_kept_method recs kept k ≡ true) e keeps) (not_core recs m t))

    module _ (internal : Bool) (primary : AsmRec) (refs : ReferencesStand (output_of recs kept) (left internal (output_of recs kept) primary)) (fit : RowsFit (left internal (output_of recs kept) primary)) where
      pub body_stands : 1 ≤ moved_callee (output_of recs kept) a rec row.body
      unfolding output_of
      body_stands =
          subst (λ (n : ℕ). 1 ≤ n) (sym (callee_is internal (output_of recs kept) primary refs fit a rec row.body body body_table names))
          (method_stands internal (output_of recs kept) primary refs fit body (met_method body) body_met refl body_own)

-- ---- what is left

left_bodies : (internal : Bool) (recs : List AsmRec) (kept : Kept) (primary : AsmRec) → InputsAreRecords recs → ReferencesStand (output_of recs kept) (left internal (output_of recs kept) primary) → RowsFit (left internal (output_of recs kept) primary)
    → (k : ℕ) (row : MethodImplRow) → slice_get (left internal (output_of recs kept) primary).method_impl k ≡ Some row → 1 ≤ row.body
unfolding output_of
left_bodies internal recs kept primary records refs fit k row e =
    let o : Output = output_of recs kept in
    let r = from_all (λ rec. rec.method_impl) (new_method_impl o) recs row (sorted_in (λ (x : MethodImplRow). x.class) (all_rows (λ rec. rec.method_impl) (new_method_impl o) recs) row (contained _ k row e)) in
    let i = from_if (has_kept_body o r.asm r.rec r.row) (map (impl_row o r.asm r.rec r.row) (listed (class_token recs kept r.asm r.row.class))) row r.inside in
    let m = from_map (impl_row o r.asm r.rec r.row) (listed (class_token recs kept r.asm r.row.class)) row i.1 in
    let c = class_there recs kept records r.asm r.row.class m.0 (from_listed (class_token recs kept r.asm r.row.class) m.0 m.1) in
    let b = some_of (is_kept_method recs kept) (method_key recs r.asm r.rec r.row.body) i.0 in
    let ge : 1 ≤ moved_callee o r.asm r.rec r.row.body = body_stands recs kept records r.asm r.rec r.input r.place r.row r.there m.0 c.0 c.1 c.2 b.0 b.1 b.2 internal primary refs fit in
    subst (λ (x : MethodImplRow). 1 ≤ x.body) m.2 ge

pub bodies_named : BodiesNamed
unfolding restricted
bodies_named internal recs kept rec e records refs fit k row there =
    let p = map_some (restricted_by internal (output_of recs kept) (placed_methods (moved_methods (output_of recs kept)))) (slice_get recs 0) rec e in
    left_bodies internal recs kept p.0 records (subst (ReferencesStand (output_of recs kept)) (sym p.2) refs) (subst RowsFit (sym p.2) fit) k row (subst (λ (r : AsmRec). slice_get r.method_impl k ≡ Some row) (sym p.2) there)
