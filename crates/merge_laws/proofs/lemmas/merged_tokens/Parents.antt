-- What a kept attribute row belongs to is marked.
use Rattle.std.proofs.Common.{◌≡◌, ◌<◌, ℕ, suc, ◌+◌, List, [], ◌∷◌, ◌++◌, map, Bool, true, false, Option, Some, None, refl, sym, ap, subst, ◌∙◌, arith}
use Rattle.std.specs.Prelude.{slice_get, ◌==◌, ◌||◌, if◌then◌else◌}
use Rattle.std.specs.List.{Contains, flat_map, list_any}
use Rattle.std.proofs.lemmas.Bool.{eq-eqb, eqb-true}
use Rattle.std.proofs.lemmas.List.Elements.{Contains-append_left, Contains-append_right}
use Rattle.il_base.specs.declared.ids.Item.{Item}
use Rattle.il_base.specs.declared.ids.Item.TheVariants as item
use Rattle.il_base.specs.declared.table.TheConstants as table
use Rattle.descriptor_file.specs.declared.root.Root.{Root}
use Rattle.il_base.specs.declared.world_model.types.GenericParamRow.{GenericParamRow}
use Rattle.il_base.specs.declared.world_model.members.MethodDefRow.{MethodDefRow}
use Rattle.il_base.specs.declared.world_model.record.AsmRec.{AsmRec}
use Rattle.il_base.specs.world_model.Tokens.{token_of, table_of}
use Rattle.il_base.specs.world_model.Worlds.{types_in}
use Rattle.rules.specs.declared.link_rules.row_at.RowAt.{RowAt}
use Rattle.rules.specs.link_rules.Types.{at_row}
use Rattle.rules.specs.link_rules.Members.{methods_in, fields_in}
use Rattle.rules.specs.link_rules.Cycles.{listed}
use Rattle.rules.specs.type_rules.Rows.{rec_at, each_row, run_places}
use Rattle.base_laws.proofs.lemmas.type_laws.Places.{place_within}
use Rattle.base_laws.proofs.lemmas.known_laws.Lists.{none_in, first_in, later_in, one_is, from_flat, from_map, to_map, from_option, to_option, to_if, to_each}
use Rattle.rules.specs.mark_rules.Facts.{start}
use Rattle.rules.specs.mark_rules.Facts.Fact.{marked}
use Rattle.rules.specs.mark_rules.Places.{row_of, is_core, type_item, method_item, field_item, prop_item, event_item, impl_item, props_in, events_in, impls_in}
use Rattle.rules.specs.mark_rules.Attributes.{constraint_token, param_tokens, generic_tokens, parameter_tokens, tokens_in}
use Rattle.rules.specs.mark_rules.Roots.{start_facts}
use Rattle.rules.specs.mark_rules.Marking.{given, marking, Marks}
use Rattle.rules.specs.merge_rules.Numbers.{Kept, kept_types, kept_methods, kept_fields, kept_properties, kept_events}
use Rattle.rules.specs.merge_rules.Rows.{SortedRow, places, params_of, kept_params, kept_interfaces, kept_generic_params, kept_constraints, class_token, method_def_token, owner_token, param_token, output_rows, kept_row_token}
use Rattle.merge_laws.specs.merged_record.Laws.{InputsAreRecords}
use Rattle.merge_laws.proofs.lemmas.merged_record.Lists.{OfInput}
use Rattle.merge_laws.proofs.lemmas.merged_record.Rows.{from_kept}
use Rattle.merge_laws.proofs.lemmas.merged_record.Sizes.{param_is, constraint_is}
use Rattle.merge_laws.specs.merged_owners.Laws.{AreMarked}
use Rattle.merge_laws.proofs.lemmas.merged_owners.Homes.{own_home}
use Rattle.merge_laws.proofs.lemmas.merged_tokens.Interfaces.{impl_is}
use Rattle.merge_laws.proofs.lemmas.merged_tokens.Constraints.{placed_in}

core_or : (b c : Bool) → c ≡ true → (b || c) ≡ true
core_or true c h = refl
core_or false c h = h

module _ (recs : List AsmRec) (kept : Kept) (records : InputsAreRecords recs) (entry : Option RowAt) (roots : List Root) (marks : AreMarked recs entry roots kept) (a : ℕ) (rec : AsmRec) (input : OfInput recs a rec) where
  pub record Parent (token : ℕ) : Type 0 where
    pub item : Item
    pub row : ℕ
    pub home : row_of recs item ≡ Some (at_row a row)
    pub needed : Marks recs entry roots (marked item)
    pub among : Contains (tokens_in item row rec) token

  -- ---- items

  of_type : (k token : ℕ) → Contains (kept_types recs kept) (at_row a k) → Contains (tokens_in (type_item recs (at_row a k)) k rec) token → Parent token
  unfolding kept_types row_of
  of_type k token c m =
      let i = from_kept types_in (type_item recs) recs kept (at_row a k) c in
      record { item = type_item recs (at_row a k); row = k; home = own_home types_in recs (at_row a k) i.rec i.input.there i.below; needed = marks (type_item recs (at_row a k)) i.passes; among = m }

  of_method : (k token : ℕ) → Contains (kept_methods recs kept) (at_row a k) → Contains (tokens_in (method_item recs (at_row a k)) k rec) token → Parent token
  unfolding kept_methods row_of
  of_method k token c m =
      let i = from_kept methods_in (method_item recs) recs kept (at_row a k) c in
      record { item = method_item recs (at_row a k); row = k; home = own_home methods_in recs (at_row a k) i.rec i.input.there i.below; needed = marks (method_item recs (at_row a k)) i.passes; among = m }

  of_field : (k : ℕ) → Contains (kept_fields recs kept) (at_row a k) → Parent (token_of table.FIELD (suc k))
  unfolding kept_fields row_of
  of_field k c =
      let i = from_kept fields_in (field_item recs) recs kept (at_row a k) c in
      record { item = field_item recs (at_row a k); row = k; home = own_home fields_in recs (at_row a k) i.rec i.input.there i.below; needed = marks (field_item recs (at_row a k)) i.passes; among = first_in (token_of table.FIELD (suc k)) [] }

  of_property : (k : ℕ) → Contains (kept_properties recs kept) (at_row a k) → Parent (token_of table.PROPERTY (suc k))
  unfolding kept_properties row_of
  of_property k c =
      let i = from_kept props_in (prop_item recs) recs kept (at_row a k) c in
      record { item = prop_item recs (at_row a k); row = k; home = own_home props_in recs (at_row a k) i.rec i.input.there i.below; needed = marks (prop_item recs (at_row a k)) i.passes; among = first_in (token_of table.PROPERTY (suc k)) [] }

  of_event : (k : ℕ) → Contains (kept_events recs kept) (at_row a k) → Parent (token_of table.EVENT (suc k))
  unfolding kept_events row_of
  of_event k c =
      let i = from_kept events_in (event_item recs) recs kept (at_row a k) c in
      record { item = event_item recs (at_row a k); row = k; home = own_home events_in recs (at_row a k) i.rec i.input.there i.below; needed = marks (event_item recs (at_row a k)) i.passes; among = first_in (token_of table.EVENT (suc k)) [] }

  impl_by : (at : RowAt) (r : AsmRec) → slice_get recs at.asm ≡ Some r → at.row < impls_in r → kept (impl_item recs at) ≡ true → at ≡ at_row a at.row → Parent (token_of table.INTERFACE_IMPL (suc at.row))
  unfolding row_of
  impl_by at r there lt passes same =
      record { item = impl_item recs at; row = at.row; home = own_home impls_in recs at r there lt ∙ ap (λ (x : RowAt). Some x) same; needed = marks (impl_item recs at) passes; among = first_in (token_of table.INTERFACE_IMPL (suc at.row)) [] }

  of_impl : (k : ℕ) → Contains (places (kept_interfaces recs kept)) (at_row a k) → Parent (token_of table.INTERFACE_IMPL (suc k))
  of_impl k c =
      let x = from_map (λ (y : SortedRow). y.at) (kept_interfaces recs kept) (at_row a k) c in
      let i = impl_is recs kept records x.0 x.1 in
      let n : x.0.at.row ≡ k = ap (λ (y : RowAt). y.row) x.2 in
      subst (λ (j : ℕ). Parent (token_of table.INTERFACE_IMPL (suc j))) n
      (impl_by x.0.at i.rec i.input.there (place_within i.rec.interface_impl x.0.at.row i.row i.is) i.passes (x.2 ∙ ap (at_row a) (sym n)))

  -- ---- parameters

  of_param : (k : ℕ) → Contains (kept_params recs kept) (at_row a k) → Parent (token_of table.PARAM (suc k))
  unfolding kept_params
  of_param k c =
      let f = from_flat (params_of recs) (kept_methods recs kept) (at_row a k) c in
      let r = from_option (λ (r : AsmRec). flat_map (λ (m : MethodDefRow). map (at_row f.item.asm) (run_places m.param_list_first m.param_list_end r.param)) (listed (slice_get r.method_def f.item.row))) (rec_at recs f.item) (at_row a k) f.inside in
      let m = from_option (λ (m : MethodDefRow). map (at_row f.item.asm) (run_places m.param_list_first m.param_list_end r.0.param)) (slice_get r.0.method_def f.item.row) (at_row a k) r.2 in
      let p = from_map (at_row f.item.asm) (run_places m.0.param_list_first m.0.param_list_end r.0.param) (at_row a k) m.2 in
      let asm : f.item.asm ≡ a = ap (λ (y : RowAt). y.asm) p.2 in
      let num : p.0 ≡ k = ap (λ (y : RowAt). y.row) p.2 in
      let there : slice_get recs a ≡ Some r.0 = subst (λ (n : ℕ). slice_get recs n ≡ Some r.0) asm r.1 in
      let same : r.0 ≡ rec = let g = input.there in cc in
      let is : slice_get rec.method_def f.item.row ≡ Some m.0 = subst (λ (x : AsmRec). slice_get x.method_def f.item.row ≡ Some m.0) same m.1 in
      let run : Contains (run_places m.0.param_list_first m.0.param_list_end rec.param) k =
      subst (λ (n : ℕ). Contains (run_places m.0.param_list_first m.0.param_list_end rec.param) n) num (subst (λ (x : AsmRec). Contains (run_places m.0.param_list_first m.0.param_list_end x.param) p.0) same p.1) in
      let among : Contains (parameter_tokens rec f.item.row) (token_of table.PARAM (suc k)) =
      to_option (λ (y : MethodDefRow). map (λ n. token_of table.PARAM (suc n)) (run_places y.param_list_first y.param_list_end rec.param)) (slice_get rec.method_def f.item.row) m.0 (token_of table.PARAM (suc k)) is
      (to_map (λ n. token_of table.PARAM (suc n)) (run_places m.0.param_list_first m.0.param_list_end rec.param) k run) in
      of_method f.item.row (token_of table.PARAM (suc k)) (subst (λ (n : ℕ). Contains (kept_methods recs kept) (at_row n f.item.row)) asm f.there)
      (later_in (token_of table.METHOD_DEF (suc f.item.row)) (parameter_tokens rec f.item.row ++ generic_tokens rec (token_of table.METHOD_DEF (suc f.item.row))) (token_of table.PARAM (suc k))
      (Contains-append_left (parameter_tokens rec f.item.row) (generic_tokens rec (token_of table.METHOD_DEF (suc f.item.row))) (token_of table.PARAM (suc k)) among))

  -- ---- generic parameters

  abbrev own_tokens : ℕ → List ℕ
  own_tokens k = token_of table.GENERIC_PARAM (suc k) ∷ each_row (constraint_token (token_of table.GENERIC_PARAM (suc k))) rec.generic_param_constraint

  in_generic : (k token owner : ℕ) (row : GenericParamRow) → slice_get rec.generic_param k ≡ Some row → row.owner ≡ owner → Contains (own_tokens k) token → Contains (generic_tokens rec owner) token
  in_generic k token owner row is own c =
      let z : 0 + k ≡ k = omega arith in
      to_each (param_tokens rec owner) 0 rec.generic_param token
      (record { place = k; item = row; there = is; inside = subst (λ (n : ℕ). Contains (param_tokens rec owner n row) token) (sym z) (to_if (row.owner == owner) (own_tokens k) token (eq-eqb row.owner owner own) c) })

  by_owner : (k token w : ℕ) (row : GenericParamRow) (b : Bool) → slice_get rec.generic_param k ≡ Some row → (if b then class_token recs kept a row.owner else method_def_token recs kept a row.owner) ≡ Some w → Contains (own_tokens k) token → Parent token
  by_owner k token w row true is e c =
      let p = placed_in (kept_types recs kept) table.TYPE_DEF a row.owner w e in
      let t = token_of table.TYPE_DEF (suc p.0) in
      of_type p.0 token p.2 (later_in t (generic_tokens rec t) token (in_generic k token t row is p.1 c))
  by_owner k token w row false is e c =
      let p = placed_in (kept_methods recs kept) table.METHOD_DEF a row.owner w e in
      let t = token_of table.METHOD_DEF (suc p.0) in
      of_method p.0 token p.2 (later_in t (parameter_tokens rec p.0 ++ generic_tokens rec t) token (Contains-append_right (parameter_tokens rec p.0) (generic_tokens rec t) token (in_generic k token t row is p.1 c)))

  of_generic : (k token : ℕ) → Contains (places (kept_generic_params recs kept)) (at_row a k) → Contains (own_tokens k) token → Parent token
  of_generic k token c m =
      let x = from_map (λ (y : SortedRow). y.at) (kept_generic_params recs kept) (at_row a k) c in
      let s = param_is recs kept x.0 x.1 in
      let there : slice_get recs a ≡ Some s.rec = subst (λ (y : RowAt). slice_get recs y.asm ≡ Some s.rec) x.2 s.input.there in
      let same : s.rec ≡ rec = let g = input.there in cc in
      let is : slice_get rec.generic_param k ≡ Some s.row = subst (λ (y : RowAt). slice_get rec.generic_param y.row ≡ Some s.row) x.2 (subst (λ (r : AsmRec). slice_get r.generic_param x.0.at.row ≡ Some s.row) same s.is) in
      let owned : owner_token recs kept a s.row.owner ≡ Some x.0.owner = subst (λ (y : RowAt). owner_token recs kept y.asm s.row.owner ≡ Some x.0.owner) x.2 s.owned in
      by_owner k token x.0.owner s.row (table_of s.row.owner == table.TYPE_DEF) is owned m

  of_constraint : (k : ℕ) → Contains (places (kept_constraints recs kept)) (at_row a k) → Parent (token_of table.GENERIC_PARAM_CONSTRAINT (suc k))
  of_constraint k c =
      let x = from_map (λ (y : SortedRow). y.at) (kept_constraints recs kept) (at_row a k) c in
      let s = constraint_is recs kept x.0 x.1 in
      let there : slice_get recs a ≡ Some s.rec = subst (λ (y : RowAt). slice_get recs y.asm ≡ Some s.rec) x.2 s.input.there in
      let same : s.rec ≡ rec = let g = input.there in cc in
      let is : slice_get rec.generic_param_constraint k ≡ Some s.row = subst (λ (y : RowAt). slice_get rec.generic_param_constraint y.row ≡ Some s.row) x.2 (subst (λ (r : AsmRec). slice_get r.generic_param_constraint x.0.at.row ≡ Some s.row) same s.is) in
      let owned : param_token recs kept a s.row.owner ≡ Some x.0.owner = subst (λ (y : RowAt). param_token recs kept y.asm s.row.owner ≡ Some x.0.owner) x.2 s.owned in
      let p = placed_in (places (kept_generic_params recs kept)) table.GENERIC_PARAM a s.row.owner x.0.owner owned in
      let t = token_of table.GENERIC_PARAM_CONSTRAINT (suc k) in
      let g = token_of table.GENERIC_PARAM (suc p.0) in
      let z : 0 + k ≡ k = omega arith in
      of_generic p.0 t p.2
      (later_in g (each_row (constraint_token g) rec.generic_param_constraint) t
      (to_each (constraint_token g) 0 rec.generic_param_constraint t
      (record { place = k; item = s.row; there = is; inside = subst (λ (n : ℕ). Contains (constraint_token g n s.row) t) (sym z) (to_if (s.row.owner == g) (t ∷ []) t (eq-eqb s.row.owner g p.1) (first_in t [])) })))

  -- ---- the first input

  first_home : a ≡ 0 → row_of recs (item.Asm (record { 0 = 0 })) ≡ Some (at_row a 0)
  unfolding row_of
  first_home e =
      let there : slice_get recs 0 ≡ Some rec = subst (λ (n : ℕ). slice_get recs n ≡ Some rec) e input.there in
      ap (λ (o : Option AsmRec). if list_any (λ (r : AsmRec). true) (listed o) then Some (at_row 0 0) else None) there ∙ ap (λ (n : ℕ). Some (at_row n 0)) (sym e)

  first_needed : Marks recs entry roots (marked (item.Asm (record { 0 = 0 })))
  unfolding marking given start_facts
  first_needed = start (marked (item.Asm (record { 0 = 0 }))) (core_or (is_core recs (item.Asm (record { 0 = 0 }))) _ refl)

  of_first : (k t : ℕ) → Contains (at_row 0 0 ∷ []) (at_row a k) → Contains (token_of table.ASSEMBLY 1 ∷ token_of table.MODULE 1 ∷ []) (token_of t 1) → Parent (token_of t (suc k))
  of_first k t c m =
      let e : at_row 0 0 ≡ at_row a k = one_is (at_row 0 0) (at_row a k) c in
      let asm : a ≡ 0 = sym (ap (λ (x : RowAt). x.asm) e) in
      let num : 0 ≡ k = ap (λ (x : RowAt). x.row) e in
      subst (λ (n : ℕ). Parent (token_of t (suc n))) num (record { item = item.Asm (record { 0 = 0 }); row = 0; home = first_home asm; needed = first_needed; among = m })

  -- ---- by the table of the parent

  at_table : (k t u : ℕ) → (t == u) ≡ true → Parent (token_of u (suc k)) → Parent (token_of t (suc k))
  at_table k t u e p = subst (λ (n : ℕ). Parent (token_of n (suc k))) (sym (eqb-true t u e)) p

  first_tokens : (t : ℕ) (m : Bool) → (t == table.ASSEMBLY) ≡ m → (m || (t == table.MODULE)) ≡ true → Contains (token_of table.ASSEMBLY 1 ∷ token_of table.MODULE 1 ∷ []) (token_of t 1)
  first_tokens t true e h = subst (λ (n : ℕ). Contains (token_of table.ASSEMBLY 1 ∷ token_of table.MODULE 1 ∷ []) (token_of n 1)) (sym (eqb-true t table.ASSEMBLY e)) (first_in (token_of table.ASSEMBLY 1) (token_of table.MODULE 1 ∷ []))
  first_tokens t false e h =
      subst (λ (n : ℕ). Contains (token_of table.ASSEMBLY 1 ∷ token_of table.MODULE 1 ∷ []) (token_of n 1)) (sym (eqb-true t table.MODULE h))
      (later_in (token_of table.ASSEMBLY 1) (token_of table.MODULE 1 ∷ []) (token_of table.MODULE 1) (first_in (token_of table.MODULE 1) []))

  choose : (k t : ℕ) (xs ys : List RowAt) (b : Bool) → (b ≡ true → Contains xs (at_row a k) → Parent (token_of t (suc k))) → (Contains ys (at_row a k) → Parent (token_of t (suc k))) → Contains (if b then xs else ys) (at_row a k) → Parent (token_of t (suc k))
  choose k t xs ys true f g c = f refl c
  choose k t xs ys false f g c = g c

  by_table : (k t : ℕ) → Contains (output_rows recs kept t) (at_row a k) → Parent (token_of t (suc k))
  by_table k t =
      choose k t (kept_types recs kept) _ (t == table.TYPE_DEF) (λ e c. at_table k t table.TYPE_DEF e (of_type k (token_of table.TYPE_DEF (suc k)) c (first_in (token_of table.TYPE_DEF (suc k)) _)))
      (choose k t (kept_fields recs kept) _ (t == table.FIELD) (λ e c. at_table k t table.FIELD e (of_field k c))
      (choose k t (kept_methods recs kept) _ (t == table.METHOD_DEF) (λ e c. at_table k t table.METHOD_DEF e (of_method k (token_of table.METHOD_DEF (suc k)) c (first_in (token_of table.METHOD_DEF (suc k)) _)))
      (choose k t (kept_params recs kept) _ (t == table.PARAM) (λ e c. at_table k t table.PARAM e (of_param k c))
      (choose k t (places (kept_interfaces recs kept)) _ (t == table.INTERFACE_IMPL) (λ e c. at_table k t table.INTERFACE_IMPL e (of_impl k c))
      (choose k t (kept_events recs kept) _ (t == table.EVENT) (λ e c. at_table k t table.EVENT e (of_event k c))
      (choose k t (kept_properties recs kept) _ (t == table.PROPERTY) (λ e c. at_table k t table.PROPERTY e (of_property k c))
      (choose k t (places (kept_generic_params recs kept)) _ (t == table.GENERIC_PARAM) (λ e c. at_table k t table.GENERIC_PARAM e (of_generic k (token_of table.GENERIC_PARAM (suc k)) c (first_in (token_of table.GENERIC_PARAM (suc k)) _)))
      (choose k t (places (kept_constraints recs kept)) _ (t == table.GENERIC_PARAM_CONSTRAINT) (λ e c. at_table k t table.GENERIC_PARAM_CONSTRAINT e (of_constraint k c))
      (choose k t (at_row 0 0 ∷ []) [] (t == table.ASSEMBLY || t == table.MODULE) (λ e c. of_first k t c (first_tokens t (t == table.ASSEMBLY) refl e)) (λ c. absurd (none_in (at_row a k) c)))))))))))

  pub parent_is : (token new : ℕ) → kept_row_token recs kept a token ≡ Some new → Parent token
  unfolding kept_row_token
  parent_is token new e =
      let p = placed_in (output_rows recs kept (table_of token)) (table_of token) a token new e in
      subst Parent (sym p.1) (by_table p.0 (table_of token) p.2)
