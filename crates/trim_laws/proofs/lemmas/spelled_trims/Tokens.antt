-- The tokens of types in what is met are of TypeRef and TypeDef, where types of inputs among them are kept.
use Rattle.std.proofs.Common.{◌≡◌, ◌<◌, ◌≤◌, ℕ, zero, suc, ◌+◌, List, [], ◌∷◌, length, Bool, true, false, Option, Some, None, inl, inr, refl, sym, subst, arith, nat_le, nat_lt}
use Rattle.std.specs.Prelude.{slice_get, position, ◌||◌, if◌then◌else◌}
use Rattle.std.specs.List.{Contains, flat_map, filter, list_any}
use Rattle.std.specs.Option.{is_some}
use Rattle.std.proofs.lemmas.Bool.{eq-eqb, ltb-true, ltb-false, leb-false}
use Rattle.std.proofs.lemmas.List.Elements.{Contains-append_right}
use Rattle.il_base.specs.declared.ids.TypeId.{TypeId}
use Rattle.il_base.specs.declared.ids.Item.TheVariants as item
use Rattle.il_base.specs.declared.table.TheConstants as table
use Rattle.il_base.specs.blob_grammar.Values.{IsTypeToken}
use Rattle.il_base.specs.declared.world_model.record.AsmRec.{AsmRec}
use Rattle.il_base.specs.world_model.Tokens.{table_of}
use Rattle.il_base.specs.world_model.Records.{rows_in}
use Rattle.il_base.specs.world_model.Worlds.{rows_before, types_in}
use Rattle.rules.specs.declared.link_rules.row_at.RowAt.{RowAt}
use Rattle.rules.specs.link_rules.Members.{type_home}
use Rattle.rules.specs.link_rules.Cycles.{listed, same_row}
use Rattle.base_laws.proofs.lemmas.type_laws.Places.{home_is, place_within, rows_decide}
use Rattle.base_laws.proofs.lemmas.known_laws.Lists.{first_in, to_flat}
use Rattle.run_laws.proofs.lemmas.marked_laws.Places.{last_is_core}
use Rattle.rules.specs.mark_rules.Places.{row_of, is_core, type_item}
use Rattle.rules.specs.merge_rules.Absent.{type_count}
use Rattle.rules.specs.merge_rules.Numbers.{kept_types}
use Rattle.rules.specs.merge_rules.Refs.{Output, types_of_met, same_id, is_reference, scope_type, with_scopes, most_scopes, type_refs, row_token, kept_token, type_token}
use Rattle.merge_laws.specs.merged_record.Laws.{RowsFit}
use Rattle.merge_laws.proofs.lemmas.merged_record.Lists.{OfInput}
use Rattle.merge_laws.proofs.lemmas.merged_record.Tokens.{position_is, stands}
use Rattle.merge_laws.proofs.lemmas.merged_record.Sizes.{left, types, type_ref_rows_are}
use Rattle.merge_laws.proofs.lemmas.merged_record.Owned.{to_kept}
use Rattle.merge_laws.proofs.lemmas.merged_owners.Homes.{position_some}
use Rattle.merge_laws.proofs.lemmas.merged_tokens.Once.{any_once, any_position, to_filter, below_home}

module _ (internal : Bool) (o : Output) (primary : AsmRec) (refs : length (left internal o primary).type_ref ≡ length (type_refs o.recs o.mets)) (fit : RowsFit (left internal o primary)) where
  abbrev out : AsmRec
  out = left internal o primary

  -- a type that is met
  abbrev pub IsMet : TypeId → Type 0
  IsMet t = Contains (flat_map (types_of_met o.recs) o.mets) t

  -- ---- the token of a place

  table_by : {A : Type 0} (t : ℕ) (p : A → Bool) (xs : List A) (k : Option ℕ) → position p xs ≡ k → is_some k ≡ true → t < 256 → length xs ≤ rows_in out t → table_of (row_token t k) ≡ t
  table_by t p xs None e h low le = absurd (cc)
  table_by t p xs (Some k) e h low le =
      let lt = (position_is p xs k e).within in
      let f = fit t in
      (stands out t k low (omega arith) (omega arith)).is

  table_there : {A : Type 0} (t : ℕ) (p : A → Bool) (xs : List A) → is_some (position p xs) ≡ true → t < 256 → length xs ≤ rows_in out t → table_of (row_token t (position p xs)) ≡ t
  table_there t p xs h low le = table_by t p xs (position p xs) refl h low le

  -- ---- references

  scoped : (n : ℕ) (t : TypeId) → Contains (with_scopes o.recs n t) t
  unfolding with_scopes
  scoped zero t = first_in t []
  scoped (suc n) t = Contains-append_right (flat_map (with_scopes o.recs n) (listed (scope_type o.recs t))) (t ∷ []) t (first_in t [])

  referred : (t : TypeId) → IsMet t → is_reference o.recs t ≡ true → list_any (same_id t) (type_refs o.recs o.mets) ≡ true
  unfolding type_refs
  referred t c h =
      any_once same_id (flat_map (with_scopes o.recs (most_scopes o.recs)) (filter (is_reference o.recs) (flat_map (types_of_met o.recs) o.mets))) t (eq-eqb t.0 t.0 refl)
      (to_flat (with_scopes o.recs (most_scopes o.recs)) (filter (is_reference o.recs) (flat_map (types_of_met o.recs) o.mets)) t
      (record { item = t; there = to_filter (is_reference o.recs) (flat_map (types_of_met o.recs) o.mets) t c h; inside = scoped (most_scopes o.recs) t }))

  ref_table : (t : TypeId) → IsMet t → is_reference o.recs t ≡ true → table_of (row_token table.TYPE_REF (position (same_id t) (type_refs o.recs o.mets))) ≡ 1
  ref_table t c h =
      let n = type_ref_rows_are internal o primary in
      table_there table.TYPE_REF (same_id t) (type_refs o.recs o.mets) (any_position (same_id t) (type_refs o.recs o.mets) (referred t c h)) (omega arith) (omega (arith, n, refs))

  -- ---- kept types

  reference_by : (t : TypeId) (b c : Bool) → nat_le (type_count o.recs) t.0 ≡ b → is_core o.recs (item.Typ t) ≡ c → (b || c) ≡ false → (t.0 < type_count o.recs) × (is_core o.recs (item.Typ t) ≡ false)
  reference_by t true c e f g = absurd (cc)
  reference_by t false true e f g = absurd (cc)
  reference_by t false false e f g = (leb-false (type_count o.recs) t.0 e, f)

  not_reference : (t : TypeId) → is_reference o.recs t ≡ false → (t.0 < type_count o.recs) × (is_core o.recs (item.Typ t) ≡ false)
  not_reference t h = reference_by t (nat_le (type_count o.recs) t.0) (is_core o.recs (item.Typ t)) refl refl h

  of_last : (t : TypeId) (at : RowAt) → type_home o.recs t ≡ Some at → suc at.asm ≡ length o.recs → is_core o.recs (item.Typ t) ≡ true
  unfolding row_of
  of_last t at home e = last_is_core o.recs (item.Typ t) at home e

  within_by : (t : TypeId) (at : RowAt) (b : Bool) → nat_lt (suc at.asm) (length o.recs) ≡ b → type_home o.recs t ≡ Some at → is_core o.recs (item.Typ t) ≡ false → at.asm < length o.recs → suc at.asm < length o.recs
  within_by t at true e home other lt = ltb-true (suc at.asm) (length o.recs) e
  within_by t at false e home other lt =
      let ge : length o.recs ≤ suc at.asm = ltb-false (suc at.asm) (length o.recs) e in
      let core : is_core o.recs (item.Typ t) ≡ true = of_last t at home (omega arith) in
      absurd (cc)

  in_types : (at : RowAt) (rec : AsmRec) → OfInput o.recs at.asm rec → at.row < types_in rec → o.kept (type_item o.recs at) ≡ true → Contains (kept_types o.recs o.kept) at
  unfolding kept_types
  in_types at rec input lt h = to_kept types_in (type_item o.recs) o.recs o.kept at rec input lt h

  home_table : (t : TypeId) (at : RowAt) → type_home o.recs t ≡ Some at → is_core o.recs (item.Typ t) ≡ false → (suc at.asm < length o.recs → o.kept (item.Typ t) ≡ true) → table_of (kept_token table.TYPE_DEF (kept_types o.recs o.kept) (Some at)) ≡ 2
  home_table t at home other h =
      let s = home_is o.recs 0 t.0 at home in
      let asm : s.asm ≡ at.asm = omega (arith, s.numbered) in
      let there : slice_get o.recs at.asm ≡ Some s.rec = subst (λ (a : ℕ). slice_get o.recs a ≡ Some s.rec) asm s.there in
      let lt = place_within o.recs at.asm s.rec there in
      let number : t.0 ≡ rows_before types_in o.recs at.asm + at.row = subst (λ (a : ℕ). t.0 ≡ rows_before types_in o.recs a + at.row) asm s.id in
      let input : OfInput o.recs at.asm s.rec = record { there = there; within = within_by t at (nat_lt (suc at.asm) (length o.recs)) refl home other lt } in
      let keeps : o.kept (type_item o.recs at) ≡ true = subst (λ (n : ℕ). o.kept (item.Typ (record { 0 = n })) ≡ true) number (h input.within) in
      let c = in_types at s.rec input s.below keeps in
      let n = types internal o primary in
      table_there table.TYPE_DEF (same_row at) (kept_types o.recs o.kept) (position_some (same_row at) (kept_types o.recs o.kept) at c ((rows_decide at at).1 refl)) (omega arith) (omega (arith, n))

  -- what is met of inputs is kept
  module _ (keeps : (t : TypeId) (at : RowAt) → IsMet t → type_home o.recs t ≡ Some at → suc at.asm < length o.recs → o.kept (item.Typ t) ≡ true) where
    type_by : (t : TypeId) (b : Bool) → is_reference o.recs t ≡ b → IsMet t
        → IsTypeToken (if b then row_token table.TYPE_REF (position (same_id t) (type_refs o.recs o.mets)) else kept_token table.TYPE_DEF (kept_types o.recs o.kept) (type_home o.recs t))
    type_by t true e c = inr (inl (ref_table t c e))
    type_by t false e c =
        let p = not_reference t e in
        let home = below_home types_in o.recs 0 t.0 p.0 in
        subst (λ (x : Option RowAt). IsTypeToken (kept_token table.TYPE_DEF (kept_types o.recs o.kept) x)) (sym home.1) (inl (home_table t home.0 home.1 p.1 (keeps t home.0 c home.1)))

    pub type_is : (t : TypeId) → IsMet t → IsTypeToken (type_token o t)
    unfolding type_token
    type_is t c = type_by t (is_reference o.recs t) refl c
