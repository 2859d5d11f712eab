-- The token of a key isn't 0, where what it names is met, and types of inputs among that have new rows.
use Rattle.std.proofs.Common.{◌≡◌, ◌<◌, ◌≤◌, ℕ, zero, suc, List, [], ◌∷◌, Bool, true, false, nat_le, Option, Some, refl, sym, ap, subst, arith}
use Rattle.std.specs.Prelude.{position, ◌||◌, if◌then◌else◌}
use Rattle.std.specs.List.{Contains, flat_map, filter}
use Rattle.std.specs.Option.{is_some}
use Rattle.std.proofs.lemmas.Bool.{eq-eqb, leb-false}
use Rattle.std.proofs.lemmas.List.Elements.{Contains-append_right}
use Rattle.il_base.specs.declared.ids.TypeId.{TypeId}
use Rattle.il_base.specs.declared.ids.Item.TheVariants as item
use Rattle.il_base.specs.declared.sig.Sig.{Sig}
use Rattle.il_base.specs.declared.table.TheConstants as table
use Rattle.il_base.specs.declared.world_model.record.AsmRec.{AsmRec}
use Rattle.rules.specs.declared.link_rules.row_at.RowAt.{RowAt}
use Rattle.rules.specs.link_rules.Members.{type_home}
use Rattle.rules.specs.link_rules.Cycles.{listed, same_row}
use Rattle.base_laws.proofs.lemmas.known_laws.Lists.{first_in, to_flat}
use Rattle.rules.specs.mark_rules.Places.{is_core}
use Rattle.rules.specs.merge_rules.Absent.{type_count}
use Rattle.rules.specs.merge_rules.Numbers.{kept_types, new_row}
use Rattle.rules.specs.merge_rules.Keys.{TypeKey, named, spec, same_sig}
use Rattle.rules.specs.merge_rules.Refs.{Output, types_of_key, spec_of_key, types_of_met, specs_of_met, same_id, is_reference, scope_type, with_scopes, most_scopes, type_refs, type_specs, row_token, kept_token, type_token, key_token}
use Rattle.token_keys.proofs.lemmas.key_codes.SameSig.{same_self}
use Rattle.merge_laws.specs.merged_record.Laws.{ReferencesStand, RowsFit}
use Rattle.merge_laws.proofs.lemmas.merged_record.Sizes.{left, types, type_ref_rows_are, type_spec_rows_are}
use Rattle.merge_laws.proofs.lemmas.merged_tokens.Once.{any_once, any_position, to_filter}
use Rattle.merge_laws.proofs.lemmas.merged_tokens.Stand.{token_there}

-- a type of an input with a new row
pub record HasNewRow (o : Output) (t : TypeId) : Type 0 where
  pub at : RowAt
  pub home : type_home o.recs t ≡ Some at
  pub row : ℕ
  pub new : new_row (kept_types o.recs o.kept) at ≡ Some row

-- what isn't a reference is a type of the world, and none of the core library
pub not_reference : (recs : List AsmRec) (t : TypeId) → is_reference recs t ≡ false → (t.0 < type_count recs) × (is_core recs (item.Typ t) ≡ false)
not_reference recs t h = by_test (nat_le (type_count recs) t.0) (is_core recs (item.Typ t)) refl refl h
  where
    by_test : (b c : Bool) → nat_le (type_count recs) t.0 ≡ b → is_core recs (item.Typ t) ≡ c → (b || c) ≡ false → (t.0 < type_count recs) × (is_core recs (item.Typ t) ≡ false)
    by_test true c e f g = absurd (cc)
    by_test false true e f g = absurd (cc)
    by_test false false e f g = (leb-false (type_count recs) t.0 e, f)

module _ (internal : Bool) (o : Output) (primary : AsmRec) (refs : ReferencesStand o (left internal o primary)) (fit : RowsFit (left internal o primary)) where
  scoped : (n : ℕ) (t : TypeId) → Contains (with_scopes o.recs n t) t
  unfolding with_scopes
  scoped zero t = first_in t []
  scoped (suc n) t = Contains-append_right (flat_map (with_scopes o.recs n) (listed (scope_type o.recs t))) (t ∷ []) t (first_in t [])

  reference_stands : (t : TypeId) → Contains (flat_map (types_of_met o.recs) o.mets) t → is_reference o.recs t ≡ true → 1 ≤ row_token table.TYPE_REF (position (same_id t) (type_refs o.recs o.mets))
  unfolding type_refs
  reference_stands t c h =
      let n = type_ref_rows_are internal o primary in
      let m = refs.types in
      let scopes : List TypeId = flat_map (with_scopes o.recs (most_scopes o.recs)) (filter (is_reference o.recs) (flat_map (types_of_met o.recs) o.mets)) in
      let there : Contains scopes t =
      to_flat (with_scopes o.recs (most_scopes o.recs)) (filter (is_reference o.recs) (flat_map (types_of_met o.recs) o.mets)) t
      (record { item = t; there = to_filter (is_reference o.recs) (flat_map (types_of_met o.recs) o.mets) t c h; inside = scoped (most_scopes o.recs) t }) in
      token_there internal o primary refs fit table.TYPE_REF (same_id t) (type_refs o.recs o.mets) (any_position (same_id t) (type_refs o.recs o.mets) (any_once same_id scopes t (eq-eqb t.0 t.0 refl) there)) (omega arith) (omega arith)

  signature_stands : (s : Sig) → Contains (flat_map (specs_of_met o.recs) o.mets) s → 1 ≤ row_token table.TYPE_SPEC (position (same_sig s) (type_specs o.recs o.mets))
  unfolding type_specs
  signature_stands s c =
      let n = type_spec_rows_are internal o primary in
      token_there internal o primary refs fit table.TYPE_SPEC (same_sig s) (type_specs o.recs o.mets) (any_position (same_sig s) (type_specs o.recs o.mets) (any_once same_sig (flat_map (specs_of_met o.recs) o.mets) s (same_self s) c)) (omega arith) (omega arith)

  kept_stands : (t : TypeId) → HasNewRow o t → 1 ≤ kept_token table.TYPE_DEF (kept_types o.recs o.kept) (type_home o.recs t)
  kept_stands t r =
      let n = types internal o primary in
      subst (λ (x : Option RowAt). 1 ≤ kept_token table.TYPE_DEF (kept_types o.recs o.kept) x) (sym r.home)
      (token_there internal o primary refs fit table.TYPE_DEF (same_row r.at) (kept_types o.recs o.kept) (ap (λ (x : Option ℕ). is_some x) r.new) (omega arith) (omega arith))

  type_by : (t : TypeId) (b : Bool) → is_reference o.recs t ≡ b → Contains (flat_map (types_of_met o.recs) o.mets) t → (is_reference o.recs t ≡ false → HasNewRow o t)
      → 1 ≤ (if b then row_token table.TYPE_REF (position (same_id t) (type_refs o.recs o.mets)) else kept_token table.TYPE_DEF (kept_types o.recs o.kept) (type_home o.recs t))
  type_by t true e c h = reference_stands t c e
  type_by t false e c h = kept_stands t (h e)

  type_stands : (t : TypeId) → Contains (flat_map (types_of_met o.recs) o.mets) t → (is_reference o.recs t ≡ false → HasNewRow o t) → 1 ≤ type_token o t
  unfolding type_token
  type_stands t c h = type_by t (is_reference o.recs t) refl c h

  pub key_stands : (k : TypeKey) → ((t : TypeId) → Contains (types_of_key k) t → Contains (flat_map (types_of_met o.recs) o.mets) t)
      → ((t : TypeId) → Contains (types_of_key k) t → is_reference o.recs t ≡ false → HasNewRow o t) → ((s : Sig) → Contains (spec_of_key k) s → Contains (flat_map (specs_of_met o.recs) o.mets) s) → 1 ≤ key_token o k
  unfolding key_token
  key_stands (named t) met new specs = type_stands t (met t (first_in t [])) (new t (first_in t []))
  key_stands (spec s) met new specs = signature_stands s (specs s (first_in s []))
