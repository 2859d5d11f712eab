-- The ways over forwarders, and over the references around a reference.
use Rattle.std.proofs.Common.{◌≡◌, ℕ, suc, List, [], ◌∷◌, ◌++◌, Option, Some, None, refl, sym, ap, ◌∙◌}
use Rattle.std.specs.Prelude.{slice_get}
use Rattle.std.specs.Option.{option_map, option_and_then}
use Rattle.il_base.specs.declared.world_model.types.TypeRefRow.{TypeRefRow}
use Rattle.il_base.specs.declared.world_model.record.AsmRec.{AsmRec}
use Rattle.il_base.specs.world_model.Tokens.{index_in}
use Rattle.rules.specs.declared.link_rules.row_at.RowAt.{RowAt}
use Rattle.rules.specs.link_rules.Types.{or_else, at_row, top_type, type_in, forwarded_to, ref_type, nested_type, type_of_scope}
use Rattle.resolver.specs.declared.type_links.names.TypeName.{TypeName}
use Rattle.resolver.specs.type_links.Index.{type_at, forwarded_at}
use Rattle.resolver.specs.type_links.References.{come_down}

-- ---- over forwarders

module _ (all : List AsmRec) (name : TypeName) where
  abbrev top : ℕ → ℕ → Option RowAt
  top n a = top_type all n name.namespace.now name.name.now a

  step_by : (n a : ℕ) (o : Option AsmRec)
      → option_and_then (λ (rec : AsmRec). or_else (option_map (at_row a) (type_in rec None name.namespace.now name.name.now)) (option_and_then (top n) (forwarded_to all rec name.namespace.now name.name.now))) o
      ≡ or_else (option_map (at_row a) (option_and_then (λ (rec : AsmRec). type_in rec None name.namespace.now name.name.now) o))
      (option_and_then (top n) (option_and_then (λ (rec : AsmRec). forwarded_to all rec name.namespace.now name.name.now) o))
  step_by n a None = refl
  step_by n a (Some rec) = refl

  top_step : (n a : ℕ) → top (suc n) a ≡ or_else (option_map (at_row a) (type_at all a None name)) (option_and_then (top n) (forwarded_at all a name))
  unfolding top_type
  top_step n a = step_by n a (slice_get all a)

  pub top_found : (m n a row : ℕ) → m ≡ suc n → Some row ≡ type_at all a None name → Some (at_row a row) ≡ top m a
  top_found m n a row fuel e = sym (ap (λ (k : ℕ). top k a) fuel ∙ top_step n a ∙ rw (sym e) refl)

  pub top_lost : (m n a : ℕ) → m ≡ suc n → None ≡ type_at all a None name → None ≡ forwarded_at all a name → None ≡ top m a
  top_lost m n a fuel e f = sym (ap (λ (k : ℕ). top k a) fuel ∙ top_step n a ∙ rw (sym e, sym f) refl)

  pub top_next : (m n a next : ℕ) → m ≡ suc n → None ≡ type_at all a None name → Some next ≡ forwarded_at all a name → top n next ≡ top m a
  top_next m n a next fuel e f = sym (ap (λ (k : ℕ). top k a) fuel ∙ top_step n a ∙ rw (sym e, sym f) refl)

  pub top_end : (m a : ℕ) → m ≡ 0 → None ≡ top m a
  unfolding top_type
  top_end m a e = rw e refl

-- ---- over references

module _ (all : List AsmRec) (a : ℕ) (rec : AsmRec) where
  abbrev named : ℕ → ℕ → Option RowAt
  named n k = ref_type all a rec n k

  pub named_lost : (m n k : ℕ) → m ≡ suc n → None ≡ slice_get rec.type_ref k → named m k ≡ None
  unfolding ref_type
  named_lost m n k fuel e = rw (fuel, sym e) refl

  pub named_top : (m n k : ℕ) (row : TypeRefRow) → m ≡ suc n → Some row ≡ slice_get rec.type_ref k → None ≡ index_in 0x01 row.resolution_scope → named m k ≡ type_of_scope all a rec row
  unfolding ref_type
  named_top m n k row fuel e f = rw (fuel, sym e, sym f) refl

  pub named_nested : (m n k : ℕ) (row : TypeRefRow) (outer : ℕ) → m ≡ suc n → Some row ≡ slice_get rec.type_ref k → Some outer ≡ index_in 0x01 row.resolution_scope
      → named m k ≡ nested_type all row.namespace row.name (named n outer)
  unfolding ref_type
  named_nested m n k row outer fuel e f = rw (fuel, sym e, sym f) refl

  pub named_end : (m k : ℕ) → m ≡ 0 → named m k ≡ None
  unfolding ref_type
  named_end m k e = rw e refl

-- one reference more at the end of a way
pub come_push : (all : List AsmRec) (rows : List TypeRefRow) (row : TypeRefRow) (around : Option RowAt)
    → come_down all (rows ++ row ∷ []) around ≡ come_down all rows (nested_type all row.namespace row.name around)
come_push all [] row around = refl
come_push all (r ∷ rows) row around = ap (nested_type all r.namespace r.name) (come_push all rows row around)
