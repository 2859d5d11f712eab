-- A walk from a type reference through its scopes.
use Rattle.std.proofs.Common.{◌≡◌, ℕ, suc, ◌+◌, ◌-◌, ◌<◌, ◌≤◌, Bool, true, false, Option, Some, None, refl, sym, ap, ◌∙◌, arith}
use Rattle.std.specs.Prelude.{◌||◌}
use Rattle.std.specs.List.{list_any}
use Rattle.std.specs.Option.{option_map}
use Rattle.il_base.specs.declared.world_model.types.TypeRefRow.{TypeRefRow}
use Rattle.il_base.specs.declared.world_model.record.AsmRec.{AsmRec}
use Rattle.il_base.specs.world_model.Core.{is_core_scope}
use Rattle.rules.specs.link_rules.Cycles.{listed}
use Rattle.rules.specs.mark_rules.Attributes.{is_core_ref_within}
use Rattle.mark_parts.specs.mark_core_refs.Scopes.{ref_row, scope_of}

or_none : (b : Bool) → (b || false) ≡ b
or_none true = refl
or_none false = refl

module _ (rec : AsmRec) where
  abbrev by_scope : ℕ → Option ℕ → Bool
  by_scope n None = false
  by_scope n (Some s) = is_core_scope rec s || is_core_ref_within rec n s

  by_row : (n : ℕ) (o : Option TypeRefRow) → list_any (λ (row : TypeRefRow). is_core_scope rec row.resolution_scope || is_core_ref_within rec n row.resolution_scope) (listed o) ≡ by_scope n (option_map (λ (row : TypeRefRow). row.resolution_scope) o)
  by_row n None = refl
  by_row n (Some row) = or_none (is_core_scope rec row.resolution_scope || is_core_ref_within rec n row.resolution_scope)

  one_more : (n token : ℕ) → is_core_ref_within rec (suc n) token ≡ by_scope n (scope_of rec token)
  unfolding is_core_ref_within
  one_more n token = by_row n (ref_row rec token)

  step : (n i token : ℕ) → i < n → is_core_ref_within rec (n - i) token ≡ by_scope (n - (i + 1)) (scope_of rec token)
  step n i token lt = let z : n - i ≡ suc (n - (i + 1)) = omega arith in ap (λ (k : ℕ). is_core_ref_within rec k token) z ∙ one_more (n - (i + 1)) token

  module _ (n i at start : ℕ) (kept : is_core_ref_within rec (n - i) at ≡ is_core_ref_within rec n start) where
    pub ref_none : i < n → scope_of rec at ≡ None → false ≡ is_core_ref_within rec n start
    ref_none lt e = sym (step n i at lt ∙ ap (by_scope (n - (i + 1))) e) ∙ kept

    pub ref_here : (s : ℕ) → i < n → scope_of rec at ≡ Some s → is_core_scope rec s ≡ true → true ≡ is_core_ref_within rec n start
    ref_here s lt e h = sym (step n i at lt ∙ ap (by_scope (n - (i + 1))) e ∙ ap (λ (b : Bool). b || is_core_ref_within rec (n - (i + 1)) s) h) ∙ kept

    pub ref_next : (s : ℕ) → i < n → scope_of rec at ≡ Some s → is_core_scope rec s ≡ false → is_core_ref_within rec (n - (i + 1)) s ≡ is_core_ref_within rec n start
    ref_next s lt e h = sym (step n i at lt ∙ ap (by_scope (n - (i + 1))) e ∙ ap (λ (b : Bool). b || is_core_ref_within rec (n - (i + 1)) s) h) ∙ kept

    pub ref_end : n ≤ i → false ≡ is_core_ref_within rec n start
    unfolding is_core_ref_within
    ref_end le = let z : n - i ≡ 0 = omega arith in sym (ap (λ (k : ℕ). is_core_ref_within rec k at) z) ∙ kept
