-- Types that aren't there and have no TypeRef row have the token 0.
use Rattle.std.proofs.Common.{◌≡◌, ℕ, zero, suc, ◌≤◌, Bool, true, false, refl, ap, ◌∙◌, arith}
use Rattle.std.specs.Prelude.{nat_lt, position, ◌||◌, if◌then◌else◌}
use Rattle.std.proofs.lemmas.Bool.{le-leb, ltb-false}
use Rattle.il_base.specs.declared.ids.Item.TheVariants as item
use Rattle.il_base.specs.declared.table.TheConstants.{TYPE_REF}
use Rattle.rules.specs.mark_rules.Places.{is_core}
use Rattle.rules.specs.merge_rules.Absent.{type_count}
use Rattle.rules.specs.merge_rules.Refs.{same_id, is_reference, row_token}
use Rattle.reference_rows.specs.declared.tokens.TypeTokens.{TypeTokens}
use Rattle.reference_rows.specs.Types.{recs_in, kept_type_token, type_token_by}
use Rattle.reference_rows.specs.number_tokens.Numbers.{number_token_by, is_below, is_among}
use Rattle.reference_rows.proofs.lemmas.number_tokens.Filling.{no_place}

module _ (t : TypeTokens) where
  beyond : (k count : ℕ) → count ≡ type_count (recs_in t) → nat_lt k count ≡ false → is_reference (recs_in t) (record { 0 = k }) ≡ true
  beyond k count is e =
      let past : type_count (recs_in t) ≤ k = let ge : count ≤ k = ltb-false k count e in omega arith in
      ap (λ (b : Bool). b || is_core (recs_in t) (item.Typ (record { 0 = k }))) (le-leb (type_count (recs_in t)) k past)

  unset : (k : ℕ) (b : Bool) → is_reference (recs_in t) (record { 0 = k }) ≡ b → b ≡ true → is_among t.refs.now (suc k) ≡ false → type_token_by t (record { 0 = k }) ≡ 0
  unfolding type_token_by
  unset k b is held e =
      ap (λ (b : Bool). if b then row_token TYPE_REF (position (same_id (record { 0 = k })) t.refs.now) else kept_type_token (recs_in t) t.kept.now (record { 0 = k })) (is ∙ held)
      ∙ ap (row_token TYPE_REF) (no_place (record { 0 = k }) t.refs.now e)

  pub others : (count : ℕ) → count ≡ type_count (recs_in t) → (q : ℕ) → is_below count q ≡ false → is_among t.refs.now q ≡ false → number_token_by t q ≡ 0
  others count is zero e f = refl
  others count is (suc k) e f = unset k (is_reference (recs_in t) (record { 0 = k })) refl (beyond k count is e) f
