-- The first user string of a token, by the rows of a group.
use Rattle.std.proofs.Common.{◌≡◌, ℕ, ◌+◌, Bool, true, false, cond, eqb, List, [], ◌∷◌, Option, Some, None, refl, sym, ap, ◌∙◌, inl, inr, eq-eqb}
use Rattle.std.specs.Prelude.{slice_get, find, if◌then◌else◌}
use Rattle.std.specs.List.{position_from}
use Rattle.std.proofs.lemmas.Bool.{cases_eq, ne_eqb}
use Rattle.il_base.specs.declared.world_model.record.UserText.{UserText}
use Rattle.il_base.specs.declared.world_model.record.AsmRec.{AsmRec}
use Rattle.il_base.proofs.lemmas.first_places.Finding.{item_at, find_first}
use Rattle.type_tables.specs.member_search.Names.{places}
use Rattle.type_tables.specs.declared.groups.Groups.{Groups}
use Rattle.type_tables.specs.Groups.{is_key, rows_with, AreGroups}
use Rattle.mark_parts.specs.mark_tables.Owners.{text_tokens}
use Rattle.rules.specs.view_rules.Code.{is_token}

eqb_swap : (a b : ℕ) → eqb a b ≡ eqb b a
eqb_swap a b = elim (cases_eq a b) [
  | inl e ↦ eq-eqb a b e ∙ sym (eq-eqb b a (sym e))
  | inr ne ↦ ne_eqb a b ne ∙ sym (ne_eqb b a (λ e. ne (sym e)))
]

abbrev first : List ℕ → Option ℕ
first ks = slice_get ks 0

first_by : (b : Bool) (i : ℕ) (ks : List ℕ) (p : Option ℕ) → first ks ≡ p → first (if b then i ∷ ks else ks) ≡ cond b (Some i) p
first_by true i ks p e = refl
first_by false i ks p e = e

first_place : (test other : ℕ → Bool) → ((k : ℕ) → test k ≡ other k) → (i : ℕ) (ks : List ℕ) → first (places test i ks) ≡ position_from other i ks
first_place test other same i [] = refl
first_place test other same i (k ∷ ks) =
    first_by (test k) i (places test (i + 1) ks) (position_from other (i + 1) ks) (first_place test other same (i + 1) ks)
    ∙ ap (λ (b : Bool). cond b (Some i) (position_from other (i + 1) ks)) (same k)

module _ (rec : AsmRec) (groups : Groups) (are : AreGroups (text_tokens rec) groups) (token : ℕ) where
  by_rows : (rows : List ℕ) → rows ≡ rows_with groups token → item_at rec.user (first rows) ≡ find (is_token token) rec.user
  by_rows rows e =
      ap (λ (ks : List ℕ). item_at rec.user (first ks)) (e ∙ are token)
      ∙ ap (λ (p : Option ℕ). item_at rec.user p) (first_place (is_key token) (eqb token) (λ k. eqb_swap k token) 0 (text_tokens rec))
      ∙ sym (find_first (λ (t : UserText). t.token) token rec.user)

  pub text_none : (rows : List ℕ) → rows ≡ rows_with groups token → None ≡ slice_get rows 0 → None ≡ find (is_token token) rec.user
  text_none rows e none = ap (λ (p : Option ℕ). item_at rec.user p) none ∙ by_rows rows e

  pub text_some : (rows : List ℕ) → rows ≡ rows_with groups token → (k : ℕ) → Some k ≡ slice_get rows 0 → (found : Option UserText) → found ≡ slice_get rec.user k → found ≡ find (is_token token) rec.user
  text_some rows e k some found is = is ∙ ap (λ (p : Option ℕ). item_at rec.user p) some ∙ by_rows rows e
