-- A chain of scopes, from a type to the outermost around it.
use Rattle.std.proofs.Common.{◌≡◌, ℕ, zero, suc, ◌+◌, ◌-◌, ◌<◌, ◌≤◌, List, [], ◌∷◌, ◌++◌, reverse, Option, Some, None, refl, sym, ap, ◌∙◌, arith, append_assoc}
use Rattle.std.specs.List.{flat_map}
use Rattle.std.specs.Option.{option_to_list}
use Rattle.std.proofs.lemmas.List.{append-nil, reverse-append}
use Rattle.il_base.specs.declared.ids.TypeId.{TypeId}
use Rattle.il_base.specs.declared.world_model.record.AsmRec.{AsmRec}
use Rattle.rules.specs.merge_rules.Refs.{scope_type, with_scopes}
use Rattle.rules.specs.link_rules.Cycles.{listed}

module _ (recs : List AsmRec) where
  none_at : (t : TypeId) → with_scopes recs zero t ≡ t ∷ []
  unfolding with_scopes
  none_at t = refl

  more_at : (n : ℕ) (t : TypeId) → with_scopes recs (suc n) t ≡ flat_map (with_scopes recs n) (listed (scope_type recs t)) ++ t ∷ []
  unfolding with_scopes
  more_at n t = refl

  last_at : (n : ℕ) (t : TypeId) → scope_type recs t ≡ None → with_scopes recs (suc n) t ≡ t ∷ []
  last_at n t e = more_at n t ∙ ap (λ (o : Option TypeId). flat_map (with_scopes recs n) (listed o) ++ t ∷ []) e

  outer_at : (n : ℕ) (t around : TypeId) → scope_type recs t ≡ Some around → with_scopes recs (suc n) t ≡ with_scopes recs n around ++ t ∷ []
  outer_at n t around e =
      more_at n t ∙ ap (λ (o : Option TypeId). flat_map (with_scopes recs n) (listed o) ++ t ∷ []) e
      ∙ ap (λ (xs : List TypeId). xs ++ t ∷ []) (append-nil (with_scopes recs n around))

  pub climb_next : (most i : ℕ) (at around : TypeId) (inner more whole : List TypeId) → i < most → scope_type recs at ≡ Some around → more ≡ inner ++ at ∷ []
      → with_scopes recs (most - i) at ++ reverse inner ≡ whole → with_scopes recs (most - (i + 1)) around ++ reverse more ≡ whole
  climb_next most i at around inner more whole below outer new e =
      let n : most - i ≡ suc (most - (i + 1)) = omega arith in
      ap (λ (xs : List TypeId). with_scopes recs (most - (i + 1)) around ++ reverse xs) new
      ∙ ap (λ (xs : List TypeId). with_scopes recs (most - (i + 1)) around ++ xs) (reverse-append inner (at ∷ []))
      ∙ sym (append_assoc (with_scopes recs (most - (i + 1)) around) (at ∷ []) (reverse inner))
      ∙ ap (λ (xs : List TypeId). xs ++ reverse inner) (sym (outer_at (most - (i + 1)) at around outer))
      ∙ ap (λ (k : ℕ). with_scopes recs k at ++ reverse inner) (sym n)
      ∙ e

  pub climb_last : (most i : ℕ) (at : TypeId) (inner whole : List TypeId) → i < most → scope_type recs at ≡ None
      → with_scopes recs (most - i) at ++ reverse inner ≡ whole → whole ≡ at ∷ reverse inner
  climb_last most i at inner whole below none e =
      let n : most - i ≡ suc (most - (i + 1)) = omega arith in
      sym e ∙ ap (λ (k : ℕ). with_scopes recs k at ++ reverse inner) n ∙ ap (λ (xs : List TypeId). xs ++ reverse inner) (last_at (most - (i + 1)) at none)

  pub climb_end : (most i : ℕ) (at : TypeId) (inner whole : List TypeId) → most ≤ i
      → with_scopes recs (most - i) at ++ reverse inner ≡ whole → whole ≡ at ∷ reverse inner
  climb_end most i at inner whole past e =
      let n : most - i ≡ 0 = omega arith in
      sym e ∙ ap (λ (k : ℕ). with_scopes recs k at ++ reverse inner) n ∙ ap (λ (xs : List TypeId). xs ++ reverse inner) (none_at at)

  -- the outermost, and then those inside it
  pub all_put : (most : ℕ) (id top : TypeId) (types one new none inner left : List TypeId) → none ≡ [] → with_scopes recs most id ++ reverse none ≡ top ∷ reverse inner
      → one ≡ types ++ top ∷ [] → left ≡ inner → new ≡ one ++ reverse left → new ≡ types ++ with_scopes recs most id
  all_put most id top types one new none inner left empty e f same g =
      g ∙ (λ i. f i ++ reverse (same i)) ∙ append_assoc types (top ∷ []) (reverse inner)
      ∙ ap (λ (xs : List TypeId). types ++ xs) (sym e ∙ ap (λ (xs : List TypeId). with_scopes recs most id ++ reverse xs) empty ∙ append-nil (with_scopes recs most id))

-- ---- put back

pub back_next : (left rest types one whole : List TypeId) (id : TypeId) → left ≡ rest ++ option_to_list (Some id) → one ≡ types ++ id ∷ []
    → types ++ reverse left ≡ whole → one ++ reverse rest ≡ whole
back_next left rest types one whole id e f g =
    ap (λ (xs : List TypeId). xs ++ reverse rest) f ∙ append_assoc types (id ∷ []) (reverse rest)
    ∙ ap (λ (xs : List TypeId). types ++ xs) (sym (reverse-append rest (id ∷ [])))
    ∙ ap (λ (xs : List TypeId). types ++ reverse xs) (sym e) ∙ g
