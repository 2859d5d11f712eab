-- A type and its bases, one more at a time.
use Rattle.std.proofs.Common.{◌≡◌, ℕ, suc, ◌+◌, ◌-◌, ◌<◌, ◌≤◌, List, [], ◌∷◌, ◌++◌, Some, None, refl, sym, ap, ◌∙◌, arith, append-nil}
use Rattle.std.proofs.lemmas.List.{append_assoc}
use Rattle.il_base.specs.declared.world_model.expr.TypeExpr.{TypeExpr}
use Rattle.il_base.specs.declared.world_model.record.AsmRec.{AsmRec}
use Rattle.rules.specs.link_rules.Members.{bases_from, base_of}

module _ (recs : List AsmRec) (found : List TypeExpr) (n i : ℕ) (e : TypeExpr) where
  pub base_next : (b : TypeExpr) → i < n → base_of recs e ≡ Some b → (found ++ e ∷ []) ++ bases_from recs (n - (i + 1)) b ≡ found ++ bases_from recs (n - i) e
  unfolding bases_from
  base_next b h s =
      append_assoc found (e ∷ []) (bases_from recs (n - (i + 1)) b)
      ∙ ap (λ (es : List TypeExpr). found ++ es) (let z : n - i ≡ suc (n - (i + 1)) = omega arith in rw (z, s) refl)

  pub base_last : i < n → base_of recs e ≡ None → found ++ e ∷ [] ≡ found ++ bases_from recs (n - i) e
  unfolding bases_from
  base_last h s = ap (λ (es : List TypeExpr). found ++ es) (let z : n - i ≡ suc (n - (i + 1)) = omega arith in rw (z, s) refl)

  pub base_none : n ≤ i → found ≡ found ++ bases_from recs (n - i) e
  unfolding bases_from
  base_none h = let z : n - i ≡ 0 = omega arith in rw z (sym (append-nil found))
