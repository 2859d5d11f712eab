-- A search through a type and its bases, one type at a time.
use Rattle.std.proofs.Common.{◌≡◌, ℕ, suc, ◌+◌, ◌-◌, ◌<◌, ◌≤◌, List, Option, Some, None, refl, arith}
use Rattle.il_base.specs.declared.world_model.expr.TypeExpr.{TypeExpr}
use Rattle.il_base.specs.declared.world_model.record.AsmRec.{AsmRec}
use Rattle.rules.specs.declared.link_rules.row_at.RowAt.{RowAt}
use Rattle.rules.specs.link_rules.Members.{Found, found_in, bases_from, base_of, search}

module _ (recs : List AsmRec) (look : TypeExpr → Option RowAt) where
  -- what a type and its bases give, at most n
  abbrev pub found_from : ℕ → TypeExpr → Option Found
  found_from n e = search look (bases_from recs n e)

  pub found_here : (n i : ℕ) (e : TypeExpr) (at : RowAt) → i < n → look e ≡ Some at → found_from (n - i) e ≡ Some (found_in e at)
  unfolding search bases_from
  found_here n i e at h l = let z : n - i ≡ suc (n - (i + 1)) = omega arith in rw (z, l) refl

  pub found_next : (n i : ℕ) (e b : TypeExpr) → i < n → look e ≡ None → base_of recs e ≡ Some b → found_from (n - i) e ≡ found_from (n - (i + 1)) b
  unfolding search bases_from
  found_next n i e b h l s = let z : n - i ≡ suc (n - (i + 1)) = omega arith in rw (z, l, s) refl

  pub found_last : (n i : ℕ) (e : TypeExpr) → i < n → look e ≡ None → base_of recs e ≡ None → found_from (n - i) e ≡ None
  unfolding search bases_from
  found_last n i e h l s = let z : n - i ≡ suc (n - (i + 1)) = omega arith in rw (z, l, s) refl

  pub found_none : (n i : ℕ) (e : TypeExpr) → n ≤ i → found_from (n - i) e ≡ None
  unfolding search bases_from
  found_none n i e h = let z : n - i ≡ 0 = omega arith in rw z refl
