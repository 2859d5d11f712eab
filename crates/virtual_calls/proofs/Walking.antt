-- A walk from a type through its bases, one type at a time.
use Rattle.std.proofs.Common.{◌≡◌, ℕ, suc, ◌+◌, ◌-◌, ◌<◌, ◌≤◌, List, Bool, true, false, Option, Some, None, refl, sym, ap, ◌∙◌, arith}
use Rattle.std.specs.List.{list_any}
use Rattle.il_base.specs.declared.world_model.expr.TypeExpr.{TypeExpr}
use Rattle.il_base.specs.declared.world_model.record.AsmRec.{AsmRec}
use Rattle.rules.specs.link_rules.Members.{bases_from, base_of, type_count, with_bases}
use Rattle.rules.specs.type_rules.Slots.{nearest}

module _ {A : Type 0} (recs : List AsmRec) (look : TypeExpr → Option A) where
  -- what a type and its bases give, at most n
  abbrev pub nearest_from : ℕ → TypeExpr → Option A
  nearest_from n e = nearest look (bases_from recs n e)

  here : (n i : ℕ) (e : TypeExpr) (x : A) → i < n → look e ≡ Some x → nearest_from (n - i) e ≡ Some x
  unfolding nearest bases_from
  here n i e x h l = let z : n - i ≡ suc (n - (i + 1)) = omega arith in rw (z, l) refl

  next : (n i : ℕ) (e b : TypeExpr) → i < n → look e ≡ None → base_of recs e ≡ Some b → nearest_from (n - i) e ≡ nearest_from (n - (i + 1)) b
  unfolding nearest bases_from
  next n i e b h l s = let z : n - i ≡ suc (n - (i + 1)) = omega arith in rw (z, l, s) refl

  last : (n i : ℕ) (e : TypeExpr) → i < n → look e ≡ None → base_of recs e ≡ None → nearest_from (n - i) e ≡ None
  unfolding nearest bases_from
  last n i e h l s = let z : n - i ≡ suc (n - (i + 1)) = omega arith in rw (z, l, s) refl

  none : (n i : ℕ) (e : TypeExpr) → n ≤ i → nearest_from (n - i) e ≡ None
  unfolding nearest bases_from
  none n i e h = let z : n - i ≡ 0 = omega arith in rw z refl

  -- ---- the exits and the step of a loop over n types, at the place i and the type e, which began at a type

  module _ (n i : ℕ) (e start : TypeExpr) (count : n ≡ type_count recs) (kept : nearest_from (n - i) e ≡ nearest_from n start) where
    all : nearest_from n start ≡ nearest look (with_bases recs start)
    all = ap (λ (k : ℕ). nearest_from k start) count

    pub walk_here : (x : A) → i < n → look e ≡ Some x → Some x ≡ nearest look (with_bases recs start)
    walk_here x h l = sym (here n i e x h l) ∙ kept ∙ all

    pub walk_last : i < n → look e ≡ None → base_of recs e ≡ None → None ≡ nearest look (with_bases recs start)
    walk_last h l s = sym (last n i e h l s) ∙ kept ∙ all

    pub walk_none : n ≤ i → None ≡ nearest look (with_bases recs start)
    walk_none h = sym (none n i e h) ∙ kept ∙ all

  pub walk_next : (n i : ℕ) (e b start : TypeExpr) → nearest_from (n - i) e ≡ nearest_from n start → i < n → look e ≡ None → base_of recs e ≡ Some b
      → nearest_from (n - (i + 1)) b ≡ nearest_from n start
  walk_next n i e b start kept h l s = sym (next n i e b h l s) ∙ kept

-- ---- a test in place of a look

module _ (recs : List AsmRec) (test : TypeExpr → Bool) where
  -- whether a type or one of its bases passes, at most n
  abbrev pub any_from : ℕ → TypeExpr → Bool
  any_from n e = list_any test (bases_from recs n e)

  pass_here : (n i : ℕ) (e : TypeExpr) → i < n → test e ≡ true → any_from (n - i) e ≡ true
  unfolding bases_from
  pass_here n i e h l = let z : n - i ≡ suc (n - (i + 1)) = omega arith in rw (z, l) refl

  pass_next : (n i : ℕ) (e b : TypeExpr) → i < n → test e ≡ false → base_of recs e ≡ Some b → any_from (n - i) e ≡ any_from (n - (i + 1)) b
  unfolding bases_from
  pass_next n i e b h l s = let z : n - i ≡ suc (n - (i + 1)) = omega arith in rw (z, l, s) refl

  pass_last : (n i : ℕ) (e : TypeExpr) → i < n → test e ≡ false → base_of recs e ≡ None → any_from (n - i) e ≡ false
  unfolding bases_from
  pass_last n i e h l s = let z : n - i ≡ suc (n - (i + 1)) = omega arith in rw (z, l, s) refl

  pass_none : (n i : ℕ) (e : TypeExpr) → n ≤ i → any_from (n - i) e ≡ false
  unfolding bases_from
  pass_none n i e h = let z : n - i ≡ 0 = omega arith in rw z refl

  module _ (n i : ℕ) (e start : TypeExpr) (count : n ≡ type_count recs) (kept : any_from (n - i) e ≡ any_from n start) where
    all_any : any_from n start ≡ list_any test (with_bases recs start)
    all_any = ap (λ (k : ℕ). any_from k start) count

    pub any_here : i < n → test e ≡ true → true ≡ list_any test (with_bases recs start)
    any_here h l = sym (pass_here n i e h l) ∙ kept ∙ all_any

    pub any_last : i < n → test e ≡ false → base_of recs e ≡ None → false ≡ list_any test (with_bases recs start)
    any_last h l s = sym (pass_last n i e h l s) ∙ kept ∙ all_any

    pub any_none : n ≤ i → false ≡ list_any test (with_bases recs start)
    any_none h = sym (pass_none n i e h) ∙ kept ∙ all_any

  pub any_next : (n i : ℕ) (e b start : TypeExpr) → any_from (n - i) e ≡ any_from n start → i < n → test e ≡ false → base_of recs e ≡ Some b
      → any_from (n - (i + 1)) b ≡ any_from n start
  any_next n i e b start kept h l s = sym (pass_next n i e b h l s) ∙ kept
