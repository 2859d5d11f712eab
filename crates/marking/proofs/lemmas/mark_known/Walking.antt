-- A walk from a type through its bases that lists what each gives.
use Rattle.std.proofs.Common.{◌≡◌, ℕ, suc, ◌+◌, ◌-◌, ◌<◌, ◌≤◌, List, [], ◌++◌, Some, None, refl, sym, ap, ◌∙◌, arith, append_assoc}
use Rattle.std.specs.List.{flat_map}
use Rattle.std.proofs.lemmas.List.{append-nil}
use Rattle.il_base.specs.declared.world_model.expr.TypeExpr.{TypeExpr}
use Rattle.il_base.specs.declared.world_model.record.AsmRec.{AsmRec}
use Rattle.rules.specs.link_rules.Members.{bases_from, base_of, type_count, with_bases}

module _ {A : Type 0} (recs : List AsmRec) (f : TypeExpr → List A) where
  -- what a type and its bases give, at most n
  abbrev pub listed_from : ℕ → TypeExpr → List A
  listed_from n e = flat_map f (bases_from recs n e)

  next : (n i : ℕ) (e b : TypeExpr) → i < n → base_of recs e ≡ Some b → listed_from (n - i) e ≡ f e ++ listed_from (n - (i + 1)) b
  unfolding bases_from
  next n i e b h s = let z : n - i ≡ suc (n - (i + 1)) = omega arith in rw (z, s) refl

  last : (n i : ℕ) (e : TypeExpr) → i < n → base_of recs e ≡ None → listed_from (n - i) e ≡ f e
  unfolding bases_from
  last n i e h s = let z : n - i ≡ suc (n - (i + 1)) = omega arith in rw (z, s) (append-nil (f e))

  none : (n i : ℕ) (e : TypeExpr) → n ≤ i → listed_from (n - i) e ≡ []
  unfolding bases_from
  none n i e h = let z : n - i ≡ 0 = omega arith in rw z refl

  -- ---- the exits and the step of a loop over n types, at the place i and the type e, which began at a type

  module _ (n i : ℕ) (e start : TypeExpr) (out : List A) (kept : out ++ listed_from (n - i) e ≡ listed_from n start) where
    pub list_next : (b : TypeExpr) → i < n → base_of recs e ≡ Some b → (out ++ f e) ++ listed_from (n - (i + 1)) b ≡ listed_from n start
    list_next b h s = append_assoc out (f e) (listed_from (n - (i + 1)) b) ∙ ap (λ (xs : List A). out ++ xs) (sym (next n i e b h s)) ∙ kept

    module _ (count : n ≡ type_count recs) where
      all : listed_from n start ≡ flat_map f (with_bases recs start)
      all = ap (λ (k : ℕ). listed_from k start) count

      pub list_last : i < n → base_of recs e ≡ None → out ++ f e ≡ flat_map f (with_bases recs start)
      list_last h s = ap (λ (xs : List A). out ++ xs) (sym (last n i e h s)) ∙ kept ∙ all

      pub list_end : n ≤ i → out ≡ flat_map f (with_bases recs start)
      list_end h = sym (append-nil out) ∙ ap (λ (xs : List A). out ++ xs) (sym (none n i e h)) ∙ kept ∙ all
