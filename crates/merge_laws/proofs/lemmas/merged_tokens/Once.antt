-- Places in lists whose items are written once.
use Rattle.std.proofs.Common.{◌≡◌, ◌<◌, ◌≤◌, ℕ, suc, ◌+◌, ◌-◌, List, [], ◌∷◌, ◌++◌, length, Bool, true, false, nat_lt, Some, inl, inr, ◌⊎◌, refl, sym, ap, subst, ◌∙◌, arith}
use Rattle.std.specs.Prelude.{position, ◌||◌, if◌then◌else◌}
use Rattle.std.specs.List.{Contains, filter, list_any}
use Rattle.std.specs.Option.{is_some}
use Rattle.std.proofs.lemmas.Bool.{or_left, or_right, ltb-false}
use Rattle.std.proofs.lemmas.List.Folds.{list_any-append}
use Rattle.std.proofs.lemmas.Iterator.Adapters.{position_from-zero}
use Rattle.il_base.specs.declared.world_model.record.AsmRec.{AsmRec}
use Rattle.il_base.specs.world_model.Worlds.{rows_before}
use Rattle.rules.specs.declared.link_rules.row_at.RowAt.{RowAt}
use Rattle.rules.specs.link_rules.Types.{at_row}
use Rattle.rules.specs.link_rules.Members.{home_from}
use Rattle.base_laws.proofs.lemmas.walk_laws.Finds.{finds}
use Rattle.std.proofs.lemmas.List.Elements.{Contains-append_cases}
use Rattle.base_laws.proofs.lemmas.known_laws.Lists.{none_in, first_in, later_in, one_is, head_or}
use Rattle.rules.specs.merge_rules.Refs.{met_once, all_once, each_once}
use Rattle.merge_laws.proofs.lemmas.merged_owners.Homes.{passing}

-- ---- each once

module _ {A : Type 0} (same : A → A → Bool) where
  any_if : (p : A → Bool) (xs : List A) (y : A) (b : Bool) → list_any p xs ≡ true → list_any p (if b then xs else xs ++ y ∷ []) ≡ true
  any_if p xs y true e = e
  any_if p xs y false e = list_any-append p xs (y ∷ []) ∙ or_left (list_any p xs) (list_any p (y ∷ [])) e

  any_stays : (p : A → Bool) (xs ys : List A) → list_any p xs ≡ true → list_any p (all_once same xs ys) ≡ true
  any_stays p xs [] e = e
  any_stays p xs (y ∷ ys) e = any_stays p (met_once same xs y) ys (any_if p xs y (list_any (same y) xs) e)

  last_if : (xs : List A) (y : A) (b : Bool) → list_any (same y) xs ≡ b → same y y ≡ true → list_any (same y) (if b then xs else xs ++ y ∷ []) ≡ true
  last_if xs y true f e = f
  last_if xs y false f e = list_any-append (same y) xs (y ∷ []) ∙ or_right (list_any (same y) xs) (same y y || false) (or_left (same y y) false e)

  any_by : (xs ys : List A) (x : A) → same x x ≡ true → Contains ys x → list_any (same x) (all_once same xs ys) ≡ true
  any_by xs [] x e c = absurd (none_in x c)
  any_by xs (y ∷ ys) x e c =
      elim (head_or y ys x c) [
        | inl f ↦ subst (λ (z : A). list_any (same x) (all_once same (met_once same xs z) ys) ≡ true) (sym f) (any_stays (same x) (met_once same xs x) ys (last_if xs x (list_any (same x) xs) refl e))
        | inr d ↦ any_by (met_once same xs y) ys x e d
      ]

  -- an item that was met is there
  pub any_once : (ys : List A) (x : A) → same x x ≡ true → Contains ys x → list_any (same x) (each_once same ys) ≡ true
  any_once ys x e c = any_by [] ys x e c

  -- an item that is there was met
  once_by : (xs : List A) (y x : A) (b : Bool) → Contains (if b then xs else xs ++ y ∷ []) x → Contains xs x ⊎ (y ≡ x)
  once_by xs y x true c = inl c
  once_by xs y x false c = elim (Contains-append_cases xs (y ∷ []) x c) [ inl d ↦ inl d | inr d ↦ inr (one_is y x d) ]

  from_all_once : (xs ys : List A) (x : A) → Contains (all_once same xs ys) x → Contains xs x ⊎ Contains ys x
  from_all_once xs [] x c = inl c
  from_all_once xs (y ∷ ys) x c =
      elim (from_all_once (met_once same xs y) ys x c) [
        | inl d ↦ elim (once_by xs y x (list_any (same y) xs) d) [ inl f ↦ inl f | inr e ↦ inr (subst (λ (z : A). Contains (y ∷ ys) z) e (first_in y ys)) ]
        | inr d ↦ inr (later_in y ys x d)
      ]

  pub from_once : (ys : List A) (x : A) → Contains (each_once same ys) x → Contains ys x
  from_once ys x c = elim (from_all_once [] ys x c) [ inl d ↦ absurd (none_in x d) | inr d ↦ d ]

pub any_position : {A : Type 0} (p : A → Bool) (xs : List A) → list_any p xs ≡ true → is_some (position p xs) ≡ true
any_position p xs h =
    let f = passing p xs h in
    let g = finds p 0 xs f.place f.item f.there f.passes in
    ap is_some (position_from-zero p xs ∙ g.1)

-- ---- what passes a test

filter_by : {A : Type 0} (p : A → Bool) (y : A) (xs : List A) (x : A) (b : Bool) → p y ≡ b → (y ≡ x) ⊎ Contains (filter p xs) x → p x ≡ true → Contains (if b then y ∷ filter p xs else filter p xs) x
filter_by {A} p y xs x true e (inl s) h = subst (λ (z : A). Contains (y ∷ filter p xs) z) s (first_in y (filter p xs))
filter_by p y xs x true e (inr t) h = later_in y (filter p xs) x t
filter_by p y xs x false e (inl s) h = absurd (let g : p y ≡ p x = ap p s in cc)
filter_by p y xs x false e (inr t) h = t

pub to_filter : {A : Type 0} (p : A → Bool) (xs : List A) (x : A) → Contains xs x → p x ≡ true → Contains (filter p xs) x
to_filter p [] x c h = absurd (none_in x c)
to_filter p (y ∷ xs) x c h = filter_by p y xs x (p y) refl (elim (head_or y xs x c) [ inl e ↦ inl e | inr t ↦ inr (to_filter p xs x t h) ]) h

-- ---- a number of a row

module _ (count : AsmRec → ℕ) where
  home_by : (r : AsmRec) (recs : List AsmRec) (i n : ℕ) (b : Bool) → nat_lt n (count r) ≡ b → n < count r + rows_before count recs (length recs)
      → (n - count r < rows_before count recs (length recs) → (at : RowAt) × (home_from count (suc i) recs (n - count r) ≡ Some at))
      → (at : RowAt) × ((if b then Some (at_row i n) else home_from count (suc i) recs (n - count r)) ≡ Some at)
  home_by r recs i n true e lt more = (at_row i n, refl)
  home_by r recs i n false e lt more = let ge : count r ≤ n = ltb-false n (count r) e in more (omega arith)

  pub below_home : (recs : List AsmRec) (i n : ℕ) → n < rows_before count recs (length recs) → (at : RowAt) × (home_from count i recs n ≡ Some at)
  unfolding home_from rows_before
  below_home [] i n lt = absurd (omega arith)
  below_home (r ∷ recs) i n lt = home_by r recs i n (nat_lt n (count r)) refl lt (below_home recs (suc i) (n - count r))
