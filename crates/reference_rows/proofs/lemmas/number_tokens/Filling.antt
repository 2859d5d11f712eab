-- One number more in a map of tokens, and the numbers that are in none.
use Rattle.std.proofs.Common.{◌≡◌, ℕ, zero, suc, ◌+◌, ◌<◌, ◌≤◌, List, [], ◌∷◌, length, take, get_or, Bool, true, false, cond, nat_eq, Some, None, refl, sym, ap, ◌∙◌, arith, rules}
use Rattle.std.specs.Prelude.{nat_lt, position, ◌||◌, if◌then◌else◌}
use Rattle.std.specs.List.{position_from}
use Rattle.std.proofs.lemmas.Bool.{eqb-true, eqb-false, ne_eqb, eq-eqb, lt-ltb, le-ltb}
use Rattle.std.proofs.lemmas.List.Folds.{list_any_more}
use Rattle.std.proofs.lemmas.Iterator.Adapters.{position_from-zero}
use Rattle.il_base.specs.declared.ids.TypeId.{TypeId}
use Rattle.rules.specs.merge_rules.Refs.{same_id}
use Rattle.reference_rows.specs.number_tokens.Numbers.{is_below, has_number, is_among}

-- ---- one number

module _ (f : ℕ → ℕ) where
  chosen : (n q old : ℕ) (b : Bool) → nat_eq n q ≡ b → (if b then f n else old) ≡ (if b then f q else old)
  chosen n q old true e = ap f (eqb-true n q e)
  chosen n q old false e = refl

  pub set_is : (before after : ℕ → ℕ) (n number token : ℕ) → number ≡ n → token ≡ f n → ((q : ℕ) → after q ≡ (if nat_eq number q then token else before q))
      → (q : ℕ) → after q ≡ (if nat_eq n q then f q else before q)
  set_is before after n number token is has set q =
      set q ∙ (λ i. if nat_eq (is i) q then has i else before q) ∙ chosen n q (before q) (nat_eq n q) refl

  -- one test more
  joined : (p r s : Bool) (new old : ℕ) → s ≡ (p || r) → (if r then new else (if p then new else old)) ≡ (if s then new else old)
  joined true true s new old e = rw e refl
  joined true false s new old e = rw e refl
  joined false true s new old e = rw e refl
  joined false false s new old e = rw e refl

  more : (before mid after : ℕ → ℕ) (p r s : ℕ → Bool) → ((q : ℕ) → s q ≡ (p q || r q)) → ((q : ℕ) → mid q ≡ (if p q then f q else before q))
      → ((q : ℕ) → after q ≡ (if r q then f q else mid q)) → (q : ℕ) → after q ≡ (if s q then f q else before q)
  more before mid after p r s or kept set q =
      set q ∙ ap (λ (n : ℕ). if r q then f q else n) (kept q) ∙ joined (p q) (r q) (s q) (f q) (before q) (or q)

-- ---- the first types of the world

below_other : (k j : ℕ) (b : Bool) → nat_lt j k ≡ b → (k ≡ j → ⊥) → nat_lt j (k + 1) ≡ (b || false)
below_other k j true e ne = let lt : j < k = search rules in lt-ltb j (k + 1) (omega arith)
below_other k j false e ne = let ge : k ≤ j = search rules in le-ltb j (k + 1) (omega arith)

below_by : (k j : ℕ) (b : Bool) → nat_eq (suc k) (suc j) ≡ b → nat_lt j (k + 1) ≡ (nat_lt j k || b)
below_by k j true e =
    let same : suc k ≡ suc j = eqb-true (suc k) (suc j) e in lt-ltb j (k + 1) (omega arith) ∙ sym (ap (λ (b : Bool). b || true) (le-ltb j k (omega arith)))
below_by k j false e = let ne : suc k ≡ suc j → ⊥ = eqb-false (suc k) (suc j) e in below_other k j (nat_lt j k) refl (λ same. ne (ap suc same))

below_more : (k q : ℕ) → is_below (k + 1) q ≡ (is_below k q || nat_eq (suc k) q)
below_more k zero = sym (ne_eqb (suc k) 0 (omega arith))
below_more k (suc j) = below_by k j (nat_eq (suc k) (suc j)) refl

pub below_none : (f before : ℕ → ℕ) (q : ℕ) → before q ≡ (if is_below 0 q then f q else before q)
below_none f before zero = refl
below_none f before (suc k) = ap (λ (b : Bool). if b then f (suc k) else before (suc k)) (sym (le-ltb k 0 (omega arith)))

pub filled_below : (f before mid after : ℕ → ℕ) (k : ℕ) → ((q : ℕ) → mid q ≡ (if is_below k q then f q else before q)) → ((q : ℕ) → after q ≡ (if nat_eq (suc k) q then f q else mid q))
    → (q : ℕ) → after q ≡ (if is_below (k + 1) q then f q else before q)
filled_below f before mid after k kept set =
    more f before mid after (is_below k) (λ q. nat_eq (suc k) q) (is_below (k + 1)) (below_more k) kept set

-- ---- types of a list

pub filled_with : (f before mid after : ℕ → ℕ) (ids : List TypeId) (i : ℕ) (d : TypeId) → i < length ids → ((q : ℕ) → mid q ≡ (if is_among (take i ids) q then f q else before q))
    → ((q : ℕ) → after q ≡ (if nat_eq (suc (get_or ids i d).0) q then f q else mid q)) → (q : ℕ) → after q ≡ (if is_among (take (i + 1) ids) q then f q else before q)
filled_with f before mid after ids i d below kept set =
    more f before mid after (is_among (take i ids)) (λ q. has_number q (get_or ids i d)) (is_among (take (i + 1) ids)) (λ q. list_any_more (has_number q) ids i d below) kept set

-- ---- the others

apart : (t u : ℕ) (b : Bool) → nat_eq t u ≡ b → nat_eq (suc u) (suc t) ≡ false → b ≡ false
apart t u true e f = let same : t ≡ u = eqb-true t u e in let yes : nat_eq (suc u) (suc t) ≡ true = eq-eqb (suc u) (suc t) (ap suc (sym same)) in let clash : true ≡ false = sym yes ∙ f in cc
apart t u false e f = refl

none_of : (p q : Bool) → (p || q) ≡ false → (p ≡ false) × (q ≡ false)
none_of true q e = let clash : true ≡ false = e in cc
none_of false q e = (refl, e)

not_from : (t : TypeId) (k : ℕ) (ids : List TypeId) → is_among ids (suc t.0) ≡ false → position_from (same_id t) k ids ≡ None
not_from t k [] e = refl
not_from t k (u ∷ ids) e =
    let parts : (has_number (suc t.0) u ≡ false) × (is_among ids (suc t.0) ≡ false) = none_of (has_number (suc t.0) u) (is_among ids (suc t.0)) e in
    let here : same_id t u ≡ false = apart t.0 u.0 (same_id t u) refl parts.0 in
    ap (λ (b : Bool). cond b (Some k) (position_from (same_id t) (k + 1) ids)) here ∙ not_from t (k + 1) ids parts.1

pub no_place : (t : TypeId) (ids : List TypeId) → is_among ids (suc t.0) ≡ false → position (same_id t) ids ≡ None
no_place t ids e = position_from-zero (same_id t) ids ∙ not_from t 0 ids e

-- ---- all numbers

one_by : (number : ℕ) (b d : Bool) → (b ≡ false → d ≡ false → number ≡ 0) → (if d then number else (if b then number else 0)) ≡ number
one_by number b true none = refl
one_by number true false none = refl
one_by number false false none = sym (none refl refl)

pub whole : (f empty mid after : ℕ → ℕ) (count : ℕ) (ids : List TypeId) → ((q : ℕ) → empty q ≡ 0) → ((q : ℕ) → mid q ≡ (if is_below count q then f q else empty q))
    → ((q : ℕ) → after q ≡ (if is_among ids q then f q else mid q)) → ((q : ℕ) → is_below count q ≡ false → is_among ids q ≡ false → f q ≡ 0) → (q : ℕ) → after q ≡ f q
whole f empty mid after count ids none first second zeros q =
    second q
    ∙ ap (λ (n : ℕ). if is_among ids q then f q else n) (first q ∙ ap (λ (n : ℕ). if is_below count q then f q else n) (none q))
    ∙ one_by (f q) (is_below count q) (is_among ids q) (zeros q)
