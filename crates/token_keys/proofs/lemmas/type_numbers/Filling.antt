-- One row more in a map of numbers.
use Rattle.std.proofs.Common.{◌≡◌, ℕ, zero, suc, ◌+◌, ◌/◌, ◌%◌, ◌<◌, ◌≤◌, Bool, true, false, nat_eq, Option, Some, None, refl, sym, ap, ◌∙◌, arith, rules}
use Rattle.std.specs.Prelude.{nat_lt, ◌==◌, if◌then◌else◌}
use Rattle.std.specs.Option.{is_some}
use Rattle.std.proofs.lemmas.Bool.{eqb-true, eq-eqb, lt-ltb, le-ltb}
use Rattle.il_base.specs.world_model.Tokens.{token_of, index_from, index_in}
use Rattle.il_base.specs.world_model.Worlds.{row_below}
use Rattle.token_keys.specs.absent_types.Rows.{NamesRow}
use Rattle.token_keys.specs.type_numbers.Filled.{covers}

-- ---- tokens by their rows

place_by : (table t k row : ℕ) (b : Bool) → (t / 16777216 == table) ≡ b → t % 16777216 ≡ row → (if b then index_from row else None) ≡ Some k → t ≡ token_of table (suc k)
place_by table t k zero true e f h = cc
place_by table t k (suc row) true e f h =
    let g : row ≡ k = cc in
    let q : t / 16777216 ≡ table = eqb-true (t / 16777216) table e in
    omega arith
place_by table t k row false e f h = cc

place_of : (table t k : ℕ) → index_in table t ≡ Some k → t ≡ token_of table (suc k)
place_of table t k h = place_by table t k (t % 16777216) (t / 16777216 == table) refl refl h

-- ---- rows below a count

below_here : (k : ℕ) → nat_lt k (k + 1) ≡ true
below_here k = lt-ltb k (k + 1) (omega arith)

below_by : (i k : ℕ) (b : Bool) → nat_lt i k ≡ b → (i ≡ k → ⊥) → nat_lt i (k + 1) ≡ nat_lt i k
below_by i k true e ne = let lt : i < k = search rules in lt-ltb i (k + 1) (omega arith) ∙ sym e
below_by i k false e ne = let ge : k ≤ i = search rules in le-ltb i (k + 1) (omega arith) ∙ sym e

-- ---- one row more

module _ (table k token : ℕ) (names : NamesRow table k token) where
  other_row : (q : ℕ) → nat_eq token q ≡ false → (o : Option ℕ) → index_in table q ≡ o → is_some (row_below (k + 1) o) ≡ is_some (row_below k o)
  other_row q e None f = refl
  other_row q e (Some i) f =
      let no : i ≡ k → ⊥ =
      λ same. let t : token ≡ q = names.is ∙ ap (λ (n : ℕ). token_of table (suc n)) (sym same) ∙ sym (place_of table q i f) in
      let yes : nat_eq token q ≡ true = eq-eqb token q t in
      let clash : true ≡ false = sym yes ∙ e in absurd (true_is_not clash) in
      ap (λ (b : Bool). is_some (if b then Some i else None)) (below_by i k (nat_lt i k) refl no)
    where
      true_is_not : true ≡ false → ⊥
      true_is_not h = cc

  this_row : (q : ℕ) → token ≡ q → covers table (k + 1) q ≡ true
  this_row q e =
      ap (λ (t : ℕ). is_some (row_below (k + 1) (index_in table t))) (sym e) ∙ ap (λ (o : Option ℕ). is_some (row_below (k + 1) o)) names.index_is
      ∙ ap (λ (b : Bool). is_some (if b then Some k else None)) (below_here k)

  -- where all tokens below have their numbers, and then this one gets its own
  filled_by : (f old : ℕ → ℕ) (q : ℕ) (b : Bool) → nat_eq token q ≡ b → (if b then f token else (if covers table k q then f q else old q)) ≡ (if covers table (k + 1) q then f q else old q)
  filled_by f old q true e = let same : token ≡ q = eqb-true token q e in rw (this_row q same) (ap f same)
  filled_by f old q false e = ap (λ (b : Bool). if b then f q else old q) (sym (other_row q e (index_in table q) refl))

  pub filled_more : (f before mid after : ℕ → ℕ) (number : ℕ) → number ≡ f token → ((q : ℕ) → mid q ≡ (if covers table k q then f q else before q)) → ((q : ℕ) → after q ≡ (if nat_eq token q then number else mid q))
      → (q : ℕ) → after q ≡ (if covers table (k + 1) q then f q else before q)
  filled_more f before mid after number is kept set q =
      set q ∙ (λ i. if nat_eq token q then is i else kept q i) ∙ filled_by f before q (nat_eq token q) refl

none_below : (o : Option ℕ) → is_some (row_below 0 o) ≡ false
none_below None = refl
none_below (Some i) = ap (λ (b : Bool). is_some (if b then Some i else None)) (le-ltb i 0 (omega arith))

pub filled_none : (f before : ℕ → ℕ) (table q : ℕ) → before q ≡ (if covers table 0 q then f q else before q)
filled_none f before table q = rw (none_below (index_in table q)) refl
