-- Where nothing leads to itself, a walk is no longer than there are items.
use Rattle.std.proofs.Common.{◌≡◌, ℕ, zero, suc, ◌<◌, ◌≤◌, true, false, List, [], ◌∷◌, length, map, inl, inr, refl, sym, ap, subst, ◌∙◌, arith}
use Rattle.std.specs.Prelude.{◌==◌, nat_eq}
use Rattle.std.specs.List.{list_any, IsDistinct, AllByRecursion}
use Rattle.std.proofs.lemmas.Bool.{ne_eqb}
use Rattle.std.proofs.lemmas.Bool.Decides.{Decides-eqb}
use Rattle.std.proofs.lemmas.Map.Keys.{IsDistinct-cons}
use Rattle.std.proofs.lemmas.Map.Steps.{length-le_from_distinct_below}
use Rattle.base_laws.proofs.lemmas.type_laws.Within.{In, in_any, in_map}
use Rattle.base_laws.proofs.lemmas.type_laws.Reaching.{Leads, Walks}

all_from : {A : Type 0} (P : A → Type 0) (xs : List A) → ((x : A) → In x xs → P x) → AllByRecursion P xs
all_from P [] h = tt
all_from P (x ∷ xs) h = (h x (inl refl), all_from P xs (λ y i. h y (inr i)))

none_distinct : IsDistinct nat_eq []
unfolding IsDistinct
none_distinct = tt

module _ {A : Type 0} (next : A → List A) (P : A → Type 0) (number : A → ℕ) (most : ℕ) (stay : (x y : A) → P x → In y (next x) → P y) (below : (x : A) → P x → number x < most)
    (one : (x y : A) → P x → P y → number x ≡ number y → x ≡ y) (never : (k : ℕ) (x : A) → P x → k ≤ most → Leads next (suc k) x x → ⊥) where
  -- the items of a walk
  abbrev items : (n : ℕ) (x : A) → Walks next n x → List A
  items zero x w = x ∷ []
  items (suc n) x w = x ∷ items n w.0 w.2

  record Met (n : ℕ) (x y : A) : Type 0 where
    steps : ℕ
    within : steps ≤ n
    is : P y
    leads : Leads next steps x y

  met : (n : ℕ) (x : A) (p : P x) (w : Walks next n x) (y : A) → In y (items n x w) → Met n x y
  met zero x p w y (inl e) = record { steps = 0; within = omega arith; is = subst P (sym e) p; leads = sym e }
  met zero x p w y (inr h) = absurd h
  met (suc n) x p w y (inl e) = record { steps = 0; within = omega arith; is = subst P (sym e) p; leads = sym e }
  met (suc n) x p w y (inr h) =
      let m = met n w.0 (stay x w.0 p w.1) w.2 y h in
      let le = m.within in
      record { steps = suc m.steps; within = omega arith; is = m.is; leads = (w.0, w.1, m.leads) }

  abbrev numbers : (n : ℕ) (x : A) → Walks next n x → List ℕ
  numbers n x w = map number (items n x w)

  later : (n : ℕ) (x : A) (p : P x) (w : Walks next (suc n) x) → n ≤ most → (k : ℕ) → In k (numbers n w.0 w.2) → (number x == k) ≡ false
  later n x p w le k h =
      let i = in_map number k (items n w.0 w.2) h in
      let m = met n w.0 (stay x w.0 p w.1) w.2 i.0 i.1 in
      let l = m.within in
      ne_eqb (number x) k (λ e.
      let same : x ≡ i.0 = one x i.0 p m.is (e ∙ i.2) in
      never m.steps x p (omega arith) (w.0, w.1, subst (λ (y : A). Leads next m.steps w.0 y) (sym same) m.leads))

  distinct : (n : ℕ) (x : A) (p : P x) (w : Walks next n x) → n ≤ suc most → IsDistinct nat_eq (numbers n x w)
  distinct zero x p w le = IsDistinct-cons nat_eq (number x) [] (all_from (λ (y : ℕ). (number x == y) ≡ false) [] (λ y i. absurd i)) none_distinct
  distinct (suc n) x p w le =
      IsDistinct-cons nat_eq (number x) (numbers n w.0 w.2)
      (all_from (λ (y : ℕ). (number x == y) ≡ false) (numbers n w.0 w.2) (later n x p w (omega arith))) (distinct n w.0 (stay x w.0 p w.1) w.2 (omega arith))

  long : (n : ℕ) (x : A) (w : Walks next n x) → length (numbers n x w) ≡ suc n
  long zero x w = refl
  long (suc n) x w = ap suc (long n w.0 w.2)

  all_below : (n : ℕ) (x : A) (p : P x) (w : Walks next n x) (k : ℕ) → list_any (nat_eq k) (numbers n x w) ≡ true → k < most
  all_below n x p w k e =
      let i = in_map number k (items n x w) (in_any nat_eq Decides-eqb k (map number (items n x w)) e) in
      let lt : number i.0 < most = below i.0 (met n x p w i.0 i.1).is in
      omega (arith, i.2)

  pub no_walk : (x : A) → P x → Walks next most x → ⊥
  no_walk x p w =
      let le = length-le_from_distinct_below (numbers most x w) most (distinct most x p w (omega arith)) (all_below most x p w) in
      let l = long most x w in
      omega arith
