-- From a round in one graph to a round in another, where each step of the one is a step of the other; and where nothing leads to itself
-- in few steps, nothing does in many.
use Rattle.std.proofs.Common.{◌≡◌, ◌<◌, ◌≤◌, ℕ, zero, suc, List, Bool, true, refl, sym, subst}
use Rattle.std.specs.List.{filter}
use Rattle.base_laws.proofs.lemmas.type_laws.Within.{In, in_filter}
use Rattle.base_laws.proofs.lemmas.type_laws.Reaching.{Leads, Walks}
use Rattle.base_laws.proofs.lemmas.type_laws.Bounded.{no_walk}

-- ---- from one graph to another

module _ {A B : Type 0} (next : A → List A) (other : B → List B) (Stands : A → B → Type 0) (step : (x : A) (y : B) → Stands x y → (z : B) → In z (other y) → (w : A) × In w (next x) × Stands w z) where
  pub back : (k : ℕ) (x : A) (y z : B) → Stands x y → Leads other k y z → (w : A) × Leads next k x w × Stands w z
  back zero x y z s l = (x, refl, subst (Stands x) l s)
  back (suc k) x y z s l =
      let t = step x y s l.0 l.1 in
      let r = back k t.0 l.0 z t.2 l.2 in
      (r.0, (t.0, t.1, r.1), r.2)

-- ---- what leads to itself goes on for ever

module _ {A : Type 0} (next : A → List A) (x : A) (k : ℕ) (round : Leads next (suc k) x x) where
  goes_on : (n j : ℕ) (y : A) → Leads next j y x → Walks next n y
  goes_on zero j y l = tt
  goes_on (suc n) zero y l = subst (λ (z : A). Walks next (suc n) z) (sym l) (round.0, round.1, goes_on n k round.0 round.2)
  goes_on (suc n) (suc j) y l = (l.0, l.1, goes_on n j l.0 l.2)

-- ---- among kept items, of which each has a number

module _ {A : Type 0} (next : A → List A) (kept : A → Bool) where
  abbrev pub among : A → List A
  among x = filter kept (next x)

  pub all_lead : (k : ℕ) (x y : A) → Leads among k x y → Leads next k x y
  all_lead zero x y l = l
  all_lead (suc k) x y l = (l.0, (in_filter l.0 kept (next x) l.1).1, all_lead k l.0 y l.2)

  module _ (number : A → ℕ) (most : ℕ) (below : (x : A) → kept x ≡ true → number x < most) (one : (x y : A) → kept x ≡ true → kept y ≡ true → number x ≡ number y → x ≡ y)
      (never : (k : ℕ) (x : A) → kept x ≡ true → k ≤ most → Leads next (suc k) x x → ⊥) where
    pub no_round : (k : ℕ) (x : A) → kept x ≡ true → Leads among (suc k) x x → ⊥
    no_round k x h l =
        no_walk among (λ (y : A). kept y ≡ true) number most (λ y z p i. (in_filter z kept (next y) i).0) below one
        (λ n y p le r. never n y p le (all_lead (suc n) y y r)) x h (goes_on among x k l most 0 x refl)
