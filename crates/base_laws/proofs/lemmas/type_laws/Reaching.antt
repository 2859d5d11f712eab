-- What an item leads to, step by step.
use Rattle.std.proofs.Common.{◌≡◌, ℕ, zero, suc, ◌≤◌, Bool, true, List, ◌⊎◌, inl, inr, refl, subst, arith}
use Rattle.std.specs.Bool.{Decides}
use Rattle.std.specs.List.{flat_map}
use Rattle.rules.specs.link_rules.Cycles.{add_all, led_to, is_on_cycle}
use Rattle.base_laws.proofs.lemmas.type_laws.Within.{In, any_in, in_kept, in_added, added_from, in_flat, flat_in}

-- in so many steps
abbrev pub Leads : {A : Type 0} → (A → List A) → ℕ → A → A → Type 0
Leads next zero x y = x ≡ y
Leads {A} next (suc n) x y = (z : A) × In z (next x) × Leads next n z y

-- to something in so many steps
abbrev pub Walks : {A : Type 0} → (A → List A) → ℕ → A → Type 0
Walks next zero x = Unit {0}
Walks {A} next (suc n) x = (z : A) × In z (next x) × Walks next n z

module _ {A : Type 0} (next : A → List A) where
  pub walks : (n k : ℕ) (x y : A) → n ≤ k → Leads next k x y → Walks next n x
  walks zero k x y le l = tt
  walks (suc n) zero x y le l = absurd (omega arith)
  walks (suc n) (suc k) x y le l = (l.0, l.1, walks n k l.0 y (omega arith) l.2)

module _ {A : Type 0} (same : A → A → Bool) (decides : (x y : A) → Decides (same x y) (x ≡ y)) (next : A → List A) where
  -- what is led to in at most n steps is found in n rounds
  pub found : (n k : ℕ) (x y : A) (xs : List A) → k ≤ n → In x xs → Leads next k x y → In y (led_to same next n xs)
  unfolding led_to
  found zero zero x y xs le h l = subst (λ (z : A). In z xs) l h
  found zero (suc k) x y xs le h l = absurd (omega arith)
  found (suc n) zero x y xs le h l = found n zero x y (add_all same xs (flat_map next xs)) (omega arith) (in_kept same decides x xs (flat_map next xs) h) l
  found (suc n) (suc k) x y xs le h l =
      found n k l.0 y (add_all same xs (flat_map next xs)) (omega arith) (in_added same decides l.0 xs (flat_map next xs) (flat_in next l.0 x xs h l.1)) l.2

  pub record Led (xs : List A) (y : A) : Type 0 where
    pub from : A
    pub is : In from xs
    pub steps : ℕ
    pub leads : Leads next steps from y

  led_by : (xs : List A) (z y : A) (k : ℕ) → Leads next k z y → In z xs ⊎ In z (flat_map next xs) → Led xs y
  led_by xs z y k l (inl h) = record { from = z; is = h; steps = k; leads = l }
  led_by xs z y k l (inr h) = let f = in_flat next z xs h in record { from = f.0; is = f.1; steps = suc k; leads = (z, f.2, l) }

  -- what is found is led to
  pub led : (n : ℕ) (xs : List A) (y : A) → In y (led_to same next n xs) → Led xs y
  unfolding led_to
  led zero xs y h = record { from = y; is = h; steps = 0; leads = refl }
  led (suc n) xs y h =
      let l = led n (add_all same xs (flat_map next xs)) y h in
      led_by xs l.from y l.steps l.leads (added_from same decides l.from xs (flat_map next xs) l.is)

  -- what leads to itself is on a cycle
  pub cyclic : (n k : ℕ) (x : A) → k ≤ n → Leads next (suc k) x x → is_on_cycle same next n x ≡ true
  unfolding is_on_cycle
  cyclic n k x le l = any_in same decides x (led_to same next n (next x)) (found n k l.0 x (next x) le l.1 l.2)
