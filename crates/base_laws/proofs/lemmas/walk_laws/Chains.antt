-- Walks over any items.
use Rattle.std.proofs.Common.{◌≡◌, ℕ, zero, suc, ◌+◌, ◌≤◌, Bool, List, [], ◌∷◌, ◌++◌, inl, inr, refl, sym, ap, subst, ◌∙◌, arith}
use Rattle.std.specs.Prelude.{if◌then◌else◌}
use Rattle.std.specs.Bool.{Decides}
use Rattle.std.specs.List.{flat_map}
use Rattle.rules.specs.link_rules.Cycles.{add_new, add_all, led_to}
use Rattle.base_laws.proofs.lemmas.type_laws.Within.{In, any_in, in_flat}
use Rattle.base_laws.proofs.lemmas.type_laws.Reaching.{Leads, Walks}

module _ {A : Type 0} (next : A → List A) where
  pub shorter : (n k : ℕ) (x : A) → n ≤ k → Walks next k x → Walks next n x
  shorter zero k x le w = tt
  shorter (suc n) zero x le w = absurd (omega arith)
  shorter (suc n) (suc k) x le w = (w.0, w.1, shorter n k w.0 (omega arith) w.2)

  pub one_further : (k : ℕ) (x y z : A) → Leads next k x y → In z (next y) → Leads next (suc k) x z
  one_further zero x y z l h = (z, subst (λ (a : A). In z (next a)) (sym l) h, refl)
  one_further (suc k) x y z l h = (l.0, l.1, one_further k l.0 y z l.2 h)

  pub joined : (j k : ℕ) (x y z : A) → Leads next j x y → Leads next k y z → Leads next (j + k) x z
  joined zero k x y z l m = let e : 0 + k ≡ k = omega arith in subst (λ (n : ℕ). Leads next n x z) (sym e) (subst (λ (a : A). Leads next k a z) (sym l) m)
  joined (suc j) k x y z l m = let e : suc j + k ≡ suc (j + k) = omega arith in subst (λ (n : ℕ). Leads next n x z) (sym e) (l.0, l.1, joined j k l.0 y z l.2 m)

-- by one graph and so by one that has more
pub raised : {A : Type 0} (next more : A → List A) → ((x y : A) → In y (next x) → In y (more x)) → (n : ℕ) (x y : A) → Leads next n x y → Leads more n x y
raised next more to zero x y l = l
raised next more to (suc n) x y l = (l.0, to x l.0 l.1, raised next more to n l.0 y l.2)

-- ---- what is led to grows no more once it leads to nothing else

module _ {A : Type 0} (same : A → A → Bool) (decides : (x y : A) → Decides (same x y) (x ≡ y)) (next : A → List A) where
  new_here : (xs : List A) (y : A) → In y xs → add_new same xs y ≡ xs
  new_here xs y h = ap (λ (b : Bool). if b then xs else xs ++ y ∷ []) (any_in same decides y xs h)

  all_here : (xs ys : List A) → ((y : A) → In y ys → In y xs) → add_all same xs ys ≡ xs
  all_here xs [] h = refl
  all_here xs (y ∷ ys) h = ap (λ (zs : List A). add_all same zs ys) (new_here xs y (h y (inl refl))) ∙ all_here xs ys (λ z i. h z (inr i))

  pub stays : (n : ℕ) (xs : List A) → ((x y : A) → In x xs → In y (next x) → In y xs) → led_to same next n xs ≡ xs
  unfolding led_to
  stays zero xs closed = refl
  stays (suc n) xs closed =
      ap (led_to same next n) (all_here xs (flat_map next xs) (λ y h. let m = in_flat next y xs h in closed m.0 y m.1 m.2)) ∙ stays n xs closed

  pub in_turn : (n k : ℕ) (xs : List A) → led_to same next (n + k) xs ≡ led_to same next k (led_to same next n xs)
  unfolding led_to
  in_turn zero k xs = let e : 0 + k ≡ k = omega arith in ap (λ (m : ℕ). led_to same next m xs) e
  in_turn (suc n) k xs =
      let e : suc n + k ≡ suc (n + k) = omega arith in
      ap (λ (m : ℕ). led_to same next m xs) e ∙ in_turn n k (add_all same xs (flat_map next xs))
