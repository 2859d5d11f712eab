-- What follows from roots that are below the universe, under rules that stay below it and are monotone.
use Rattle.std.proofs.Common.{◌≡◌, ℕ, ◌<◌, Bool, false, IsTrue, List, length, sym, ◌∙◌, subst}
use Rattle.std.specs.List.{All, Contains}
use Rattle.closure.specs.Facts.{is_set, Derived, root, brought, HoldsRoots, IsClosed, IsWithin}
use Rattle.closure.specs.Rounds.{Taken}
use Rattle.closure.proofs.Flags.{below_length}
use Rattle.closure.proofs.Steps.{follows}

-- rules over a universe, by their two laws
pub record Lawful (brings : (ℕ → Bool) → ℕ → ℕ → Type 0) (universe : ℕ) : Type 0 where
  pub stays_below : (have : ℕ → Bool) (fact c : ℕ) → fact < universe → brings have fact c → c < universe
  pub is_monotone : (few many : ℕ → Bool) (fact c : ℕ) → fact < universe → IsWithin few many → brings few fact c → brings many fact c

pub derived_below : {brings : (ℕ → Bool) → ℕ → ℕ → Type 0} {universe : ℕ} {roots : ℕ → Type 0} {fact : ℕ} → Lawful brings universe
    → ((n : ℕ) → roots n → n < universe) → Derived brings roots fact → fact < universe
derived_below l below (root r) = below _ r
derived_below l below (brought have known f b) = l.stays_below have _ _ (derived_below l below f) b

pub derived_in : {brings : (ℕ → Bool) → ℕ → ℕ → Type 0} {universe : ℕ} {roots : ℕ → Type 0} {fact : ℕ} → Lawful brings universe
    → ((n : ℕ) → roots n → n < universe) → (other : ℕ → Bool) → HoldsRoots roots other → IsClosed brings other → Derived brings roots fact → IsTrue (other fact)
derived_in l below other holds closed (root r) = holds _ r
derived_in l below other holds closed (brought have known f b) =
    closed _ _ (derived_in l below other holds closed f)
    (l.is_monotone have other _ _ (derived_below l below f) (λ n s. derived_in l below other holds closed (known n s)) b)

-- what holds of the flags after each round
pub record Reached (brings : (ℕ → Bool) → ℕ → ℕ → Type 0) (universe : ℕ) (roots : List ℕ) (flags : List Bool) : Type 0 where
  pub one_each : length flags ≡ universe
  pub holds : (n : ℕ) → Contains roots n → IsTrue (is_set flags n)
  pub sound : (n : ℕ) → IsTrue (is_set flags n) → Derived brings (Contains roots) n

module _ {brings : (ℕ → Bool) → ℕ → ℕ → Type 0} {universe : ℕ} {roots : List ℕ} {before after : List Bool} {new : Bool}
    (r : Reached brings universe roots before) (t : Taken brings (λ known. known < universe) before after new) where
  pub reached_more : Reached brings universe roots after
  reached_more = record {
    one_each = t.one_each ∙ r.one_each;
    holds = λ n s. t.stays n (r.holds n s);
    sound = λ n s. follows r.sound (t.sound n s);
  }

  pub closed_at_end : new ≡ false → IsClosed brings (is_set after)
  closed_at_end e = subst (λ (flags : List Bool). IsClosed brings (is_set flags)) (sym (t.same e))
      (λ fact c s b. t.closed e fact c (subst (λ (n : ℕ). fact < n) r.one_each (below_length before fact s)) s b)

-- roots by their list
pub roots_below : (roots : List ℕ) (universe : ℕ) → All (λ root. root < universe) roots → (n : ℕ) → Contains roots n → n < universe
roots_below roots universe all n (k, inside, e) = subst (λ (x : ℕ). x < universe) e (all k n inside)
