-- The list of facts that wait, as facts come.
use Rattle.std.proofs.Common.{◌≡◌, ℕ, zero, suc, ◌+◌, ◌<◌, ◌≤◌, List, [], ◌∷◌, ◌++◌, length, Bool, true, false, ◌⊎◌, inl, inr, refl, sym, subst, ◌∙◌, arith}
use Rattle.std.specs.Prelude.{IsTrue, not}
use Rattle.std.specs.List.{Contains}
use Rattle.std.proofs.lemmas.List.{length-append}
use Rattle.std.proofs.lemmas.List.Elements.{Contains-append_left, Contains-append_right, Contains-append_cases}
use Rattle.closure.specs.Facts.{is_set}
use Rattle.closure.specs.Rounds.{missing, with_fact}
use Rattle.closure.proofs.Flags.{Adds, adds}
use Rattle.closure.specs.queued_closure.Waiting.{with_waiting, work, Waits}

pub waits_none : (flags : List Bool) (waiting : List ℕ) → Waits flags waiting flags waiting false
waits_none flags waiting = record { stay = λ n s. s; fresh = λ n s. inl s; there = λ n s. inl s; no_more = omega arith; same = λ e. refl }

one_is : {A : Type 0} (x y : A) → Contains (x ∷ []) y → x ≡ y
one_is x y (zero, inside, e) = e
one_is x y (suc k, inside, e) = absurd (omega arith)

pub one_there : {A : Type 0} (x : A) → Contains (x ∷ []) x
one_there x = (0, omega arith, refl)

module _ (flags : List Bool) (waiting : List ℕ) (mid : List Bool) (now : List ℕ) (new : Bool) (p : Waits flags waiting mid now new) (x : ℕ) (inside : x < length mid) where
  added : Adds x mid (with_fact mid x)
  added = adds mid x

  more : List ℕ
  more = now ++ x ∷ []

  fresh_more : (n : ℕ) → IsTrue (is_set (with_fact mid x) n) → IsTrue (is_set flags n) ⊎ Contains more n
  unfolding more
  fresh_more n s =
      elim (added.only n s) [
        | inl t ↦ elim (p.fresh n t) [ inl u ↦ inl u | inr v ↦ inr (Contains-append_left now (x ∷ []) n v) ]
        | inr e ↦ inr (subst (Contains (now ++ x ∷ [])) (sym e) (Contains-append_right now (x ∷ []) x (one_there x)))
      ]

  there_more : (n : ℕ) → Contains more n → Contains waiting n ⊎ IsTrue (is_set (with_fact mid x) n)
  unfolding more
  there_more n s =
      elim (Contains-append_cases now (x ∷ []) n s) [
        | inl t ↦ elim (p.there n t) [ inl u ↦ inl u | inr v ↦ inr (added.keeps n v) ]
        | inr t ↦ inr (subst (λ (k : ℕ). IsTrue (is_set (with_fact mid x) k)) (one_is x n t) (added.sets inside))
      ]

  one_more : not (is_set mid x) ≡ true → Waits flags waiting (with_fact mid x) more true
  unfolding more
  one_more e = record {
    stay = λ n s. Contains-append_left now (x ∷ []) n (p.stay n s);
    fresh = fresh_more;
    there = there_more;
    no_more =
        let f : missing (with_fact mid x) < missing mid = added.grows inside e in
        let l : length (now ++ x ∷ []) ≡ length now + 1 = length-append now (x ∷ []) in
        let g : work mid now ≤ work flags waiting = p.no_more in
        omega (arith, f, l, g);
    same = λ f. cc;
  }

  by_test : (b : Bool) → is_set mid x ≡ b → not b ≡ true → with_waiting mid now x ≡ more
  unfolding more
  by_test true e f = cc
  by_test false e f = rw e refl

  pub waits_new : not (is_set mid x) ≡ true → Waits flags waiting (with_fact mid x) (with_waiting mid now x) true
  waits_new e = subst (λ (w : List ℕ). Waits flags waiting (with_fact mid x) w true) (sym (by_test (is_set mid x) refl e)) (one_more e)

  none_by : (b : Bool) → is_set mid x ≡ b → not b ≡ false → with_waiting mid now x ≡ now
  none_by true e f = rw e refl
  none_by false e f = cc

  pub waits_known : not (is_set mid x) ≡ false → Waits flags waiting (with_fact mid x) (with_waiting mid now x) new
  waits_known e =
      subst (λ (w : List ℕ). Waits flags waiting (with_fact mid x) w new) (sym (none_by (is_set mid x) refl e))
      (subst (λ (f : List Bool). Waits flags waiting f now new) (sym (added.same e)) p)

-- one after the other
module _ (flags : List Bool) (waiting : List ℕ) (mid : List Bool) (now : List ℕ) (after : List Bool) (later : List ℕ) (new more : Bool)
    (p : Waits flags waiting mid now new) (q : Waits mid now after later more) (stays : (n : ℕ) → IsTrue (is_set mid n) → IsTrue (is_set after n)) where
  fresh_both : (n : ℕ) → IsTrue (is_set after n) → IsTrue (is_set flags n) ⊎ Contains later n
  fresh_both n s =
      elim (q.fresh n s) [
        | inl t ↦ elim (p.fresh n t) [ inl u ↦ inl u | inr v ↦ inr (q.stay n v) ]
        | inr t ↦ inr t
      ]

  there_both : (n : ℕ) → Contains later n → Contains waiting n ⊎ IsTrue (is_set after n)
  there_both n s =
      elim (q.there n s) [
        | inl t ↦ elim (p.there n t) [ inl u ↦ inl u | inr v ↦ inr (stays n v) ]
        | inr t ↦ inr t
      ]

  less_both : work after later ≤ work flags waiting
  less_both = let f : work after later ≤ work mid now = q.no_more in let g : work mid now ≤ work flags waiting = p.no_more in omega (arith, f, g)

  pub waits_both_new : Waits flags waiting after later true
  waits_both_new = record { stay = λ n s. q.stay n (p.stay n s); fresh = fresh_both; there = there_both; no_more = less_both; same = λ e. cc }

  pub waits_both_known : more ≡ false → Waits flags waiting after later new
  waits_both_known e = record { stay = λ n s. q.stay n (p.stay n s); fresh = fresh_both; there = there_both; no_more = less_both; same = λ f. q.same e ∙ p.same f }
