-- What putting facts, taking facts and whole rounds do to the flags.
use Rattle.std.proofs.Common.{◌≡◌, ℕ, ◌<◌, ◌≤◌, ◌+◌, List, length, Bool, true, false, ◌⊎◌, inl, inr, refl, sym, ◌∙◌, subst, arith, get_or, replicate}
use Rattle.std.specs.Prelude.{IsTrue, not}
use Rattle.std.specs.List.{Contains}
use Rattle.std.proofs.lemmas.List.{get_or_default}
use borrow.Author.Count.{below_more}
use Rattle.closure.specs.Facts.{is_set, Derived, root, brought}
use Rattle.closure.specs.Rounds.{missing, with_fact, Taken, Puts}
use Rattle.closure.proofs.Flags.{Adds, adds, none_set}

-- ---- facts put in

pub puts_none : (cs : List ℕ) (flags : List Bool) → Puts cs 0 flags flags false
puts_none cs flags = record {
  one_each = refl;
  keeps = λ n s. s;
  puts = λ k h. absurd (omega arith);
  only = λ n s. inl s;
  fewer = omega arith;
  grows = λ e. cc;
  same = λ e. refl;
}

module _ (cs : List ℕ) (i : ℕ) (before after : List Bool) (new : Bool) (p : Puts cs i before after new) (inside : i < length cs)
    (below : get_or cs i 0 < length after) where
  added : Adds (get_or cs i 0) after (with_fact after (get_or cs i 0))
  added = adds after (get_or cs i 0)

  from_list : (n : ℕ) → n ≡ get_or cs i 0 → Contains cs n
  from_list n e = (i, inside, get_or_default cs i n 0 inside ∙ sym e)

  keeps_more : (n : ℕ) → IsTrue (is_set before n) → IsTrue (is_set (with_fact after (get_or cs i 0)) n)
  keeps_more n s = added.keeps n (p.keeps n s)

  puts_one_more : (k : ℕ) → k < i + 1 → IsTrue (is_set (with_fact after (get_or cs i 0)) (get_or cs k 0))
  puts_one_more = below_more _ _ (λ k h. added.keeps (get_or cs k 0) (p.puts k h)) (added.sets below)

  only_more : (n : ℕ) → IsTrue (is_set (with_fact after (get_or cs i 0)) n) → IsTrue (is_set before n) ⊎ Contains cs n
  only_more n s = elim (added.only n s) [ inl t ↦ p.only n t | inr e ↦ inr (from_list n e) ]

  fewer_more : missing (with_fact after (get_or cs i 0)) ≤ missing before
  fewer_more = let f : missing (with_fact after (get_or cs i 0)) ≤ missing after = added.fewer below in let g : missing after ≤ missing before = p.fewer in omega arith

  pub puts_new : not (is_set after (get_or cs i 0)) ≡ true → Puts cs (i + 1) before (with_fact after (get_or cs i 0)) true
  puts_new e = record {
    one_each = added.one_each ∙ p.one_each;
    keeps = keeps_more;
    puts = puts_one_more;
    only = only_more;
    fewer = fewer_more;
    grows = λ _. let f : missing (with_fact after (get_or cs i 0)) < missing after = added.grows below e in let g : missing after ≤ missing before = p.fewer in omega arith;
    same = λ f. cc;
  }

  pub puts_known : not (is_set after (get_or cs i 0)) ≡ false → Puts cs (i + 1) before (with_fact after (get_or cs i 0)) new
  puts_known e = record {
    one_each = added.one_each ∙ p.one_each;
    keeps = keeps_more;
    puts = puts_one_more;
    only = only_more;
    fewer = fewer_more;
    grows = λ f. let h : missing after < missing before = p.grows f in let g : missing (with_fact after (get_or cs i 0)) ≤ missing after = added.fewer below in omega arith;
    same = λ f. added.same e ∙ p.same f;
  }

-- ---- the roots alone

pub roots_in : (cs : List ℕ) (n : ℕ) (flags before : List Bool) (new : Bool) → before ≡ replicate n false → Puts cs (length cs) before flags new
    → (fact : ℕ) → IsTrue (is_set flags fact) → Contains cs fact
roots_in cs n flags before new e p fact s = elim (p.only fact s) [ inl t ↦ absurd (none_set n fact (rw e at t)) | inr t ↦ t ]

pub puts_each : (cs : List ℕ) (before after : List Bool) (new : Bool) → Puts cs (length cs) before after new
    → (fact : ℕ) → Contains cs fact → IsTrue (is_set after fact)
puts_each cs before after new p fact (k, inside, e) =
    subst (λ (x : ℕ). IsTrue (is_set after x)) (get_or_default cs k 0 fact inside ∙ e) (p.puts k inside)

-- ---- one fact taken

module _ (brings : (ℕ → Bool) → ℕ → ℕ → Type 0) (fact : ℕ) (cs : List ℕ) (before after : List Bool) (new : Bool) where
  pub taken_one : ((c : ℕ) → (Contains cs c → brings (is_set before) fact c) × (brings (is_set before) fact c → Contains cs c))
      → IsTrue (is_set before fact) → Puts cs (length cs) before after new → Taken brings (λ known. known ≡ fact) before after new
  taken_one lists is_in p = record {
    one_each = p.one_each;
    sound = λ n s. elim (p.only n s) [ inl t ↦ root t | inr t ↦ brought (is_set before) (λ known t. root t) (root is_in) ((lists n).0 t) ];
    stays = p.keeps;
    fewer = p.fewer;
    grows = p.grows;
    same = p.same;
    closed = λ none known c t s b. subst (λ (flags : List Bool). IsTrue (is_set flags c)) (p.same none)
        (puts_each cs before after new p c ((lists c).1 (subst (λ (x : ℕ). brings (is_set before) x c) t b)));
  }

-- ---- several facts taken

pub follows : {brings : (ℕ → Bool) → ℕ → ℕ → Type 0} {roots others : ℕ → Type 0} {fact : ℕ} → ((n : ℕ) → roots n → Derived brings others n)
    → Derived brings roots fact → Derived brings others fact
follows base (root r) = base _ r
follows base (brought have known f b) = brought have (λ n s. follows base (known n s)) (follows base f) b

pub all_below : (cs : List ℕ) (m n : ℕ) → m ≡ n → ((c : ℕ) → Contains cs c → c < m) → (k : ℕ) (d : ℕ) → k < length cs → get_or cs k d < n
all_below cs m n e below k d inside =
    let h : get_or cs k d < m = below (get_or cs k d) (k, inside, get_or_default cs k (get_or cs k d) d inside) in rw e at h

pub taken_none : (brings : (ℕ → Bool) → ℕ → ℕ → Type 0) (taken : ℕ → Type 0) (flags : List Bool)
    → ((fact : ℕ) → taken fact → is_set flags fact ≡ false) → Taken brings taken flags flags false
taken_none brings taken flags none = record {
  one_each = refl;
  sound = λ n s. root s;
  stays = λ n s. s;
  fewer = omega arith;
  grows = λ e. cc;
  same = λ e. refl;
  closed = λ e fact c t s b. let f : is_set flags fact ≡ false = none fact t in cc;
}

module _ {brings : (ℕ → Bool) → ℕ → ℕ → Type 0} {i : ℕ} {before mid after : List Bool} {new : Bool} (p : Taken brings (λ known. known < i) before mid new) where
  -- a fact that brought something new, after those below it
  pub taken_new : Taken brings (λ known. known ≡ i) mid after true → Taken brings (λ known. known < i + 1) before after true
  taken_new q = record {
    one_each = q.one_each ∙ p.one_each;
    sound = λ n s. follows (λ m t. p.sound m t) (q.sound n s);
    stays = λ n s. q.stays n (p.stays n s);
    fewer = let f : missing after ≤ missing mid = q.fewer in let g : missing mid ≤ missing before = p.fewer in omega arith;
    grows = λ e. let f : missing after < missing mid = q.grows refl in let g : missing mid ≤ missing before = p.fewer in omega arith;
    same = λ e. cc;
    closed = λ e. cc;
  }

  closed_more : Taken brings (λ known. known ≡ i) mid after false → new ≡ false
      → (fact c : ℕ) → fact < i + 1 → IsTrue (is_set before fact) → brings (is_set before) fact c → IsTrue (is_set before c)
  closed_more q e fact c = λ h. below_more
      (λ (f : ℕ). IsTrue (is_set before f) → brings (is_set before) f c → IsTrue (is_set before c)) i
      (λ f h s b. p.closed e f c h s b)
      (subst (λ (flags : List Bool). IsTrue (is_set flags i) → brings (is_set flags) i c → IsTrue (is_set flags c)) (p.same e) (λ s b. q.closed refl i c refl s b))
      fact h

  -- a fact that brought nothing new
  pub taken_known : Taken brings (λ known. known ≡ i) mid after false → Taken brings (λ known. known < i + 1) before after new
  taken_known q = record {
    one_each = q.one_each ∙ p.one_each;
    sound = λ n s. follows (λ m t. p.sound m t) (q.sound n s);
    stays = λ n s. q.stays n (p.stays n s);
    fewer = let f : missing after ≤ missing mid = q.fewer in let g : missing mid ≤ missing before = p.fewer in omega arith;
    grows = λ e. let f : missing after ≤ missing mid = q.fewer in let g : missing mid < missing before = p.grows e in omega arith;
    same = λ e. q.same refl ∙ p.same e;
    closed = closed_more q;
  }
