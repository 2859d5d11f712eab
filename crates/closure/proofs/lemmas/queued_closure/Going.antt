-- What draining and whole rounds do to what is known.
use Rattle.std.proofs.Common.{◌≡◌, ℕ, zero, suc, ◌+◌, ◌<◌, ◌≤◌, List, [], ◌∷◌, ◌++◌, length, Bool, true, false, ◌⊎◌, inl, inr, refl, sym, ap, subst, ◌∙◌, arith}
use Rattle.std.specs.Prelude.{IsTrue, ◌↔◌, replicate}
use Rattle.std.specs.List.{Contains}
use Rattle.std.proofs.lemmas.List.{length-append, length-replicate}
use Rattle.std.proofs.lemmas.List.Elements.{Contains-append_left, Contains-append_right, Contains-append_cases}
use Rattle.closure.specs.Facts.{is_set, Derived, root, brought, IsClosed, IsWithin}
use Rattle.closure.specs.Rounds.{missing}
use Rattle.closure.proofs.Steps.{puts_each, taken_one, taken_none, taken_new, taken_known}
use Rattle.closure.proofs.Flags.{below_length, none_set}
use Rattle.closure.proofs.Following.{Lawful, derived_in}
use Rattle.closure.specs.declared.queued_closure.found.Found.{Found}
use Rattle.closure.specs.queued_closure.Brings.{brings_by}
use Rattle.closure.specs.queued_closure.Waiting.{work_left, Puts, IsStart, IsKnown, Drained, Rounds, Steps}
use Rattle.closure.proofs.lemmas.queued_closure.Lists.{waits_none, waits_both_new, waits_both_known}

none_in : {A : Type 0} (x : A) → Contains [] x → ⊥
none_in x (k, inside, e) = omega arith

last_or : (front : List ℕ) (x n : ℕ) → Contains (front ++ x ∷ []) n → Contains front n ⊎ (x ≡ n)
last_or front x n s = elim (Contains-append_cases front (x ∷ []) n s) [ inl t ↦ inl t | inr t ↦ inr (one t) ]
  where
    one : Contains (x ∷ []) n → x ≡ n
    one (zero, inside, e) = e
    one (suc k, inside, e) = absurd (omega arith)

-- ---- the roots

module _ (universe : ℕ) (roots : List ℕ) (first after : Found) (new : Bool) (flags : first.set.flags ≡ replicate universe false) (waiting : first.waiting ≡ []) (p : Puts roots (length roots) first after new) where
  none_before : (n : ℕ) → IsTrue (is_set first.set.flags n) → ⊥
  none_before n s = none_set universe n (subst (λ (f : List Bool). IsTrue (is_set f n)) flags s)

  pub started : IsStart universe roots after
  started = record {
    one_each = p.flags.one_each ∙ ap length flags ∙ length-replicate universe false;
    holds = puts_each roots first.set.flags after.set.flags new p.flags;
    only = λ n s. elim (p.flags.only n s) [ inl t ↦ absurd (none_before n t) | inr t ↦ t ];
    wait = λ n s. elim (p.waits.fresh n s) [ inl t ↦ absurd (none_before n t) | inr t ↦ t ];
    there = λ n s. elim (p.waits.there n s) [ inl t ↦ absurd (none_in n (subst (λ (w : List ℕ). Contains w n) waiting t)) | inr t ↦ t ];
  }

-- ---- a fact taken with others

module _ (joined : (ℕ → Bool) → ℕ → ℕ → Type 0) (fact : ℕ) (cs : List ℕ) (before after : Found) (new : Bool) where
  pub round_one : ((c : ℕ) → Contains cs c ↔ joined (is_set before.set.flags) fact c) → IsTrue (is_set before.set.flags fact) → Puts cs (length cs) before after new
      → Rounds joined (λ known. known ≡ fact) before after new
  round_one lists is_in p = record { flags = taken_one joined fact cs before.set.flags after.set.flags new lists is_in p.flags; waits = p.waits }

-- ---- rounds

module _ (joined : (ℕ → Bool) → ℕ → ℕ → Type 0) where
  pub rounds_none : (taken : ℕ → Type 0) (f : Found) → ((n : ℕ) → taken n → is_set f.set.flags n ≡ false) → Rounds joined taken f f false
  rounds_none taken f none = record { flags = taken_none joined taken f.set.flags none; waits = waits_none f.set.flags f.waiting }

  module _ (i : ℕ) (before mid after : Found) (new : Bool) (p : Rounds joined (λ known. known < i) before mid new) where
    pub rounds_new : Rounds joined (λ known. known ≡ i) mid after true → Rounds joined (λ known. known < i + 1) before after true
    rounds_new q = record {
      flags = taken_new p.flags q.flags;
      waits = waits_both_new before.set.flags before.waiting mid.set.flags mid.waiting after.set.flags after.waiting new true p.waits q.waits q.flags.stays;
    }

    pub rounds_known : Rounds joined (λ known. known ≡ i) mid after false → Rounds joined (λ known. known < i + 1) before after new
    rounds_known q = record {
      flags = taken_known p.flags q.flags;
      waits = waits_both_known before.set.flags before.waiting mid.set.flags mid.waiting after.set.flags after.waiting new false p.waits q.waits q.flags.stays refl;
    }

-- ---- what is known

module _ (alone : ℕ → ℕ → Type 0) (joined : (ℕ → Bool) → ℕ → ℕ → Type 0) (universe : ℕ) (roots : List ℕ) where
  abbrev Known : Found → Type 0
  Known f = IsKnown alone joined universe roots f

  abbrev Follows : ℕ → Type 0
  Follows n = Derived (brings_by alone joined) (Contains roots) n

  pub known_start : (f : Found) → IsStart universe roots f → Known f
  known_start f s = record {
    one_each = s.one_each;
    holds = s.holds;
    sound = λ n t. root (s.only n t);
    settled = λ n c t a. inr (s.wait n t);
    there = s.there;
  }

  pub popped_in : (before : Found) (front : List ℕ) (x : ℕ) → Known before → before.waiting ≡ front ++ x ∷ [] → IsTrue (is_set before.set.flags x)
  popped_in before front x k popped =
      k.there x (subst (λ (w : List ℕ). Contains w x) (sym popped) (Contains-append_right front (x ∷ []) x (0, omega arith, refl)))

  -- a fact that waits no longer, and what it brings alone
  module _ (before mid after : Found) (x : ℕ) (cs : List ℕ) (new : Bool) (k : Known before) (flags : mid.set.flags ≡ before.set.flags) (popped : before.waiting ≡ mid.waiting ++ x ∷ [])
      (lists : (c : ℕ) → Contains cs c ↔ alone x c) (p : Puts cs (length cs) mid after new) where
    was_in : (n : ℕ) → IsTrue (is_set mid.set.flags n) → IsTrue (is_set before.set.flags n)
    was_in n s = subst (λ (f : List Bool). IsTrue (is_set f n)) flags s

    still_in : (n : ℕ) → IsTrue (is_set before.set.flags n) → IsTrue (is_set after.set.flags n)
    still_in n s = p.flags.keeps n (subst (λ (f : List Bool). IsTrue (is_set f n)) (sym flags) s)

    was_waiting : IsTrue (is_set before.set.flags x)
    was_waiting = popped_in before mid.waiting x k popped

    settled_more : (n c : ℕ) → IsTrue (is_set after.set.flags n) → alone n c → IsTrue (is_set after.set.flags c) ⊎ Contains after.waiting n
    settled_more n c s a =
        elim (p.waits.fresh n s) [
          | inl t ↦ elim (k.settled n c (was_in n t) a) [
            | inl u ↦ inl (still_in c u)
            | inr w ↦ elim (last_or mid.waiting x n (subst (λ (w : List ℕ). Contains w n) popped w)) [
              | inl v ↦ inr (p.waits.stay n v)
              | inr e ↦ inl (puts_each cs mid.set.flags after.set.flags new p.flags c ((lists c).1 (subst (λ (m : ℕ). alone m c) (sym e) a)))
            ]
          ]
          | inr t ↦ inr t
        ]

    pub known_more : Known after
    known_more = record {
      one_each = p.flags.one_each ∙ ap length flags ∙ k.one_each;
      holds = λ n s. still_in n (k.holds n s);
      sound = λ n s. elim (p.flags.only n s) [
        | inl t ↦ k.sound n (was_in n t)
        | inr t ↦ brought (λ m. false) (λ m h. absurd (cc)) (k.sound x was_waiting) (inl ((lists n).0 t))
      ];
      settled = settled_more;
      there = λ n s. elim (p.waits.there n s) [
        | inl t ↦ still_in n (k.there n (subst (λ (w : List ℕ). Contains w n) (sym popped) (Contains-append_left mid.waiting (x ∷ []) n t)))
        | inr t ↦ t
      ];
    }

    pub less_work : work_left after < work_left before
    less_work =
        let l : length before.waiting ≡ length mid.waiting + 1 = ap length popped ∙ length-append mid.waiting (x ∷ []) in
        let m : missing mid.set.flags ≡ missing before.set.flags = ap missing flags in
        let w : work_left after ≤ work_left mid = p.waits.no_more in
        omega (arith, l, m, w)

    pub fewer_more : missing after.set.flags ≤ missing before.set.flags
    fewer_more = let m : missing mid.set.flags ≡ missing before.set.flags = ap missing flags in let f : missing after.set.flags ≤ missing mid.set.flags = p.flags.fewer in omega (arith, m, f)

  -- a whole round, where no fact waits before
  module _ (first before after : Found) (new : Bool) (d : Drained alone joined universe roots first before) (r : Rounds joined (λ known. known < universe) before after new) where
    settled_all : (n c : ℕ) → IsTrue (is_set before.set.flags n) → alone n c → IsTrue (is_set before.set.flags c)
    settled_all n c s a = elim (d.known.settled n c s a) [ inl t ↦ t | inr t ↦ absurd (none_in n (subst (λ (w : List ℕ). Contains w n) d.none t)) ]

    lifted : (n : ℕ) → Derived joined (λ known. IsTrue (is_set before.set.flags known)) n → Follows n
    lifted n (root s) = d.known.sound n s
    lifted n (brought have known f b) = brought have (λ m h. lifted m (known m h)) (lifted _ f) (inr b)

    known_after : Known after
    known_after = record {
      one_each = r.flags.one_each ∙ d.known.one_each;
      holds = λ n s. r.flags.stays n (d.known.holds n s);
      sound = λ n s. lifted n (r.flags.sound n s);
      settled = λ n c s a. elim (r.waits.fresh n s) [ inl t ↦ inl (r.flags.stays c (settled_all n c t a)) | inr t ↦ inr t ];
      there = λ n s. elim (r.waits.there n s) [ inl t ↦ absurd (none_in n (subst (λ (w : List ℕ). Contains w n) d.none t)) | inr t ↦ t ];
    }

    closed_after : new ≡ false → IsClosed (brings_by alone joined) (is_set before.set.flags)
    closed_after e = λ n c s b.
        elim b [
          | inl a ↦ settled_all n c s a
          | inr j ↦ r.flags.closed e n c (subst (λ (m : ℕ). n < m) d.known.one_each (below_length before.set.flags n s)) s j
        ]

    pub stepped : Steps alone joined universe roots first after new
    stepped = record {
      known = known_after;
      grows = λ e. let f : missing after.set.flags < missing before.set.flags = r.flags.grows e in let g : missing before.set.flags ≤ missing first.set.flags = d.fewer in omega (arith, f, g);
      closed = λ e. subst (λ (f : List Bool). IsClosed (brings_by alone joined) (is_set f)) (sym (r.flags.same e)) (closed_after e);
    }

  -- ---- the end

  module _ (alone_below : (fact c : ℕ) → fact < universe → alone fact c → c < universe)
      (joined_below : (have : ℕ → Bool) (fact c : ℕ) → fact < universe → joined have fact c → c < universe)
      (monotone : (few many : ℕ → Bool) (fact c : ℕ) → fact < universe → IsWithin few many → joined few fact c → joined many fact c)
      (roots_in : (n : ℕ) → Contains roots n → n < universe) where
    lawful : Lawful (brings_by alone joined) universe
    lawful = record {
      stays_below = λ have fact c lt b. elim b [ inl a ↦ alone_below fact c lt a | inr j ↦ joined_below have fact c lt j ];
      is_monotone = λ few many fact c lt within b. elim b [ inl a ↦ inl a | inr j ↦ inr (monotone few many fact c lt within j) ];
    }

    pub derived_known : (f : Found) → Known f → IsClosed (brings_by alone joined) (is_set f.set.flags) → (n : ℕ) → IsTrue (is_set f.set.flags n) ↔ Follows n
    derived_known f k closed n = (k.sound n, derived_in lawful roots_in (is_set f.set.flags) k.holds closed)
