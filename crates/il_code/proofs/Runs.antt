-- Blocks of one range, in the order of blocks.
use Rattle.std.proofs.Common.{◌≡◌, ◌⊎◌, inl, inr, ℕ, ◌+◌, ◌<◌, ◌≤◌, min, Bool, true, false, ◌||◌, ◌&&◌, ◌==◌, List, Some, refl, sym, ap, subst, ◌∙◌, arith, if◌then◌else◌}
use Rattle.std.specs.List.{slice_get}
use Rattle.std.proofs.lemmas.Bool.{cases_eq, cases_lt, eq-eqb, eqb-true}
use Rattle.il_base.specs.body_grammar.HandlerRules.{is_same}
use Rattle.il_code.specs.declared.blocks.Block.{Block}
use Rattle.il_code.specs.Blocks.{most, IsSame, Before, MayShare, may_share, clash, AreOrdered, IsRun, IsIn}
use Rattle.il_code.specs.Nesting.{IsFirstAlike}
use Rattle.il_code.proofs.Looks.{both_true, either_true, same, differ, one_look}

pub no_run : (blocks : List Block) → IsRun blocks 0 0
no_run blocks = record {
  below = omega arith;
  one = λ q a c le lt e f. absurd (omega arith);
  other = λ q a c lt e f s. absurd (omega arith);
}

pub same_trans : (a b c : Block) → IsSame a b → IsSame b c → IsSame a c
same_trans a b c h k = (h.0 ∙ k.0, h.1 ∙ k.1)

pub same_back : (a b : Block) → IsSame a b → IsSame b a
same_back a b h = (sym h.0, sym h.1)

-- a block between two of one range has that range
pub between : (a c b : Block) → Before a c → Before c b → IsSame a b → IsSame a c
between a c b h k s =
    let e = s.0 in
    let f = s.1 in
    elim h [
      | inl less ↦ absurd (elim k [ inl l ↦ omega arith | inr l ↦ let m = l.0 in omega arith ])
      | inr at ↦
          let m = at.0 in
          let n = at.1 in
          (m, elim k [ inl l ↦ absurd (omega arith) | inr l ↦ let o = l.1 in omega arith ])
    ]

module _ (blocks : List Block) (run at : ℕ) (c b : Block) (ordered : AreOrdered blocks) (e : slice_get blocks run ≡ Some c) (f : slice_get blocks at ≡ Some b) (is : IsRun blocks run at) where
  same_run : IsSame c b → IsRun blocks run (at + 1)
  same_run s = record {
    below = let l = is.below in omega arith;
    one = λ q a d le lt g h.
        elim (cases_lt q at) [
          | inl less ↦ is.one q a d le less g h
          | inr more ↦
              let k : b ≡ a = one_look blocks at q b a (omega arith) f g in
              let m : c ≡ d = one_look blocks run run c d refl e h in
              subst (λ (x : Block). IsSame x d) k (subst (IsSame b) m (same_back c b s))
        ];
    other = is.other;
  }

  other_run : (IsSame c b → ⊥) → IsRun blocks at (at + 1)
  other_run n = record {
    below = omega arith;
    one = λ q a d le lt g h. let k : a ≡ d = one_look blocks q at a d (omega arith) g h in subst (IsSame a) k (refl, refl);
    other = λ q a d lt g h s.
        let k : d ≡ b = one_look blocks at at d b refl h f in
        let t : IsSame a b = subst (IsSame a) k s in
        elim (cases_lt q run) [
          | inl less ↦
              elim (cases_eq run at) [
                | inl m ↦ is.other q a c less g e (subst (IsSame a) (one_look blocks at run b c (sym m) f e) t)
                | inr m ↦
                    let l = is.below in
                    is.other q a c less g e (between a c b (ordered q run a c less g e).0 (ordered run at c b (omega (arith, m)) e f).0 t)
              ]
          | inr more ↦ n (same_trans c a b (same_back a c (is.one q a c more lt g e)) t)
        ];
  }

  pub run_more : (next : ℕ) → next ≡ (if is_same c.range b.range then run else at) → IsRun blocks next (at + 1)
  run_more next k =
      let G : Bool → Type 0 = λ t. is_same c.range b.range ≡ t → next ≡ (if t then run else at) → IsRun blocks next (at + 1) in
      (elim (is_same c.range b.range) as G [
        | true ↦ λ s l. subst (λ (n : ℕ). IsRun blocks n (at + 1)) (sym l) (same_run (same c.range b.range s))
        | false ↦ λ s l. subst (λ (n : ℕ). IsRun blocks n (at + 1)) (sym l) (other_run (λ k. differ c.range b.range s k.0 k.1))
      ]) refl k

-- ---- blocks that may not have one range

may_by : (a b : Block) → may_share a b ≡ true → MayShare a b
may_by a b h = elim (either_true _ _ h) [ inl k ↦ inl (eqb-true a.clause b.clause k) | inr k ↦ inr (both_true a.shares b.shares k) ]

may_unshared : (t u v : Bool) → (t || (u && v)) ≡ false → u ≡ true → v ≡ true → ⊥
may_unshared true u v h s k = cc
may_unshared false true true h s k = cc
may_unshared false false v h s k = cc
may_unshared false true false h s k = cc

may_not : (a b : Block) → may_share a b ≡ false → MayShare a b → ⊥
may_not a b h (inl e) = let k = eq-eqb a.clause b.clause e in cc
may_not a b h (inr (s, t)) = may_unshared (a.clause == b.clause) a.shares b.shares h s t

pub none_alike : (blocks : List Block) → IsFirstAlike blocks 0 most
none_alike blocks = record { before = λ q k a b l m e f s t. absurd (omega arith); at = inl refl }

pub lesser : (x y : ℕ) → (min x y ≡ x) ⊎ (min x y ≡ y)
lesser x y = elim (cases_lt x y) [ inl l ↦ inl (omega arith) | inr l ↦ inr (omega arith) ]

pub below_min : (x y z : ℕ) → z < min x y → (z < x) × (z < y)
below_min x y z l = (omega arith, omega arith)

one_below : (x y first m : ℕ) → m ≤ first → (x < m) ⊎ (y < m) → (x < first) ⊎ (y < first)
one_below x y first m le (inl l) = inl (omega arith)
one_below x y first m le (inr l) = inr (omega arith)

module _ (blocks : List Block) (run at first : ℕ) (c b : Block) (ordered : AreOrdered blocks) (e : slice_get blocks run ≡ Some c) (f : slice_get blocks at ≡ Some b) (is : IsRun blocks run (at + 1)) (below : run ≤ at) (old : IsFirstAlike blocks at first) where
  b_same : IsSame b c
  b_same = is.one at b c below (omega arith) f e

  -- a block with the range of this one stands in its run
  in_run : (q : ℕ) (a : Block) → slice_get blocks q ≡ Some a → IsSame a b → run ≤ q
  in_run q a g s = elim (cases_lt q run) [ inl l ↦ absurd (is.other q a c l g e (same_trans a b c s b_same)) | inr l ↦ l ]

  -- what the first of the run shares, the others share
  c_shares : (q : ℕ) (a : Block) → slice_get blocks q ≡ Some a → IsSame a b → c.shares ≡ true → a.shares ≡ true
  c_shares q a g s h =
      elim (cases_eq run q) [
        | inl k ↦ subst (λ (x : Block). x.shares ≡ true) (one_look blocks run q c a k e g) h
        | inr k ↦ let l = in_run q a g s in (ordered run q c a (omega (arith, k)) e g).1 (same_back a c (same_trans a b c s b_same)) h
      ]

  with_first : (q : ℕ) (a : Block) → q < at → slice_get blocks q ≡ Some a → IsSame a b → (c.clause < first) ⊎ (a.clause < first) → MayShare c a
  with_first q a lt g s l =
      elim (cases_eq run q) [
        | inl k ↦ inl (ap (λ (x : Block). x.clause) (one_look blocks run q c a k e g))
        | inr k ↦ let m = in_run q a g s in old.before run q c a (omega (arith, k)) lt e g (same_back a c (same_trans a b c s b_same)) l
      ]

  clashes : may_share c b ≡ false → (q : ℕ) (a : Block) → q < at → slice_get blocks q ≡ Some a → IsSame a b → (m : ℕ) → m ≤ first → m ≤ c.clause → m ≤ b.clause → (a.clause < m) ⊎ (b.clause < m) → MayShare a b
  clashes unshared q a lt g s m le lc lb (inr l) = absurd (omega arith)
  clashes unshared q a lt g s m le lc lb (inl l) =
      elim (with_first q a lt g s (inr (omega arith))) [
        | inl k ↦ absurd (omega arith)
        | inr (k, _) ↦ absurd (may_not c b unshared (inr (k, c_shares at b f (refl, refl) k)))
      ]

  agrees : may_share c b ≡ true → (q : ℕ) (a : Block) → q < at → slice_get blocks q ≡ Some a → IsSame a b → (a.clause < first) ⊎ (b.clause < first) → MayShare a b
  agrees shared q a lt g s l =
      elim (may_by c b shared) [
        | inr (k, j) ↦ inr (c_shares q a g s k, j)
        | inl k ↦
            elim (with_first q a lt g s (elim l [ inl h ↦ inr h | inr h ↦ inl (omega arith) ])) [
              | inl j ↦ inl (sym j ∙ k)
              | inr (j, _) ↦ inr (c_shares q a g s j, c_shares at b f (refl, refl) j)
            ]
      ]

  here : (t : Bool) → may_share c b ≡ t → (q : ℕ) (a : Block) → q < at → slice_get blocks q ≡ Some a → IsSame a b
      → (a.clause < min first (if t then most else min c.clause b.clause)) ⊎ (b.clause < min first (if t then most else min c.clause b.clause)) → MayShare a b
  here true k q a lt g s l = agrees k q a lt g s (one_below a.clause b.clause first (min first most) (omega arith) l)
  here false k q a lt g s l = clashes k q a lt g s (min first (min c.clause b.clause)) (omega arith) (omega arith) (omega arith) l

  alike_before : (q k : ℕ) (a d : Block) → q < k → k < at + 1 → slice_get blocks q ≡ Some a → slice_get blocks k ≡ Some d → IsSame a d → (a.clause < min first (clash c b)) ⊎ (d.clause < min first (clash c b)) → MayShare a d
  alike_before q k a d l m g h s t =
      elim (cases_lt k at) [
        | inl less ↦ old.before q k a d l less g h s (one_below a.clause d.clause first (min first (clash c b)) (omega arith) t)
        | inr more ↦
            let j : b ≡ d = one_look blocks at k b d (omega arith) f h in
            subst (MayShare a) j (here (may_share c b) refl q a (omega arith) g (subst (IsSame a) (sym j) s)
            (subst (λ (x : Block). (a.clause < min first (clash c b)) ⊎ (x.clause < min first (clash c b))) (sym j) t))
      ]

  abbrev Clash : ℕ → Type 0
  Clash n = (n ≡ most) ⊎ ((a : Block) × (d : Block) × IsIn blocks a × IsIn blocks d × ((a.clause ≡ n) ⊎ (d.clause ≡ n)) × IsSame a d × (MayShare a d → ⊥))

  clash_at : (t : Bool) → may_share c b ≡ t → Clash (if t then most else min c.clause b.clause)
  clash_at true k = inl refl
  clash_at false k =
      inr (c, b, (run, e), (at, f), (elim (lesser c.clause b.clause) [ inl l ↦ inl (sym l) | inr l ↦ inr (sym l) ]), same_back b c b_same, may_not c b k)

  pub alike_more : IsFirstAlike blocks (at + 1) (min first (clash c b))
  alike_more = record {
    before = alike_before;
    at = elim (lesser first (clash c b)) [ inl l ↦ subst Clash (sym l) old.at | inr l ↦ subst Clash (sym l) (clash_at (may_share c b) refl) ];
  }
