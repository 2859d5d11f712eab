-- A block that keeps the rules within what is around it keeps them beside each block before it.
use Rattle.std.proofs.Common.{◌≡◌, ◌⊎◌, inl, inr, ℕ, ◌+◌, ◌-◌, ◌<◌, ◌≤◌, nat_le, nat_lt, min, Bool, true, false, not, ◌||◌, ◌&&◌, List, Some, refl, sym, subst, arith, if◌then◌else◌}
use Rattle.std.specs.List.{slice_get}
use Rattle.std.proofs.lemmas.Bool.{cases_eq, cases_lt, leb-true, ltb-true, leb-false, ltb-false}
use Rattle.std.proofs.lemmas.Option.{slice_get_within}
use Rattle.il_code.specs.declared.around.Around.{Around}
use Rattle.il_code.specs.declared.around.Begun.{Begun}
use Rattle.il_code.specs.declared.blocks.Block.{Block}
use Rattle.il_code.specs.Around.{by_start, by_end, by_clause, pairs_of, IsAround, HasBegun, stands_in, misfit}
use Rattle.il_code.specs.Blocks.{most, IsSame, StandsIn, StandsBy, FailsBy, AreOrdered, AreBounded, IsIn, IsRun}
use Rattle.il_code.specs.Nesting.{IsFirstWithin}
use Rattle.il_code.proofs.Looks.{both_true, there, one_look}
use Rattle.il_code.proofs.Numbers.{numbers_later}
use Rattle.il_code.proofs.Runs.{same_trans, same_back, lesser, below_min}

-- ---- the test

record Stands (b : Block) (r : Around) : Type 0 where
  last : b.range.to ≤ r.to
  handler : b.is_try ≡ true → (r.from ≤ b.handler.from) × (b.handler.to ≤ r.to) × (b.clause < r.clause)

stands_if : (b : Block) (r : Around) → stands_in b r ≡ true → Stands b r
stands_if b r h =
    let p = both_true _ _ h in
    record {
      last = leb-true b.range.to r.to p.0;
      handler = λ t.
          let q : (nat_le r.from b.handler.from && nat_le b.handler.to r.to && nat_lt b.clause r.clause) ≡ true = rw t at p.1 in
          let s = both_true _ _ q in
          let u = both_true _ _ s.0 in
          (leb-true r.from b.handler.from u.0, leb-true b.handler.to r.to u.1, ltb-true b.clause r.clause s.1);
    }

data Fault (b : Block) (r : Around) : Type 0 where
  longer : r.to < b.range.to → Fault b r
  handler_first : b.is_try ≡ true → b.handler.from < r.from → Fault b r
  handler_last : b.is_try ≡ true → r.to < b.handler.to → Fault b r
  clause : b.is_try ≡ true → r.clause ≤ b.clause → Fault b r

fault_by : (b : Block) (r : Around) → (s t u v w : Bool) → nat_le b.range.to r.to ≡ s → b.is_try ≡ t → nat_le r.from b.handler.from ≡ u → nat_le b.handler.to r.to ≡ v → nat_lt b.clause r.clause ≡ w
    → (s && (not t || (u && v && w))) ≡ false → Fault b r
fault_by b r false t u v w a c d e f h = longer (leb-false b.range.to r.to a)
fault_by b r true false u v w a c d e f h = absurd cc
fault_by b r true true false v w a c d e f h = handler_first c (leb-false r.from b.handler.from d)
fault_by b r true true true false w a c d e f h = handler_last c (leb-false b.handler.to r.to e)
fault_by b r true true true true false a c d e f h = clause c (ltb-false b.clause r.clause f)
fault_by b r true true true true true a c d e f h = absurd cc

fault_if : (b : Block) (r : Around) → stands_in b r ≡ false → Fault b r
fault_if b r h = fault_by b r _ _ _ _ _ refl refl refl refl refl h

clause_is : (a : Block) → a.is_try ≡ true → by_clause a ≡ most - a.clause
clause_is a t = rw t refl

clause_try : (a : Block) (t : Bool) → a.is_try ≡ t → (if t then most - a.clause else 0) ≡ by_clause a → 0 < by_clause a → a.is_try ≡ true
clause_try a true h e l = h
clause_try a false h e l = absurd (omega arith)

module _ (blocks : List Block) (run at : ℕ) (c b : Block) (r : Around) (ordered : AreOrdered blocks) (bounded : AreBounded blocks) (e : slice_get blocks run ≡ Some c) (f : slice_get blocks at ≡ Some b) (is : IsRun blocks run (at + 1)) (below : run ≤ at) (around : IsAround blocks run b.range.from r) where
  b_same : IsSame b c
  b_same = is.one at b c below (omega arith) f e

  -- a block that has begun and ends after
  stands_live : Stands b r → (q : ℕ) (a : Block) → q < run → slice_get blocks q ≡ Some a → b.range.from < a.range.to → StandsIn a b
  stands_live s q a lt g l =
      let bb = bounded at b f in
      let bc = bb.clause in
      let bl = bb.last in
      let first = around.from.bound q a lt g l in
      let ends : most - a.range.to ≤ most - r.to = around.to.bound q a lt g l in
      let before = (ordered q at a b (omega arith) g f).0 in
      let from : a.range.from ≤ b.range.from = elim before [ inl k ↦ omega arith | inr k ↦ let j = k.0 in omega arith ] in
      let last = s.last in (
        (from, omega arith),
        λ t.
            let h = s.handler t in
            let h0 = h.0 in
            let h1 = h.1 in
            let h2 = h.2 in
            let hl = bb.handler_last in (
              (omega arith, omega arith),
              λ u.
                  let k : by_clause a ≤ most - r.clause = around.clause.bound q a lt g l in
                  let j = clause_is a u in
                  omega arith,
            ),
      )

  stands_all : Stands b r → (q : ℕ) (a : Block) → q < at → slice_get blocks q ≡ Some a → StandsBy a b
  stands_all s q a lt g =
      elim (cases_lt q run) [
        | inr le ↦ inr (inl (same_trans a c b (is.one q a c le (omega arith) g e) (same_back b c b_same)))
        | inl less ↦
            elim (cases_lt b.range.from a.range.to) [
              | inl l ↦ inr (inr (stands_live s q a less g l))
              | inr l ↦ inl l
            ]
      ]

  abbrev Fails : Type 0
  Fails = (a : Block) × IsIn blocks a × FailsBy a b

  fails_by : (q : ℕ) (a : Block) → q < run → slice_get blocks q ≡ Some a → b.range.from < a.range.to → (StandsIn a b → ⊥) → Fails
  fails_by q a lt g l apart = (
    a,
    (q, g),
    record {
      before = (ordered q at a b (omega arith) g f).0;
      meets = l;
      apart = λ s. is.other q a c lt g e (same_trans a b c s b_same);
      fails = apart;
    },
  )

  -- a block that ends where the first around does
  first_end : (r.to < most) → ((a : Block) → a.range.to ≡ r.to → StandsIn a b → ⊥) → Fails
  first_end small apart =
      elim around.to.is [
        | inl z ↦ absurd (omega arith)
        | inr (q, a, lt, g, l, k) ↦
            let m = (bounded q a g).last in
            fails_by q a lt g l (apart a (omega arith))
      ]

  fails_if : Fault b r → Fails
  fails_if (longer l) = let m = (bounded at b f).last in first_end (omega arith) (λ a k s. let h = s.0 in let j = h.1 in omega arith)
  fails_if (handler_last t l) =
      let m = (bounded at b f).handler_last in
      first_end (omega arith) (λ a k s. let h = s.1 t in let i = h.0 in let j = i.1 in omega arith)
  fails_if (handler_first t l) =
      elim around.from.is [
        | inl z ↦ absurd (omega arith)
        | inr (q, a, lt, g, m, k) ↦ fails_by q a lt g m (λ s. let h = s.1 t in let i = h.0 in let j = i.0 in omega arith)
      ]
  fails_if (clause t l) =
      let small = (bounded at b f).clause in
      elim around.clause.is [
        | inl z ↦ absurd (omega arith)
        | inr (q, a, lt, g, m, k) ↦
            let u : a.is_try ≡ true = clause_try a a.is_try refl refl (omega arith) in
            let j = clause_is a u in
            let big = (bounded q a g).clause in
            fails_by q a lt g m (λ s. let h = s.1 t in let i = h.1 u in omega arith)
      ]

  abbrev Misfit : ℕ → Type 0
  Misfit n = (n ≡ most) ⊎ ((a : Block) × (d : Block) × IsIn blocks a × IsIn blocks d × (d.clause ≡ n) × FailsBy a d)

  misfit_at : (t : Bool) → stands_in b r ≡ t → Misfit (if t then most else b.clause)
  misfit_at true k = inl refl
  misfit_at false k = let h = fails_if (fault_if b r k) in inr (h.0, b, h.1, (at, f), refl, h.2)

  misfit_not : (t : Bool) → stands_in b r ≡ t → b.clause < (if t then most else b.clause) → (q : ℕ) (a : Block) → q < at → slice_get blocks q ≡ Some a → StandsBy a b
  misfit_not true k l = stands_all (stands_if b r k)
  misfit_not false k l = absurd (omega arith)

  pub within_more : (first : ℕ) → IsFirstWithin blocks at first → IsFirstWithin blocks (at + 1) (min first (misfit b r))
  within_more first old = record {
    before = λ q k a d l m g h s.
        elim (cases_lt k at) [
          | inl less ↦ old.before q k a d l less g h (below_min first (misfit b r) d.clause s).0
          | inr more ↦
              let j : b ≡ d = one_look blocks at k b d (omega arith) f h in
              let n = (below_min first (misfit b r) d.clause s).1 in
              subst (StandsBy a) j (misfit_not (stands_in b r) refl (subst (λ (x : Block). x.clause < misfit b r) (sym j) n) q a (omega arith) g)
        ];
    at = elim (lesser first (misfit b r)) [ inl l ↦ subst Misfit (sym l) old.at | inr l ↦ subst Misfit (sym l) (misfit_at (stands_in b r) refl) ];
  }

pub none_within : (blocks : List Block) → IsFirstWithin blocks 0 most
none_within blocks = record { before = λ q k a b l m e f s. absurd (omega arith); at = inl refl }

-- ---- what has begun before a run

begun_later : (blocks : List Block) (n place later : ℕ) (b : Begun) → place ≤ later → HasBegun blocks n place b → HasBegun blocks n later b
begun_later blocks n place later b le has = record {
  starts = numbers_later by_start blocks n place later (pairs_of b.starts) le has.starts;
  ends = numbers_later by_end blocks n place later (pairs_of b.ends) le has.ends;
  clauses = numbers_later by_clause blocks n place later (pairs_of b.clauses) le has.clauses;
}

pub begun_by : (blocks : List Block) (run at : ℕ) (b : Block) (begun : Begun) → AreOrdered blocks → IsRun blocks run at → slice_get blocks at ≡ Some b
    → ((c : Block) → slice_get blocks run ≡ Some c → HasBegun blocks run c.range.from begun) → HasBegun blocks run b.range.from begun
begun_by blocks run at b begun ordered is f has =
    let below = is.below in
    let lt = slice_get_within blocks at b f in
    let c = there blocks run (omega arith) in
    let le : c.0.range.from ≤ b.range.from =
    elim (cases_eq run at) [
      | inl k ↦ subst (λ (x : Block). c.0.range.from ≤ x.range.from) (one_look blocks run at c.0 b k c.1 f) (omega arith)
      | inr k ↦ elim (ordered run at c.0 b (omega (arith, k)) c.1 f).0 [ inl l ↦ omega arith | inr l ↦ let m = l.0 in omega arith ]
    ] in
    begun_later blocks run c.0.range.from b.range.from begun le (has c.0 c.1)

pub begun_here : (blocks : List Block) (run at : ℕ) (b : Block) (begun : Begun) → IsRun blocks run (at + 1) → run ≤ at → slice_get blocks at ≡ Some b → HasBegun blocks run b.range.from begun
    → (c : Block) → slice_get blocks run ≡ Some c → HasBegun blocks run c.range.from begun
begun_here blocks run at b begun is below f has c e = subst (λ (n : ℕ). HasBegun blocks run n begun) (is.one at b c below (omega arith) f e).0 has
