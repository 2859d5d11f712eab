-- Two clauses, by the pairs of their blocks.
use Rattle.std.proofs.Common.{◌≡◌, ◌⊎◌, inl, inr, ℕ, ◌<◌, ◌≤◌, nat_le, Bool, true, false, not, ◌&&◌, ◌||◌, ◌==◌, refl, sym, arith}
use Rattle.std.proofs.lemmas.Bool.{cases_eq, le-leb, lt-ltb, eq-eqb, eqb-true, leb-true, ltb-true}
use Rattle.il_base.specs.declared.body.Handler.{Handler}
use Rattle.il_base.specs.declared.body_grammar.body.Range.{Range}
use Rattle.il_base.specs.body_grammar.HandlerRules.{try_of, handler_of, are_disjoint, lies_in, is_same, lies_strictly_in, nest, nest_apart, ranges_fit, nests_right, fits_beside}
use Rattle.il_code.specs.declared.blocks.Block.{Block}
use Rattle.il_code.specs.Blocks.{try_block, handler_block, Ends, Holds, HoldsHandler, IsSame}
use Rattle.il_code.specs.Nesting.{StandsAlone}
use Rattle.il_code.proofs.Looks.{both_true, either_true, lies, same, differ}
use Rattle.il_code.proofs.Pairs.{Pair}

-- ---- tests

or_left : (s t : Bool) → s ≡ true → (s || t) ≡ true
or_left s t h = rw h refl

or_right : (s t : Bool) → t ≡ true → (s || t) ≡ true
or_right true t h = refl
or_right false t h = h

pub and_both : (s t : Bool) → s ≡ true → t ≡ true → (s && t) ≡ true
and_both s t h k = rw h k

only_if : (s t : Bool) → (s ≡ true → t ≡ true) → (not s || t) ≡ true
only_if true t h = h refl
only_if false t h = refl

lies_true : (r s : Range) → s.from ≤ r.from → r.to ≤ s.to → lies_in r s ≡ true
lies_true r s h k = rw (le-leb s.from r.from h, le-leb r.to s.to k) refl

apart_true : (r s : Range) → (r.from ≡ s.from → r.to ≡ s.to → ⊥) → not (is_same r s) ≡ true
apart_true r s h =
    let G : Bool → Type 0 = λ t. is_same r s ≡ t → not t ≡ true in
    (elim (is_same r s) as G [ true ↦ λ k. absurd (let e = same r s k in h e.0 e.1) | false ↦ λ k. refl ]) refl

strictly : (r s : Range) → lies_strictly_in r s ≡ true → (lies_in r s ≡ true) × (is_same r s ≡ false)
unfolding lies_strictly_in
strictly r s h =
    let p = both_true _ _ h in
    let G : Bool → Type 0 = λ t. not t ≡ true → t ≡ false in
    (p.0, (elim (is_same r s) as G [ true ↦ λ k. absurd cc | false ↦ λ k. refl ]) p.1)

disjoint_left : (r s : Range) → r.to ≤ s.from → are_disjoint r s ≡ true
disjoint_left r s h = rw (le-leb r.to s.from h) refl

disjoint_right : (r s : Range) → s.to ≤ r.from → are_disjoint r s ≡ true
disjoint_right r s h = or_right (nat_le r.to s.from) (nat_le s.to r.from) (le-leb s.to r.from h)

-- the ranges of two blocks are nested
nest_true : (a b : Block) → Pair a b → nest b.range a.range ≡ true
unfolding nest
nest_true a b p =
    elim p.nests [
      | inl (inl ends) ↦ or_left _ _ (or_left _ _ (disjoint_right b.range a.range ends))
      | inl (inr ends) ↦ or_left _ _ (or_left _ _ (disjoint_left b.range a.range ends))
      | inr (inl holds) ↦ or_left _ _ (or_right (are_disjoint b.range a.range) _ (lies_true b.range a.range holds.0 holds.1))
      | inr (inr holds) ↦ or_right (are_disjoint b.range a.range || lies_in b.range a.range) _ (lies_true a.range b.range holds.0 holds.1)
    ]

nest_apart_true : (a b : Block) → Pair a b → (b.shares ≡ false) ⊎ (a.shares ≡ false) → nest_apart b.range a.range ≡ true
unfolding nest_apart
nest_apart_true a b p alone =
    and_both _ _ (nest_true a b p) (apart_true b.range a.range (λ e f. let s = p.same (sym e, sym f) in elim alone [ inl h ↦ (let k = s.1 in cc) | inr h ↦ (let k = s.0 in cc) ]))

-- ---- what tests say

nests_by : (a b : Block) → nest b.range a.range ≡ true → (Ends a b ⊎ Ends b a) ⊎ (Holds a b ⊎ Holds b a)
unfolding nest
nests_by a b h =
    elim (either_true _ _ h) [
      | inr l ↦ inr (inr (lies a.range b.range l))
      | inl k ↦
          elim (either_true _ _ k) [
            | inr l ↦ inr (inl (lies b.range a.range l))
            | inl l ↦ elim (either_true _ _ l) [ inl m ↦ inl (inr (leb-true b.range.to a.range.from m)) | inr m ↦ inl (inl (leb-true a.range.to b.range.from m)) ]
          ]
    ]

not_true : (t : Bool) → not t ≡ true → t ≡ true → ⊥
not_true true h k = cc
not_true false h k = cc

then_true : (s t : Bool) → (not s || t) ≡ true → s ≡ true → t ≡ true
then_true true t h k = h
then_true false t h k = absurd cc

same_true : (a b : Block) → IsSame a b → is_same b.range a.range ≡ true
same_true a b s = and_both _ _ (eq-eqb b.range.from a.range.from (sym s.0)) (eq-eqb b.range.to a.range.to (sym s.1))

apart_by : (a b : Block) → nest_apart b.range a.range ≡ true → (nest b.range a.range ≡ true) × (IsSame a b → ⊥)
unfolding nest_apart
apart_by a b h = let p = both_true _ _ h in (p.0, λ s. not_true _ p.1 (same_true a b s))

strictly_by : (a b : Block) → Holds a b → (IsSame a b → ⊥) → lies_strictly_in b.range a.range ≡ true
unfolding lies_strictly_in
strictly_by a b h n = and_both _ _ (lies_true b.range a.range h.0 h.1) (apart_true b.range a.range (λ e f. n (sym e, sym f)))

-- ---- two clauses

-- a block of a clause
abbrev pub IsOf : ℕ → Handler → Block → Type 0
IsOf i h b = (b ≡ try_block i h) ⊎ (b ≡ handler_block i h)

module _ (i : ℕ) (h : Handler) (j : ℕ) (k : Handler) where
  shared_true : Pair (try_block j k) (try_block i h) → (not (is_same (try_of h) (try_of k)) || (h.kind == 0 && k.kind == 0)) ≡ true
  shared_true p = only_if _ _ (λ e. let s = same (try_of h) (try_of k) e in let q = p.same (sym s.0, sym s.1) in and_both _ _ q.1 q.0)

  ranges_true : Pair (try_block j k) (try_block i h) → Pair (handler_block j k) (try_block i h) → Pair (try_block j k) (handler_block i h) → Pair (handler_block j k) (handler_block i h) → ranges_fit h k ≡ true
  unfolding ranges_fit
  ranges_true tt' th ht hh =
      and_both _ _ (and_both _ _ (and_both _ _ (and_both _ _ (nest_true (try_block j k) (try_block i h) tt') (shared_true tt'))
      (nest_apart_true (handler_block j k) (try_block i h) th (inr refl)))
      (nest_apart_true (try_block j k) (handler_block i h) ht (inl refl)))
      (nest_apart_true (handler_block j k) (handler_block i h) hh (inl refl))

  right_true : Pair (try_block j k) (try_block i h) → Pair (handler_block j k) (try_block i h) → nests_right i h j k ≡ true
  unfolding nests_right
  right_true tt' th =
      and_both _ _
      (only_if _ _ (λ e.
      let s = strictly (try_of h) (try_of k) e in
      let l = lies (try_of h) (try_of k) s.0 in
      let d = differ (try_of h) (try_of k) s.1 in
      let r = tt'.inside refl l (λ (x : IsSame (try_block j k) (try_block i h)). d (sym x.0) (sym x.1)) in
      let w = r.0 in
      and_both _ _ (lt-ltb i j (r.1 refl)) (lies_true (handler_of h) (try_of k) w.0 w.1)))
      (only_if _ _ (λ e.
      let s = strictly (try_of h) (handler_of k) e in
      let l = lies (try_of h) (handler_of k) s.0 in
      let d = differ (try_of h) (handler_of k) s.1 in
      let r = th.inside refl l (λ (x : IsSame (handler_block j k) (try_block i h)). d (sym x.0) (sym x.1)) in
      let w = r.0 in
      lies_true (handler_of h) (handler_of k) w.0 w.1))

  pub beside_true : ((i ≡ j → ⊥) → Pair (try_block j k) (try_block i h)) → ((i ≡ j → ⊥) → Pair (handler_block j k) (try_block i h)) → ((i ≡ j → ⊥) → Pair (try_block j k) (handler_block i h)) → ((i ≡ j → ⊥) → Pair (handler_block j k) (handler_block i h)) → fits_beside i h j k ≡ true
  unfolding fits_beside
  beside_true tt' th ht hh =
      elim (cases_eq i j) [
        | inl e ↦ or_left _ _ (eq-eqb i j e)
        | inr n ↦ or_right (i == j) _ (and_both _ _ (ranges_true (tt' n) (th n) (ht n) (hh n)) (right_true (tt' n) (th n)))
      ]

  -- ---- and back

  record Fits : Type 0 where
    ranges : ranges_fit h k ≡ true
    right : nests_right i h j k ≡ true

  fits_by : fits_beside i h j k ≡ true → (i ≡ j → ⊥) → Fits
  unfolding fits_beside
  fits_by e n =
      elim (either_true _ _ e) [
        | inl same ↦ absurd (n (eqb-true i j same))
        | inr both ↦ let p = both_true _ _ both in record { ranges = p.0; right = p.1 }
      ]

  record Ranges : Type 0 where
    tried_tried : nest (try_of h) (try_of k) ≡ true
    shared : (not (is_same (try_of h) (try_of k)) || (h.kind == 0 && k.kind == 0)) ≡ true
    tried_caught : nest_apart (try_of h) (handler_of k) ≡ true
    caught_tried : nest_apart (handler_of h) (try_of k) ≡ true
    caught_caught : nest_apart (handler_of h) (handler_of k) ≡ true

  ranges_by : ranges_fit h k ≡ true → Ranges
  unfolding ranges_fit
  ranges_by e =
      let p = both_true _ _ e in
      let q = both_true _ _ p.0 in
      let r = both_true _ _ q.0 in
      let s = both_true _ _ r.0 in
      record { tried_tried = s.0; shared = s.1; tried_caught = r.1; caught_tried = q.1; caught_caught = p.1 }

  in_try : nests_right i h j k ≡ true → Holds (try_block j k) (try_block i h) → (IsSame (try_block j k) (try_block i h) → ⊥) → HoldsHandler (try_block j k) (try_block i h) × (i < j)
  unfolding nests_right
  in_try e holds apart =
      let p = both_true _ _ e in
      let q = both_true _ _ (then_true _ _ p.0 (strictly_by (try_block j k) (try_block i h) holds apart)) in
      (lies (handler_of h) (try_of k) q.1, ltb-true i j q.0)

  in_handler : nests_right i h j k ≡ true → Holds (handler_block j k) (try_block i h) → (IsSame (handler_block j k) (try_block i h) → ⊥) → HoldsHandler (handler_block j k) (try_block i h)
  unfolding nests_right
  in_handler e holds apart = lies (handler_of h) (handler_of k) (then_true _ _ (both_true _ _ e).1 (strictly_by (handler_block j k) (try_block i h) holds apart))

  tried_tried : Fits → Pair (try_block j k) (try_block i h)
  tried_tried f =
      let r = ranges_by f.ranges in
      record {
        nests = nests_by (try_block j k) (try_block i h) r.tried_tried;
        same = λ s. let t = both_true _ _ (then_true _ _ r.shared (same_true (try_block j k) (try_block i h) s)) in (t.1, t.0);
        inside = λ t holds apart. let w = in_try f.right holds apart in (w.0, λ u. w.1);
      }

  tried_caught : Fits → Pair (handler_block j k) (try_block i h)
  tried_caught f =
      let r = apart_by (handler_block j k) (try_block i h) (ranges_by f.ranges).tried_caught in
      record {
        nests = nests_by (handler_block j k) (try_block i h) r.0;
        same = λ s. absurd (r.1 s);
        inside = λ t holds apart. (in_handler f.right holds apart, λ u. absurd cc);
      }

  caught_tried : Fits → Pair (try_block j k) (handler_block i h)
  caught_tried f =
      let r = apart_by (try_block j k) (handler_block i h) (ranges_by f.ranges).caught_tried in
      record {
        nests = nests_by (try_block j k) (handler_block i h) r.0;
        same = λ s. absurd (r.1 s);
        inside = λ t holds apart. absurd cc;
      }

  caught_caught : Fits → Pair (handler_block j k) (handler_block i h)
  caught_caught f =
      let r = apart_by (handler_block j k) (handler_block i h) (ranges_by f.ranges).caught_caught in
      record {
        nests = nests_by (handler_block j k) (handler_block i h) r.0;
        same = λ s. absurd (r.1 s);
        inside = λ t holds apart. absurd cc;
      }

  -- a block of each clause
  pub of_two : fits_beside i h j k ≡ true → (i ≡ j → ⊥) → (a b : Block) → IsOf j k a → IsOf i h b → Pair a b
  of_two e n a b (inl s) (inl t) = rw (s, t) (tried_tried (fits_by e n))
  of_two e n a b (inr s) (inl t) = rw (s, t) (tried_caught (fits_by e n))
  of_two e n a b (inl s) (inr t) = rw (s, t) (caught_tried (fits_by e n))
  of_two e n a b (inr s) (inr t) = rw (s, t) (caught_caught (fits_by e n))

-- ---- the blocks of one clause

disjoint_by : (a b : Block) → are_disjoint b.range a.range ≡ true → Ends a b ⊎ Ends b a
disjoint_by a b h = elim (either_true _ _ h) [ inl m ↦ inr (leb-true b.range.to a.range.from m) | inr m ↦ inl (leb-true a.range.to b.range.from m) ]

module _ (i : ℕ) (h : Handler) (alone : StandsAlone h) where
  own_ends : Ends (handler_block i h) (try_block i h) ⊎ Ends (try_block i h) (handler_block i h)
  own_ends = disjoint_by (handler_block i h) (try_block i h) (both_true _ _ alone).0

  own_apart : IsSame (handler_block i h) (try_block i h) → ⊥
  own_apart s = not_true _ (both_true _ _ alone).1 (same_true (handler_block i h) (try_block i h) s)

  pub of_one : (a b : Block) → IsOf i h a → IsOf i h b → IsSame a b ⊎ Pair a b
  of_one a b (inl s) (inl t) = inl (rw (s, t) (refl, refl))
  of_one a b (inr s) (inr t) = inl (rw (s, t) (refl, refl))
  of_one a b (inr s) (inl t) = inr (rw (s, t) record {
    nests = inl own_ends;
    same = λ e. absurd (own_apart e);
    inside = λ u holds apart. ((omega arith, omega arith), λ v. absurd cc);
  })
  of_one a b (inl s) (inr t) = inr (rw (s, t) record {
    nests = inl (elim own_ends [ inl e ↦ inr e | inr e ↦ inl e ]);
    same = λ e. absurd (own_apart (sym e.0, sym e.1));
    inside = λ u holds apart. absurd cc;
  })
