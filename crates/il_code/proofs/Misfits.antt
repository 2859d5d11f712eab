-- The first clause that breaks the rules on pairs, from the first ones that walks over the blocks find.
use Rattle.std.proofs.Common.{◌≡◌, ◌⊎◌, inl, inr, ℕ, zero, suc, ◌+◌, ◌<◌, ◌≤◌, min, Bool, true, false, List, [], ◌∷◌, ◌++◌, length, length-append, append_assoc, map, get_or, drop, Option, Some, None, refl, sym, ap, ap₂, subst, ◌∙◌, arith}
use Rattle.std.specs.List.{slice_get, Contains}
use Rattle.std.specs.List.Sorted.{IsPermutation}
use Rattle.std.specs.Option.{option_map}
use Rattle.std.proofs.lemmas.Bool.{cases_eq, cases_lt}
use Rattle.std.proofs.lemmas.List.{at_drop_more}
use Rattle.std.proofs.lemmas.List.Sorted.{Contains-permutation, IsPermutation-sym}
use Rattle.std.proofs.lemmas.Option.{slice_get_within, slice_get-get_or, slice_get-map, get_or_from_slice_get}
use Rattle.il_base.specs.declared.body.Handler.{Handler}
use Rattle.il_base.specs.body_grammar.HandlerRules.{fits_beside, fits_beside_all}
use Rattle.il_code.specs.declared.blocks.Block.{Block}
use Rattle.il_code.specs.Blocks.{most, try_block, handler_block, blocks_from, turned, IsBounded, AreBounded, AreOrdered, IsSame, FailsBy, MayShare, IsIn}
use Rattle.il_code.specs.Nesting.{IsFirstAlike, IsFirstWithin, IsFirstMisfit, StandsAlone}
use Rattle.il_code.proofs.Looks.{both_true, some_is, one_look}
use Rattle.il_code.proofs.Runs.{lesser}
use Rattle.il_code.proofs.Pairs.{Pair, IsBeside, pair_of, turned_pair, never_fails}
use Rattle.il_code.proofs.Clauses.{IsOf, of_two, of_one, beside_true, and_both}

-- ---- places in lists

from_in : (xs : List Block) (b : Block) → IsIn xs b → Contains xs b
from_in xs b h = (h.0, slice_get_within xs h.0 b h.1, get_or_from_slice_get xs h.0 b b h.1)

to_in : (xs : List Block) (b : Block) → Contains xs b → IsIn xs b
to_in xs b c = (c.0, slice_get-get_or xs c.0 b c.1 ∙ ap (λ (y : Block). Some y) c.2)

moved_in : (xs ys : List Block) (b : Block) → IsPermutation xs ys → IsIn xs b → IsIn ys b
moved_in xs ys b m h = to_in ys b (Contains-permutation xs ys b m (from_in xs b h))

turned_in : (xs : List Block) (b : Block) → IsIn xs b → IsIn (map turned xs) (turned b)
turned_in xs b h = (h.0, slice_get-map turned xs h.0 ∙ ap (option_map turned) h.1)

unturned : (o : Option Block) (b : Block) → option_map turned o ≡ Some b → (a : Block) × (o ≡ Some a) × (turned a ≡ b)
unturned (Some a) b e = (a, refl, some_is (turned a) b e)
unturned None b e = absurd cc

unturned_in : (xs : List Block) (b : Block) → IsIn (map turned xs) b → (a : Block) × IsIn xs a × (turned a ≡ b)
unturned_in xs b h = let u = unturned (slice_get xs h.0) b (sym (slice_get-map turned xs h.0) ∙ h.1) in (u.0, (h.0, u.1), u.2)

slice_front : {A : Type 0} (xs ys : List A) (q : ℕ) → q < length xs → slice_get (xs ++ ys) q ≡ slice_get xs q
slice_front [] ys q lt = absurd (omega arith)
slice_front (x ∷ xs) ys zero lt = refl
slice_front (x ∷ xs) ys (suc q) lt = slice_front xs ys q (omega arith)

slice_seam : {A : Type 0} (xs : List A) (y : A) → slice_get (xs ++ y ∷ []) (length xs) ≡ Some y
slice_seam [] y = refl
slice_seam (x ∷ xs) y = slice_seam xs y

try_in : (start : ℕ) (all : List Handler) (i : ℕ) (h : Handler) → slice_get all i ≡ Some h → IsIn (blocks_from start all) (try_block (start + i) h)
try_in start [] i h e = absurd cc
try_in start (x ∷ all) zero h e =
    let k : x ≡ h = some_is x h e in
    let z : start + 0 ≡ start = omega arith in
    rw z (0, ap (λ (y : Handler). Some (try_block start y)) k)
try_in start (x ∷ all) (suc i) h e =
    let r = try_in (start + 1) all i h e in
    let z : start + 1 + i ≡ start + suc i = omega arith in
    subst (λ (n : ℕ). IsIn (blocks_from start (x ∷ all)) (try_block n h)) z (suc (suc r.0), r.1)

handler_in : (start : ℕ) (all : List Handler) (i : ℕ) (h : Handler) → slice_get all i ≡ Some h → IsIn (blocks_from start all) (handler_block (start + i) h)
handler_in start [] i h e = absurd cc
handler_in start (x ∷ all) zero h e =
    let k : x ≡ h = some_is x h e in
    let z : start + 0 ≡ start = omega arith in
    rw z (1, ap (λ (y : Handler). Some (handler_block start y)) k)
handler_in start (x ∷ all) (suc i) h e =
    let r = handler_in (start + 1) all i h e in
    let z : start + 1 + i ≡ start + suc i = omega arith in
    subst (λ (n : ℕ). IsIn (blocks_from start (x ∷ all)) (handler_block n h)) z (suc (suc r.0), r.1)

-- a block is one of some clause
of_some : (start : ℕ) (all : List Handler) (q : ℕ) (b : Block) → slice_get (blocks_from start all) q ≡ Some b → (n : ℕ) × (h : Handler) × (slice_get all n ≡ Some h) × IsOf (start + n) h b
of_some start [] q b e = absurd cc
of_some start (x ∷ all) zero b e = let z : start + 0 ≡ start = omega arith in (0, x, refl, rw z (inl (sym (some_is (try_block start x) b e))))
of_some start (x ∷ all) (suc zero) b e = let z : start + 0 ≡ start = omega arith in (0, x, refl, rw z (inr (sym (some_is (handler_block start x) b e))))
of_some start (x ∷ all) (suc (suc q)) b e =
    let r = of_some (start + 1) all q b e in
    let z : start + 1 + r.0 ≡ start + suc r.0 = omega arith in
    (suc r.0, r.1, r.2, subst (λ (n : ℕ). IsOf n r.1 b) z r.3)

clause_of : (i : ℕ) (h : Handler) (b : Block) → IsOf i h b → b.clause ≡ i
clause_of i h b (inl e) = ap (λ (x : Block). x.clause) e
clause_of i h b (inr e) = ap (λ (x : Block). x.clause) e

beside_each : (i : ℕ) (h : Handler) (j : ℕ) (rest : List Handler) → ((n : ℕ) (k : Handler) → slice_get rest n ≡ Some k → fits_beside i h (j + n) k ≡ true) → fits_beside_all i h j rest ≡ true
unfolding fits_beside_all
beside_each i h j [] each = refl
beside_each i h j (k ∷ rest) each =
    let z : j + 0 ≡ j = omega arith in
    and_both _ _ (subst (λ (n : ℕ). fits_beside i h n k ≡ true) z (each 0 k refl))
    (beside_each i h (j + 1) rest (λ n d e. let w : j + suc n ≡ j + 1 + n = omega arith in subst (λ (m : ℕ). fits_beside i h m d ≡ true) w (each (suc n) d e)))

each_beside : (i : ℕ) (h : Handler) (j : ℕ) (rest : List Handler) → fits_beside_all i h j rest ≡ true → (n : ℕ) (k : Handler) → slice_get rest n ≡ Some k → fits_beside i h (j + n) k ≡ true
unfolding fits_beside_all
each_beside i h j [] all n k e = absurd cc
each_beside i h j (d ∷ rest) all zero k e =
    let z : j + 0 ≡ j = omega arith in
    rw z (subst (λ (x : Handler). fits_beside i h j x ≡ true) (some_is d k e) (both_true _ _ all).0)
each_beside i h j (d ∷ rest) all (suc n) k e =
    let z : j + 1 + n ≡ j + suc n = omega arith in
    subst (λ (m : ℕ). fits_beside i h m k ≡ true) z (each_beside i h (j + 1) rest (both_true _ _ all).1 n k e)

-- ---- blocks in order

module _ (all : List Handler) (front back : List Block) (a0 f0 b0 : ℕ) (front_moved : IsPermutation (blocks_from 0 all) front) (back_moved : IsPermutation (map turned front) back) (bounded : AreBounded front) (front_ordered : AreOrdered front) (back_ordered : AreOrdered back) (alike : IsFirstAlike front (length front) a0) (in_front : IsFirstWithin front (length front) f0) (in_back : IsFirstWithin back (length back) b0) where
  beside_in : (xs : List Block) (n : ℕ) → AreOrdered xs → IsFirstWithin xs (length xs) n → (a b : Block) → IsIn xs a → IsIn xs b → (a.clause ≡ b.clause → ⊥) → b.clause < n → IsBeside a b
  beside_in xs n ordered within a b (q, e) (k, f) apart lt =
      elim (cases_lt q k) [
        | inl l ↦ inl (within.before q k a b l (slice_get_within xs k b f) e f lt)
        | inr l ↦
            elim (cases_eq q k) [
              | inl m ↦ absurd (apart (ap (λ (x : Block). x.clause) (one_look xs q k a b m e f)))
              | inr m ↦ inr (ordered k q b a (omega (arith, m)) f e).0
            ]
      ]

  may_be : (a b : Block) → (a.clause ≡ b.clause → ⊥) → MayShare a b → (a.shares ≡ true) × (b.shares ≡ true)
  may_be a b apart (inl e) = absurd (apart e)
  may_be a b apart (inr h) = h

  alike_in : (a b : Block) → IsIn front a → IsIn front b → (a.clause ≡ b.clause → ⊥) → b.clause < a0 → IsSame a b → (a.shares ≡ true) × (b.shares ≡ true)
  alike_in a b (q, e) (k, f) apart lt s =
      elim (cases_lt q k) [
        | inl l ↦ may_be a b apart (alike.before q k a b l (slice_get_within front k b f) e f s (inr lt))
        | inr l ↦
            elim (cases_eq q k) [
              | inl m ↦ absurd (apart (ap (λ (x : Block). x.clause) (one_look front q k a b m e f)))
              | inr m ↦
                  let h = may_be b a (λ (x : b.clause ≡ a.clause). apart (sym x)) (alike.before k q b a (omega (arith, m)) (slice_get_within front q a e) f e (sym s.0, sym s.1) (inl lt)) in
                  (h.1, h.0)
            ]
      ]

  in_turn : (b : Block) → IsIn front b → IsIn back (turned b)
  in_turn b h = moved_in (map turned front) back (turned b) back_moved (turned_in front b h)

  of_two_in : (a b : Block) → IsIn front a → IsIn front b → (a.clause ≡ b.clause → ⊥) → b.clause < min (min a0 f0) b0 → Pair a b
  of_two_in a b at bt apart lt =
      pair_of a b (bounded at.0 a at.1) (bounded bt.0 b bt.1) (beside_in front f0 front_ordered in_front a b at bt apart (omega arith))
      (beside_in back b0 back_ordered in_back (turned a) (turned b) (in_turn a at) (in_turn b bt) apart (omega arith))
      (alike_in a b at bt apart (omega arith))

  tried : (i : ℕ) (h : Handler) → slice_get all i ≡ Some h → IsIn front (try_block i h)
  tried i h e = moved_in (blocks_from 0 all) front (try_block i h) front_moved (let z : 0 + i ≡ i = omega arith in subst (λ (n : ℕ). IsIn (blocks_from 0 all) (try_block n h)) z (try_in 0 all i h e))

  caught : (i : ℕ) (h : Handler) → slice_get all i ≡ Some h → IsIn front (handler_block i h)
  caught i h e = moved_in (blocks_from 0 all) front (handler_block i h) front_moved (let z : 0 + i ≡ i = omega arith in subst (λ (n : ℕ). IsIn (blocks_from 0 all) (handler_block n h)) z (handler_in 0 all i h e))

  fits_before : (i : ℕ) (h : Handler) → i < min (min a0 f0) b0 → slice_get all i ≡ Some h → StandsAlone h → fits_beside_all i h 0 all ≡ true
  fits_before i h lt e alone =
      beside_each i h 0 all (λ j k f.
      let z : 0 + j ≡ j = omega arith in
      subst (λ (n : ℕ). fits_beside i h n k ≡ true) (sym z)
      (beside_true i h j k
      (λ n. of_two_in (try_block j k) (try_block i h) (tried j k f) (tried i h e) (λ (x : j ≡ i). n (sym x)) lt)
      (λ n. of_two_in (handler_block j k) (try_block i h) (caught j k f) (tried i h e) (λ (x : j ≡ i). n (sym x)) lt)
      (λ n. of_two_in (try_block j k) (handler_block i h) (tried j k f) (caught i h e) (λ (x : j ≡ i). n (sym x)) lt)
      (λ n. of_two_in (handler_block j k) (handler_block i h) (caught j k f) (caught i h e) (λ (x : j ≡ i). n (sym x)) lt)))

  -- ---- the first that doesn't fit

  some_clause : (b : Block) → IsIn front b → (n : ℕ) × (h : Handler) × (slice_get all n ≡ Some h) × IsOf n h b
  some_clause b bt =
      let back = moved_in front (blocks_from 0 all) b (IsPermutation-sym (blocks_from 0 all) front front_moved) bt in
      let r = of_some 0 all back.0 b back.1 in
      let z : 0 + r.0 ≡ r.0 = omega arith in
      (r.0, r.1, r.2, subst (λ (n : ℕ). IsOf n r.1 b) z r.3)

  module _ (i : ℕ) (h : Handler) (e : slice_get all i ≡ Some h) (alone : StandsAlone h) (fits : fits_beside_all i h 0 all ≡ true) where
    own : (b : Block) → IsIn front b → b.clause ≡ i → IsOf i h b
    own b bt c =
        let r = some_clause b bt in
        let k : r.0 ≡ i = sym (clause_of r.0 r.1 b r.3) ∙ c in
        let s : r.1 ≡ h = one_look all r.0 i r.1 h k r.2 e in
        subst (λ (x : Handler). IsOf i x b) s (subst (λ (n : ℕ). IsOf n r.1 b) k r.3)

    apart_pair : (a b : Block) → IsIn front a → IsIn front b → b.clause ≡ i → (a.clause ≡ i → ⊥) → Pair a b
    apart_pair a b at bt c n =
        let r = some_clause a at in
        let z : 0 + r.0 ≡ r.0 = omega arith in
        let k = subst (λ (m : ℕ). fits_beside i h m r.1 ≡ true) z (each_beside i h 0 all fits r.0 r.1 r.2) in
        of_two i h r.0 r.1 k (λ (x : i ≡ r.0). n (clause_of r.0 r.1 a r.3 ∙ sym x)) a b r.3 (own b bt c)

    pair_in : (a b : Block) → IsIn front a → IsIn front b → b.clause ≡ i → IsSame a b ⊎ Pair a b
    pair_in a b at bt c =
        elim (cases_eq a.clause i) [
          | inl k ↦ of_one i h alone a b (own a at k) (own b bt c)
          | inr n ↦ inr (apart_pair a b at bt c n)
        ]

    no_failure : (a b : Block) → IsIn front a → IsIn front b → b.clause ≡ i → FailsBy a b → ⊥
    no_failure a b at bt c f = elim (pair_in a b at bt c) [ inl s ↦ f.apart s | inr p ↦ never_fails a b (bounded bt.0 b bt.1).range p f ]

    no_failure_back : (a b : Block) → IsIn back a → IsIn back b → b.clause ≡ i → FailsBy a b → ⊥
    no_failure_back a b at bt c f =
        let undo = IsPermutation-sym (map turned front) back back_moved in
        let u = unturned_in front a (moved_in back (map turned front) a undo at) in
        let v = unturned_in front b (moved_in back (map turned front) b undo bt) in
        let ub = bounded u.1.0 u.0 u.1.1 in
        let vb = bounded v.1.0 v.0 v.1.1 in
        let g : FailsBy (turned u.0) (turned v.0) = subst (λ (x : Block). FailsBy x (turned v.0)) (sym u.2) (subst (FailsBy a) (sym v.2) f) in
        let k : v.0.clause ≡ i = ap (λ (x : Block). x.clause) v.2 ∙ c in
        elim (pair_in u.0 v.0 u.1 v.1 k) [
          | inl s ↦ g.apart (let s0 = s.0 in let s1 = s.1 in (omega arith, omega arith))
          | inr p ↦
              let vr = vb.range in
              let vl = vb.last in
              never_fails (turned u.0) (turned v.0) (omega arith) (turned_pair u.0 v.0 ub vb p) g
        ]

    no_clash : (a b : Block) → IsIn front a → IsIn front b → b.clause ≡ i → IsSame a b → (MayShare a b → ⊥) → ⊥
    no_clash a b at bt c s n =
        elim (cases_eq a.clause i) [
          | inl k ↦ n (inl (k ∙ sym c))
          | inr m ↦ n (inr ((apart_pair a b at bt c m).same s))
        ]

    no_alike : (a b : Block) → IsIn front a → IsIn front b → (a.clause ≡ i) ⊎ (b.clause ≡ i) → IsSame a b → (MayShare a b → ⊥) → ⊥
    no_alike a b at bt (inr c) s n = no_clash a b at bt c s n
    no_alike a b at bt (inl c) s n = no_clash b a bt at c (sym s.0, sym s.1) (λ m. n (elim m [ inl e ↦ inl (sym e) | inr (x, y) ↦ inr (y, x) ]))

    not_first : length all ≤ most → i ≡ min (min a0 f0) b0 → ⊥
    not_first small is =
        let lt = slice_get_within all i h e in
        elim (lesser (min a0 f0) b0) [
          | inr k ↦
              elim in_back.at [
                | inl m ↦ omega arith
                | inr (a, b, at, bt, c, f) ↦ no_failure_back a b at bt (c ∙ sym (is ∙ k)) f
              ]
          | inl k ↦
              elim (lesser a0 f0) [
                | inl l ↦
                    elim alike.at [
                      | inl m ↦ omega arith
                      | inr (a, b, at, bt, c, s, n) ↦
                          let j : a0 ≡ i = sym (is ∙ k ∙ l) in
                          no_alike a b at bt (elim c [ inl x ↦ inl (x ∙ j) | inr x ↦ inr (x ∙ j) ]) s n
                    ]
                | inr l ↦
                    elim in_front.at [
                      | inl m ↦ omega arith
                      | inr (a, b, at, bt, c, f) ↦ no_failure a b at bt (c ∙ sym (is ∙ k ∙ l)) f
                    ]
              ]
        ]

  pub first_misfit : length all ≤ most → IsFirstMisfit all (min (min a0 f0) b0)
  first_misfit small = record {
    before = fits_before;
    at = λ h e alone.
        let G : Bool → Type 0 = λ t. fits_beside_all (min (min a0 f0) b0) h 0 all ≡ t → t ≡ false in
        (elim (fits_beside_all (min (min a0 f0) b0) h 0 all) as G [
          | true ↦ λ fits. absurd (not_first (min (min a0 f0) b0) h e alone fits small refl)
          | false ↦ λ fits. refl
        ]) refl;
  }

-- ---- bounds

pub bounded_more : (xs ys : List Block) (b : Block) → AreBounded xs → IsBounded b → ys ≡ xs ++ b ∷ [] → AreBounded ys
bounded_more xs ys b are is e q a f =
    let g : slice_get (xs ++ b ∷ []) q ≡ Some a = ap (λ (l : List Block). slice_get l q) (sym e) ∙ f in
    elim (cases_lt q (length xs)) [
      | inl l ↦ are q a (sym (slice_front xs (b ∷ []) q l) ∙ g)
      | inr l ↦
          let long = length-append xs (b ∷ []) in
          let lt = slice_get_within (xs ++ b ∷ []) q a g in
          let here : q ≡ length xs = omega arith in
          subst IsBounded (some_is b a (sym (slice_seam xs b) ∙ ap (slice_get (xs ++ b ∷ [])) (sym here) ∙ g)) is
    ]

pub bounded_moved : (xs ys : List Block) → IsPermutation xs ys → AreBounded xs → AreBounded ys
bounded_moved xs ys moved are q b e = let h = moved_in ys xs b (IsPermutation-sym xs ys moved) (q, e) in are h.0 b h.1

pub bounded_turned : (xs : List Block) → AreBounded xs → AreBounded (map turned xs)
bounded_turned xs are q b e =
    let h = unturned_in xs b (q, e) in
    let k = are h.1.0 h.0 h.1.1 in
    let k0 = k.range in
    let k1 = k.handler in
    subst IsBounded h.2 (record { range = omega arith; last = omega arith; handler = omega arith; handler_last = omega arith; clause = k.clause })

-- ---- the list of blocks, as a loop makes it

pub blocks_more : (all : List Handler) (i : ℕ) (d : Handler) (before one two total : List Block) (a b : Block) → i < length all → a ≡ try_block i (get_or all i d) → b ≡ handler_block i (get_or all i d) → one ≡ before ++ a ∷ [] → two ≡ one ++ b ∷ []
    → before ++ blocks_from i (drop i all) ≡ total → two ++ blocks_from (i + 1) (drop (i + 1) all) ≡ total
blocks_more all i d before one two total a b lt s t e f old =
    let rest = blocks_from (i + 1) (drop (i + 1) all) in
    let flat : ((before ++ a ∷ []) ++ b ∷ []) ++ rest ≡ before ++ (a ∷ b ∷ rest) = simp append_assoc in
    let whole = ap (λ (l : List Block). before ++ l) (at_drop_more (blocks_from i) all i d lt) in
    ap (λ (l : List Block). l ++ rest) (f ∙ ap (λ (l : List Block). l ++ b ∷ []) e) ∙ flat ∙ ap₂ (λ (x y : Block). before ++ (x ∷ y ∷ rest)) s t ∙ sym whole ∙ old
