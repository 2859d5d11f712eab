-- The order of blocks, from what a sort says of neighbours.
use Rattle.std.proofs.Common.{◌≡◌, inl, inr, ℕ, zero, suc, ◌+◌, ◌-◌, ◌<◌, ◌≤◌, Bool, true, false, List, length, get_or, Some, refl, sym, ap, subst, ◌∙◌, arith}
use Rattle.std.specs.List.{slice_get}
use Rattle.std.specs.Ordering.{nat_cmp, bool_cmp, ordering_then, is_lt, MatchOrdering}
use Rattle.std.specs.Cmp.{ranks}
use Rattle.std.specs.declared.cmp.Ordering.{Ordering}
use Rattle.std.specs.declared.cmp.Ordering.TheVariants.{Less, Equal, Greater}
use Rattle.std.proofs.lemmas.Option.{get_or_from_slice_get, slice_get_within}
use Rattle.il_code.specs.declared.blocks.Block.{Block}
use Rattle.il_code.specs.Blocks.{IsSame, Before, AreOrdered}
use Rattle.il_code.proofs.Looks.{there}
use Rattle.il_code.proofs.Runs.{between, same_trans, same_back}

abbrev pub Follows : Block → Block → Type 0
Follows a b = Before a b × (IsSame a b → a.shares ≡ true → b.shares ≡ true)

-- the order of the keys of a later and an earlier block
abbrev pub later_cmp : Block → Block → Ordering
later_cmp b a = ordering_then (ordering_then (nat_cmp b.range.from a.range.from) (nat_cmp a.range.to b.range.to)) (bool_cmp b.shares a.shares)

shares_by : (s t : Bool) → is_lt (bool_cmp t s) ≡ false → s ≡ true → t ≡ true
shares_by true true h e = refl
shares_by true false h e = absurd cc
shares_by false t h e = absurd cc

follows_by : (a b : Block) (r s : Ordering) → MatchOrdering r (b.range.from < a.range.from) (b.range.from ≡ a.range.from) (a.range.from < b.range.from)
    → MatchOrdering s (a.range.to < b.range.to) (a.range.to ≡ b.range.to) (b.range.to < a.range.to)
    → is_lt (ordering_then (ordering_then r s) (bool_cmp b.shares a.shares)) ≡ false → Follows a b
follows_by a b Less s m n h = absurd cc
follows_by a b Greater s m n h = (inl m, λ e. absurd (let k = e.0 in omega arith))
follows_by a b Equal Less m n h = absurd cc
follows_by a b Equal Greater m n h = (inr (sym m, omega arith), λ e. absurd (let k = e.1 in omega arith))
follows_by a b Equal Equal m n h = (inr (sym m, omega arith), λ e. shares_by a.shares b.shares h)

pub follows_if : (a b x y : Block) → x ≡ b → y ≡ a → is_lt (later_cmp x y) ≡ false → Follows a b
follows_if a b x y e f h =
    let k : is_lt (later_cmp b a) ≡ false = subst (λ (z : Block). is_lt (later_cmp b z) ≡ false) f (subst (λ (z : Block). is_lt (later_cmp z y) ≡ false) e h) in
    follows_by a b (nat_cmp b.range.from a.range.from) (nat_cmp a.range.to b.range.to) (ranks b.range.from a.range.from) (ranks a.range.to b.range.to) k

before_trans : (a c b : Block) → Before a c → Before c b → Before a b
before_trans a c b (inl h) (inl k) = inl (omega arith)
before_trans a c b (inl h) (inr k) = let e = k.0 in inl (omega arith)
before_trans a c b (inr h) (inl k) = let e = h.0 in inl (omega arith)
before_trans a c b (inr h) (inr k) = let e = h.0 in let f = k.0 in let g = h.1 in let i = k.1 in inr (omega arith, omega arith)

follows_trans : (a c b : Block) → Follows a c → Follows c b → Follows a b
follows_trans a c b h k =
    (before_trans a c b h.0 k.0, λ s t. let m = between a c b h.0 k.0 s in k.1 (same_trans c a b (same_back a c m) s) (h.1 m t))

module _ (blocks : List Block) (next : (k : ℕ) (d : Block) → 0 ≤ k → k + 1 < length blocks → is_lt (later_cmp (get_or blocks (k + 1) d) (get_or blocks k d)) ≡ false) where
  neighbours : (k : ℕ) (a b : Block) → slice_get blocks k ≡ Some a → slice_get blocks (k + 1) ≡ Some b → Follows a b
  neighbours k a b e f =
      follows_if a b (get_or blocks (k + 1) a) (get_or blocks k a) (get_or_from_slice_get blocks (k + 1) b a f) (get_or_from_slice_get blocks k a a e)
      (next k a (omega arith) (slice_get_within blocks (k + 1) b f))

  far : (n q : ℕ) (a b : Block) → slice_get blocks q ≡ Some a → slice_get blocks (q + 1 + n) ≡ Some b → Follows a b
  far zero q a b e f = neighbours q a b e (let z : q + 1 + 0 ≡ q + 1 = omega arith in ap (slice_get blocks) (sym z) ∙ f)
  far (suc n) q a b e f =
      let lt = slice_get_within blocks (q + 1 + suc n) b f in
      let c = there blocks (q + 1 + n) (omega arith) in
      let z : q + 1 + suc n ≡ q + 1 + n + 1 = omega arith in
      follows_trans a c.0 b (far n q a c.0 e c.1) (neighbours (q + 1 + n) c.0 b c.1 (ap (slice_get blocks) (sym z) ∙ f))

  pub are_ordered : AreOrdered blocks
  are_ordered q k a b lt e f =
      let n : (m : ℕ) × (q + 1 + m ≡ k) = (k - (q + 1), omega arith) in
      far n.0 q a b e (ap (slice_get blocks) n.1 ∙ f)
