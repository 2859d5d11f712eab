-- Two blocks that keep the rules beside each other.
use Rattle.std.proofs.Common.{◌≡◌, ◌⊎◌, inl, inr, ◌<◌, ◌≤◌, true, arith}
use Rattle.il_code.specs.declared.blocks.Block.{Block}
use Rattle.il_code.specs.Blocks.{turned, IsBounded, Ends, Holds, HoldsHandler, IsSame, Before, StandsIn, StandsBy, FailsBy}

pub record Pair (a b : Block) : Type 0 where
  pub nests : (Ends a b ⊎ Ends b a) ⊎ (Holds a b ⊎ Holds b a)
  pub same : IsSame a b → (a.shares ≡ true) × (b.shares ≡ true)
  pub inside : b.is_try ≡ true → Holds a b → (IsSame a b → ⊥) → HoldsHandler a b × (a.is_try ≡ true → b.clause < a.clause)

-- what the walk over blocks in order says of them
abbrev pub IsBeside : Block → Block → Type 0
IsBeside a b = StandsBy a b ⊎ Before b a

module _ (a b : Block) (u : IsBounded a) (v : IsBounded b) where
  stands_back : StandsIn (turned a) (turned b) → StandsIn a b
  stands_back s =
      let h = s.0 in
      let h0 = h.0 in
      let h1 = h.1 in
      let vl = v.last in
      let ur = u.range in
      let ul = u.last in (
        (omega arith, omega arith),
        λ t.
            let k = s.1 t in
            let k0 = k.0 in
            let k1 = k0.0 in
            let k2 = k0.1 in
            let vh = v.handler_last in
            ((omega arith, omega arith), k.1),
      )

  inside_of : IsBeside a b → IsBeside (turned a) (turned b) → b.is_try ≡ true → Holds a b → (IsSame a b → ⊥) → HoldsHandler a b × (a.is_try ≡ true → b.clause < a.clause)
  inside_of (inr (inl less)) back t h n = absurd (let k = h.0 in omega arith)
  inside_of (inr (inr at)) back t h n = absurd (let k = at.0 in let l = at.1 in let m = h.1 in n (omega arith, omega arith))
  inside_of (inl (inr (inl s))) back t h n = absurd (n s)
  inside_of (inl (inr (inr s))) back t h n = s.1 t
  inside_of (inl (inl ends)) (inl (inr (inr s))) t h n = (stands_back s).1 t
  inside_of (inl (inl ends)) (inl (inl back)) t h n =
      absurd (let h0 = h.0 in let h1 = h.1 in let ur = u.range in let vr = v.range in let ul = u.last in let vl = v.last in n (omega arith, omega arith))
  inside_of (inl (inl ends)) (inl (inr (inl s))) t h n =
      absurd (let s0 = s.0 in let s1 = s.1 in let ur = u.range in let vr = v.range in let ul = u.last in let vl = v.last in n (omega arith, omega arith))
  inside_of (inl (inl ends)) (inr (inl less)) t h n = absurd (let h1 = h.1 in let ul = u.last in let vl = v.last in omega arith)
  inside_of (inl (inl ends)) (inr (inr at)) t h n =
      absurd (let a0 = at.0 in let a1 = at.1 in let h0 = h.0 in let h1 = h.1 in let ur = u.range in let vr = v.range in let ul = u.last in let vl = v.last in n (omega arith, omega arith))

  nests_of : IsBeside a b → IsBeside (turned a) (turned b) → (Ends a b ⊎ Ends b a) ⊎ (Holds a b ⊎ Holds b a)
  nests_of (inl (inl ends)) back = inl (inl ends)
  nests_of (inl (inr (inl s))) back = let s0 = s.0 in let s1 = s.1 in inr (inl (omega arith, omega arith))
  nests_of (inl (inr (inr s))) back = inr (inl s.0)
  nests_of (inr before) (inl (inl ends)) = let ur = u.range in let ul = u.last in let vl = v.last in inl (inr (omega arith))
  nests_of (inr before) (inl (inr (inl s))) =
      let s0 = s.0 in
      let s1 = s.1 in
      let ur = u.range in
      let vr = v.range in
      let ul = u.last in
      let vl = v.last in
      inr (inl (omega arith, omega arith))
  nests_of (inr before) (inl (inr (inr s))) = inr (inl (stands_back s).0)
  nests_of (inr before) (inr back) =
      let ur = u.range in
      let vr = v.range in
      let ul = u.last in
      let vl = v.last in
      let from : b.range.from ≤ a.range.from = elim before [ inl l ↦ omega arith | inr l ↦ let m = l.0 in omega arith ] in
      let to : a.range.to ≤ b.range.to = elim back [ inl l ↦ omega arith | inr l ↦ let m = l.0 in omega arith ] in
      inr (inr (from, to))

  pub pair_of : IsBeside a b → IsBeside (turned a) (turned b) → (IsSame a b → (a.shares ≡ true) × (b.shares ≡ true)) → Pair a b
  pair_of front back same = record { nests = nests_of front back; same = same; inside = inside_of front back }

  -- and back
  turned_nests : (Ends a b ⊎ Ends b a) ⊎ (Holds a b ⊎ Holds b a) → (Ends (turned a) (turned b) ⊎ Ends (turned b) (turned a)) ⊎ (Holds (turned a) (turned b) ⊎ Holds (turned b) (turned a))
  turned_nests (inl (inl ends)) = inl (inr (omega arith))
  turned_nests (inl (inr ends)) = inl (inl (omega arith))
  turned_nests (inr (inl h)) = let h0 = h.0 in let h1 = h.1 in inr (inl (omega arith, omega arith))
  turned_nests (inr (inr h)) = let h0 = h.0 in let h1 = h.1 in inr (inr (omega arith, omega arith))

  same_back : IsSame (turned a) (turned b) → IsSame a b
  same_back s =
      let s0 = s.0 in
      let s1 = s.1 in
      let ur = u.range in
      let vr = v.range in
      let ul = u.last in
      let vl = v.last in
      (omega arith, omega arith)

  same_on : IsSame a b → IsSame (turned a) (turned b)
  same_on s = let s0 = s.0 in let s1 = s.1 in (omega arith, omega arith)

  pub turned_pair : Pair a b → Pair (turned a) (turned b)
  turned_pair p = record {
    nests = turned_nests p.nests;
    same = λ s. p.same (same_back s);
    inside = λ t h n.
        let h0 = h.0 in
        let h1 = h.1 in
        let ur = u.range in
        let vr = v.range in
        let ul = u.last in
        let vl = v.last in
        let k = p.inside t (omega arith, omega arith) (λ s. n (same_on s)) in
        let k0 = k.0 in
        let k1 = k0.0 in
        let k2 = k0.1 in
        ((omega arith, omega arith), k.1);
  }

  pub turned_same : IsSame (turned a) (turned b) → IsSame a b
  turned_same = same_back

pub never_fails : (a b : Block) → b.range.from ≤ b.range.to → Pair a b → FailsBy a b → ⊥
never_fails a b le p f =
    let meets = f.meets in
    let holds : Holds a b =
    elim p.nests [
      | inl (inl ends) ↦ absurd (omega arith)
      | inl (inr ends) ↦ elim f.before [ inl l ↦ absurd (omega arith) | inr l ↦ let l0 = l.0 in let l1 = l.1 in (omega arith, omega arith) ]
      | inr (inl h) ↦ h
      | inr (inr h) ↦ let h0 = h.0 in let h1 = h.1 in elim f.before [ inl l ↦ absurd (omega arith) | inr l ↦ let l0 = l.0 in let l1 = l.1 in (omega arith, omega arith) ]
    ] in
    f.fails (holds, λ t. p.inside t holds f.apart)
