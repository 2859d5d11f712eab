-- The facts that follow are exactly what is carried.
use Rattle.std.proofs.Common.{◌≡◌, ℕ, ◌+◌, ◌<◌, List, ◌++◌, length, arith, refl, sym, ap, ◌∙◌, subst, ◌⊎◌, inl, inr, Bool, true, false, nat_lt, ◌&&◌, ltb-true, lt-ltb}
use Rattle.std.specs.Prelude.{Option, Some, None, slice_get, IsTrue, ◌↔◌}
use Rattle.std.specs.List.{Contains, flat_map}
use Rattle.std.proofs.lemmas.List.Elements.{Contains-append_left, Contains-append_right, Contains-append_cases}
use Rattle.il_base.specs.declared.bits.Bits.{Bits}
use Rattle.closure.specs.Facts.{facts_in, Derived, root, brought}
use Rattle.rules.specs.declared.flow_rules.exit.Exit.{Exit}
use Rattle.rules.specs.flow_rules.Depths.{depth_at, or_no_depth}
use Rattle.value_flow.specs.declared.slot_flow.moves.Flowing.{Flowing}
use Rattle.rules.specs.declared.flow_rules.moves.Move.{Move}
use Rattle.rules.specs.flow_rules.Carrying.{Held, held, is_slot, is_slot_by, of_depth, born_along, sent, born, Carried, begins, taken, born_at, sent_from}
use Rattle.value_flow.specs.slot_flow.Facts.{flow_in, number, fact_of, facts_of, follows_by, follows, begin_facts, taken_facts, born_facts, place_facts, root_facts, numbered, place_in, slot_in, source_in, IsWithin, IsLeastOf}
use Rattle.value_flow.specs.slot_flow.Laws.{Numbered, both, below_by}
use Rattle.value_flow.proofs.lemmas.slot_flow.Lists.{Placed, placed, contained, Among, from_flat, to_flat, AmongNumbered, from_numbered, to_numbered}
use Rattle.value_flow.proofs.lemmas.slot_flow.Rules.{IsFact, from_fact, to_fact, place_of, slot_of, source_of, follows_is, born_facts_are}
use Rattle.value_flow.proofs.lemmas.slot_flow.Within.{sent_below, born_below, slot_below}

-- ---- where a source is carried there is a slot

pub there_of : (f : Flowing) {i slot s : ℕ} → Carried ℕ (flow_in f) i slot s → is_slot (flow_in f) i slot ≡ true
there_of f (begins e t) = t
there_of f (taken e t) = t
there_of f (born_at i e t) = t
there_of f (sent_from i slot s c e t) = t

module _ (f : Flowing) where
  -- what is carried by the number that it has
  abbrev CarriedAt : ℕ → Type 0
  CarriedAt c = Carried ℕ (flow_in f) (place_in f c) (slot_in f c) (source_in f c)

  by_number : (at slot s c : ℕ) → slot < f.slots → s < f.count → number f.slots f.count at slot s ≡ c → Carried ℕ (flow_in f) at slot s → CarriedAt c
  by_number at slot s c a b e t =
      subst CarriedAt e
      (subst (λ (n : ℕ). Carried ℕ (flow_in f) n (slot_in f (number f.slots f.count at slot s)) (source_in f (number f.slots f.count at slot s))) (sym (place_of f at slot s a b))
      (subst (λ (n : ℕ). Carried ℕ (flow_in f) at n (source_in f (number f.slots f.count at slot s))) (sym (slot_of f at slot s a b))
      (subst (λ (n : ℕ). Carried ℕ (flow_in f) at slot n) (sym (source_of f at slot s b)) t)))

  from_number : (at slot s : ℕ) → slot < f.slots → s < f.count → CarriedAt (number f.slots f.count at slot s) → Carried ℕ (flow_in f) at slot s
  from_number at slot s a b t =
      subst (λ (n : ℕ). Carried ℕ (flow_in f) at slot n) (source_of f at slot s b)
      (subst (λ (n : ℕ). Carried ℕ (flow_in f) at n (source_in f (number f.slots f.count at slot s))) (slot_of f at slot s a b)
      (subst (λ (n : ℕ). Carried ℕ (flow_in f) n (slot_in f (number f.slots f.count at slot s)) (source_in f (number f.slots f.count at slot s))) (place_of f at slot s a b) t))

  fact_carried : (h : Held ℕ) (c : ℕ) → IsFact f h c → Carried ℕ (flow_in f) h.at h.slot h.source → CarriedAt c
  fact_carried h c n t = by_number h.at h.slot h.source c n.numbered.slot n.numbered.source n.is t

  -- ---- what follows is carried

  sound_begin : (c : ℕ) → Contains (begin_facts f) c → CarriedAt c
  sound_begin c t =
      let a : AmongNumbered (λ slot s. fact_of f (held 0 slot s)) 0 f.begins.now c = from_numbered (λ slot s. fact_of f (held 0 slot s)) 0 f.begins.now c t in
      let e : 0 + a.place ≡ a.place = omega arith in
      let inside : Contains (fact_of f (held 0 a.place a.item)) c = subst (λ (n : ℕ). Contains (fact_of f (held 0 n a.item)) c) e a.inside in
      let n : IsFact f (held 0 a.place a.item) c = from_fact f (held 0 a.place a.item) c inside in
      fact_carried (held 0 a.place a.item) c n (begins a.there n.numbered.there)

  sound_taken : (i c : ℕ) → Contains (taken_facts f i) c → CarriedAt c
  sound_taken i c t =
      let a : Among (λ slot. fact_of f (held i slot f.unknown)) f.taken.now c = from_flat (λ slot. fact_of f (held i slot f.unknown)) f.taken.now c t in
      let n : IsFact f (held i a.item f.unknown) c = from_fact f (held i a.item f.unknown) c a.inside in
      fact_carried (held i a.item f.unknown) c n (taken (contained f.taken.now a.place a.item a.there) n.numbered.there)

  sound_born : (i c : ℕ) → Contains (born_facts f i) c → CarriedAt c
  sound_born i c t =
      let a : Among (fact_of f) (born (flow_in f) i) c = from_flat (fact_of f) (born (flow_in f) i) c (subst (λ (xs : List ℕ). Contains xs c) (born_facts_are f i) t) in
      let n : IsFact f a.item c = from_fact f a.item c a.inside in
      fact_carried a.item c n (born_at i (contained (born (flow_in f) i) a.place a.item a.there) n.numbered.there)

  sound_each : (i c : ℕ) → Contains (taken_facts f i) c ⊎ Contains (born_facts f i) c → CarriedAt c
  sound_each i c (inl t) = sound_taken i c t
  sound_each i c (inr t) = sound_born i c t

  sound_places : (c : ℕ) → Contains (numbered (λ i (d : Option ℕ). place_facts f i) 0 f.depths.now) c → CarriedAt c
  sound_places c t =
      let a : AmongNumbered (λ i (d : Option ℕ). place_facts f i) 0 f.depths.now c = from_numbered (λ i (d : Option ℕ). place_facts f i) 0 f.depths.now c t in
      sound_each (0 + a.place) c (Contains-append_cases (taken_facts f (0 + a.place)) (born_facts f (0 + a.place)) c a.inside)

  sound_root : (c : ℕ) → Contains (begin_facts f) c ⊎ Contains (numbered (λ i (d : Option ℕ). place_facts f i) 0 f.depths.now) c → CarriedAt c
  sound_root c (inl t) = sound_begin c t
  sound_root c (inr t) = sound_places c t

  sound_next : (n c : ℕ) → CarriedAt n → Contains (follows f n) c → CarriedAt c
  sound_next n c before t =
      let hs : List (Held ℕ) = sent (flow_in f) (place_in f n) (slot_in f n) (source_in f n) in
      let a : Among (fact_of f) hs c = from_flat (fact_of f) hs c (subst (λ (xs : List ℕ). Contains xs c) (follows_is f (place_in f n) (slot_in f n) (source_in f n)) t) in
      let m : IsFact f a.item c = from_fact f a.item c a.inside in
      fact_carried a.item c m (sent_from (place_in f n) (slot_in f n) (source_in f n) before (contained hs a.place a.item a.there) m.numbered.there)

  pub sound : {c : ℕ} → Derived (λ have n c. Contains (follows f n) c) (Contains (root_facts f)) c → CarriedAt c
  sound (root {fact} t) = sound_root fact (Contains-append_cases (begin_facts f) (numbered (λ i (d : Option ℕ). place_facts f i) 0 f.depths.now) fact t)
  sound (brought {fact} {c} have known d t) = sound_next fact c (sound d) t

  -- ---- what is carried follows

  module _ (w : IsWithin f) where
    pub source_below : {i slot s : ℕ} → Carried ℕ (flow_in f) i slot s → s < f.count
    source_below (begins {slot} {s} e t) = w.begins slot s e
    source_below (taken e t) = w.unknown
    source_below (born_at i {j} {slot} {s} e t) = born_below f w i (held j slot s) e
    source_below (sent_from i slot s {j} {to} {t} c e there) = sent_below f w i slot s (source_below c) (held j to t) e

    numbered_of : (i slot s : ℕ) → is_slot (flow_in f) i slot ≡ true → s < f.count → Numbered f (held i slot s)
    numbered_of i slot s there below = record { there = there; slot = slot_below f w i slot there; source = below }

    abbrev Follows : ℕ → Type 0
    Follows c = Derived (λ have n c. Contains (follows f n) c) (Contains (root_facts f)) c

    begins_root : (slot s : ℕ) → slice_get f.begins.now slot ≡ Some s → is_slot (flow_in f) 0 slot ≡ true → Contains (begin_facts f) (number f.slots f.count 0 slot s)
    begins_root slot s e there =
        let z : slot ≡ 0 + slot = omega arith in
        to_numbered (λ n x. fact_of f (held 0 n x)) 0 f.begins.now slot s (number f.slots f.count 0 slot s) e
        (subst (λ (n : ℕ). Contains (fact_of f (held 0 n s)) (number f.slots f.count 0 slot s)) z (to_fact f (held 0 slot s) (numbered_of 0 slot s there (w.begins slot s e))))

    place_root : (i c : ℕ) (o : Option ℕ) → slice_get f.depths.now i ≡ Some o → Contains (taken_facts f i ++ born_facts f i) c → Contains (root_facts f) c
    place_root i c o e t =
        let z : i ≡ 0 + i = omega arith in
        Contains-append_right (begin_facts f) (numbered (λ n (d : Option ℕ). place_facts f n) 0 f.depths.now) c
        (to_numbered (λ n (d : Option ℕ). place_facts f n) 0 f.depths.now i o c e
        (subst (λ (n : ℕ). Contains (taken_facts f n ++ born_facts f n) c) z t))

    -- an instruction with a depth has a place

    from_or : (d : ℕ) (o : Option (Option ℕ)) → or_no_depth o ≡ Some d → o ≡ Some (Some d)
    from_or d None e = absurd (cc)
    from_or d (Some x) e = ap (λ (y : Option ℕ). Some y) e

    slot_place : (i slot : ℕ) (o : Option ℕ) → depth_at f.depths.now i ≡ o → is_slot_by (length f.begins.now) slot o ≡ true → (d : ℕ) × (slice_get f.depths.now i ≡ Some (Some d))
    slot_place i slot None e t = absurd (cc)
    slot_place i slot (Some d) e t = (d, from_or d (slice_get f.depths.now i) e)

    said_place : (i : ℕ) (g : ℕ → Exit → Move ℕ → List (Held ℕ)) (o : Option ℕ) (e : Option Exit) (m : Option (Move ℕ)) (h : Held ℕ) → depth_at f.depths.now i ≡ o
        → Contains (of_depth g o e m) h → (d : ℕ) × (slice_get f.depths.now i ≡ Some (Some d))
    said_place i g None e m h is (k, inside, x) = absurd (omega arith)
    said_place i g (Some d) e m h is t = (d, from_or d (slice_get f.depths.now i) is)

    taken_root : (i slot : ℕ) → Contains f.taken.now slot → is_slot (flow_in f) i slot ≡ true → Contains (root_facts f) (number f.slots f.count i slot f.unknown)
    taken_root i slot t there =
        let p : (d : ℕ) × (slice_get f.depths.now i ≡ Some (Some d)) = slot_place i slot (depth_at f.depths.now i) refl there in
        let q : Placed f.taken.now slot = placed f.taken.now slot t in
        place_root i (number f.slots f.count i slot f.unknown) (Some p.0) p.1
        (Contains-append_left (taken_facts f i) (born_facts f i) (number f.slots f.count i slot f.unknown)
        (to_flat (λ n. fact_of f (held i n f.unknown)) f.taken.now q.place slot (number f.slots f.count i slot f.unknown) q.there
        (to_fact f (held i slot f.unknown) (numbered_of i slot f.unknown there w.unknown))))

    born_root : (i j slot s : ℕ) → Contains (born (flow_in f) i) (held j slot s) → is_slot (flow_in f) j slot ≡ true → Contains (root_facts f) (number f.slots f.count j slot s)
    born_root i j slot s t there =
        let p : (d : ℕ) × (slice_get f.depths.now i ≡ Some (Some d)) =
        said_place i (λ d e m. flat_map (born_along (flow_in f) d e m) e.steps) (depth_at f.depths.now i) (slice_get f.exits.now i) (slice_get f.moves.now i) (held j slot s) refl t in
        let q : Placed (born (flow_in f) i) (held j slot s) = placed (born (flow_in f) i) (held j slot s) t in
        place_root i (number f.slots f.count j slot s) (Some p.0) p.1
        (Contains-append_right (taken_facts f i) (born_facts f i) (number f.slots f.count j slot s)
        (subst (λ (xs : List ℕ). Contains xs (number f.slots f.count j slot s)) (sym (born_facts_are f i))
        (to_flat (fact_of f) (born (flow_in f) i) q.place (held j slot s) (number f.slots f.count j slot s) q.there
        (to_fact f (held j slot s) (numbered_of j slot s there (born_below f w i (held j slot s) t))))))

    -- one step

    at_number : (i slot s : ℕ) → slot < f.slots → s < f.count → follows f (number f.slots f.count i slot s) ≡ facts_of f (sent (flow_in f) i slot s)
    at_number i slot s a b =
        (λ k. follows_by f (place_of f i slot s a b k) (slot_of f i slot s a b k) (source_of f i slot s b k)) ∙ follows_is f i slot s

    next_follows : (i slot s j to t : ℕ) → slot < f.slots → s < f.count → Contains (sent (flow_in f) i slot s) (held j to t) → is_slot (flow_in f) j to ≡ true
        → Contains (follows f (number f.slots f.count i slot s)) (number f.slots f.count j to t)
    next_follows i slot s j to t a b e there =
        let q : Placed (sent (flow_in f) i slot s) (held j to t) = placed (sent (flow_in f) i slot s) (held j to t) e in
        subst (λ (xs : List ℕ). Contains xs (number f.slots f.count j to t)) (sym (at_number i slot s a b))
        (to_flat (fact_of f) (sent (flow_in f) i slot s) q.place (held j to t) (number f.slots f.count j to t) q.there
        (to_fact f (held j to t) (numbered_of j to t there (sent_below f w i slot s b (held j to t) e))))

    nothing_known : (n : ℕ) → IsTrue false → Follows n
    nothing_known n t = absurd (cc)

    pub complete : {i slot s : ℕ} → Carried ℕ (flow_in f) i slot s → Follows (number f.slots f.count i slot s)
    complete (begins {slot} {s} e t) = root (Contains-append_left (begin_facts f) (numbered (λ n (d : Option ℕ). place_facts f n) 0 f.depths.now) (number f.slots f.count 0 slot s) (begins_root slot s e t))
    complete (taken {i} {slot} e t) = root (taken_root i slot e t)
    complete (born_at i {j} {slot} {s} e t) = root (born_root i j slot s e t)
    complete (sent_from i slot s {j} {to} {t} c e there) =
        brought (λ n. false) nothing_known (complete c) (next_follows i slot s j to t (slot_below f w i slot (there_of f c)) (source_below c) e there)

    -- ---- both ways

    module _ (bits : Bits) (l : IsLeastOf f bits) where
      pub carried_by : (at slot s : ℕ) → slot < f.slots → s < f.count → facts_in bits (number f.slots f.count at slot s) ≡ true → Carried ℕ (flow_in f) at slot s
      carried_by at slot s a b t = from_number at slot s a b (sound ((l (number f.slots f.count at slot s)).0 t))

      pub in_bits : {at slot s : ℕ} → Carried ℕ (flow_in f) at slot s → facts_in bits (number f.slots f.count at slot s) ≡ true
      in_bits {at} {slot} {s} c = (l (number f.slots f.count at slot s)).1 (complete c)

      found_by : (at slot s : ℕ) → (nat_lt at (length f.depths.now) && nat_lt slot f.slots && nat_lt s f.count && facts_in bits (number f.slots f.count at slot s)) ≡ true → Carried ℕ (flow_in f) at slot s
      found_by at slot s t =
          let a : (nat_lt at (length f.depths.now) && nat_lt slot f.slots && nat_lt s f.count ≡ true) × (facts_in bits (number f.slots f.count at slot s) ≡ true) =
          both (nat_lt at (length f.depths.now) && nat_lt slot f.slots && nat_lt s f.count) (facts_in bits (number f.slots f.count at slot s)) t in
          let b : (nat_lt at (length f.depths.now) && nat_lt slot f.slots ≡ true) × (nat_lt s f.count ≡ true) = both (nat_lt at (length f.depths.now) && nat_lt slot f.slots) (nat_lt s f.count) a.0 in
          let c : (nat_lt at (length f.depths.now) ≡ true) × (nat_lt slot f.slots ≡ true) = both (nat_lt at (length f.depths.now)) (nat_lt slot f.slots) b.0 in
          carried_by at slot s (ltb-true slot f.slots c.1) (ltb-true s f.count b.1) a.1

      all_four : (a b c d : Bool) → a ≡ true → b ≡ true → c ≡ true → d ≡ true → (a && b && c && d) ≡ true
      all_four true true true true w x y z = refl
      all_four true true true false w x y z = absurd (cc)
      all_four true true false d w x y z = absurd (cc)
      all_four true false c d w x y z = absurd (cc)
      all_four false b c d w x y z = absurd (cc)

      to_found : (at slot s : ℕ) → Carried ℕ (flow_in f) at slot s → (nat_lt at (length f.depths.now) && nat_lt slot f.slots && nat_lt s f.count && facts_in bits (number f.slots f.count at slot s)) ≡ true
      to_found at slot s c =
          let there : is_slot (flow_in f) at slot ≡ true = there_of f c in
          all_four (nat_lt at (length f.depths.now)) (nat_lt slot f.slots) (nat_lt s f.count) (facts_in bits (number f.slots f.count at slot s))
          (lt-ltb at (length f.depths.now) (below_by f.depths.now at (length f.begins.now) slot (depth_at f.depths.now at) refl there))
          (lt-ltb slot f.slots (slot_below f w at slot there)) (lt-ltb s f.count (source_below c)) (in_bits c)

      pub exactly : (at slot s : ℕ)
          → (nat_lt at (length f.depths.now) && nat_lt slot f.slots && nat_lt s f.count && facts_in bits (number f.slots f.count at slot s) ≡ true) ↔ Carried ℕ (flow_in f) at slot s
      exactly at slot s = (found_by at slot s, to_found at slot s)
