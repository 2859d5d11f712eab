-- Sources stay below their count.
use Rattle.std.proofs.Common.{◌≡◌, ℕ, suc, ◌+◌, ◌<◌, ◌≤◌, List, [], ◌++◌, map, length, arith, refl, subst, ◌⊎◌, inl, inr, Bool, true, nat_eq, nat_lt, ◌&&◌, not, ltb-true}
use Rattle.std.specs.Prelude.{Option, Some, None, slice_get, unwrap_or}
use Rattle.std.specs.List.{Contains, filter, flat_map}
use Rattle.std.proofs.lemmas.List.Elements.{Contains-append_cases}
use Rattle.rules.specs.declared.flow_rules.exit.Step.{Step}
use Rattle.rules.specs.declared.flow_rules.exit.Exit.{Exit}
use Rattle.rules.specs.flow_rules.Depths.{depth_at}
use Rattle.value_flow.specs.declared.slot_flow.moves.Flowing.{Flowing}
use Rattle.rules.specs.declared.flow_rules.moves.Turning.{Turning}
use Rattle.rules.specs.declared.flow_rules.moves.Turning.TheVariants as turning
use Rattle.rules.specs.declared.flow_rules.moves.Move.{Move}
use Rattle.rules.specs.declared.flow_rules.moves.Move.TheVariants as move
use Rattle.rules.specs.flow_rules.Carrying.{Held, only_if, stays, is_slot, is_slot_by, through, made, is_handler, is_caught, passes, before, caught, arriving, along, sent_along, born_along, of_depth, sent, born}
use Rattle.value_flow.specs.slot_flow.Facts.{flow_in, turned, low_of, IsWithin}
use Rattle.value_flow.proofs.lemmas.slot_flow.Lists.{Among, from_flat, from_only, from_map, from_filter}

-- each pair of a list has a source below the count
abbrev pub AreBelow : ℕ → List (ℕ × ℕ) → Type 0
AreBelow count xs = (x : ℕ × ℕ) → Contains xs x → x.1 < count

none_below : (count : ℕ) → AreBelow count []
none_below count x (k, inside, e) = absurd (omega arith)

one_below : (count : ℕ) (b : Bool) (slot s : ℕ) → s < count → AreBelow count (only_if b (slot, s))
one_below count b slot s h x t = subst (λ (y : ℕ × ℕ). y.1 < count) (from_only b (slot, s) x t).1 h

both_below : (count : ℕ) (xs ys : List (ℕ × ℕ)) → AreBelow count xs → AreBelow count ys → AreBelow count (xs ++ ys)
both_below count xs ys a b x t = by (Contains-append_cases xs ys x t)
  where
    by : Contains xs x ⊎ Contains ys x → x.1 < count
    by (inl h) = a x h
    by (inr h) = b x h

module _ (f : Flowing) (w : IsWithin f) where
  or_unknown : (o : Option ℕ) → ((t : ℕ) → o ≡ Some t → t < f.count) → unwrap_or o f.unknown < f.count
  or_unknown None h = w.unknown
  or_unknown (Some t) h = h t refl

  turned_below : (t : Turning) (s : ℕ) → turned f t s < f.count
  turned_below turning.FromHandle s = or_unknown (slice_get f.from_handle.now s) (λ t e. w.from_handle s t e)
  turned_below turning.FromText s = or_unknown (slice_get f.from_text.now s) (λ t e. w.from_text s t e)

  through_below : (low : ℕ) (m : Move ℕ) (slot s : ℕ) → s < f.count → AreBelow f.count (through (turned f) low m slot s)
  through_below low (move.Load n) slot s h = both_below f.count (stays low slot s) (only_if (nat_eq slot n) (low, s)) (one_below f.count (nat_lt slot low) slot s h) (one_below f.count (nat_eq slot n) low s h)
  through_below low (move.Store n) slot s h =
      both_below f.count (only_if (nat_lt slot low && not (nat_eq slot n)) (slot, s)) (only_if (nat_eq slot low) (n, s))
      (one_below f.count (nat_lt slot low && not (nat_eq slot n)) slot s h) (one_below f.count (nat_eq slot low) n s h)
  through_below low move.Twice slot s h =
      both_below f.count (stays low slot s ++ only_if (nat_eq slot low) (low, s)) (only_if (nat_eq slot low) (suc low, s))
      (both_below f.count (stays low slot s) (only_if (nat_eq slot low) (low, s)) (one_below f.count (nat_lt slot low) slot s h) (one_below f.count (nat_eq slot low) low s h))
      (one_below f.count (nat_eq slot low) (suc low) s h)
  through_below low move.Back slot s h = both_below f.count (stays low slot s) (only_if (nat_eq slot low) (low, s)) (one_below f.count (nat_lt slot low) slot s h) (one_below f.count (nat_eq slot low) low s h)
  through_below low (move.Make new) slot s h = one_below f.count (nat_lt slot low) slot s h
  through_below low (move.Turn t) slot s h =
      both_below f.count (stays low slot s) (only_if (nat_eq slot low) (low, turned f t s)) (one_below f.count (nat_lt slot low) slot s h) (one_below f.count (nat_eq slot low) low (turned f t s) (turned_below t s))
  through_below low move.Nothing slot s h = one_below f.count (nat_lt slot low) slot s h

  made_below : (i low : ℕ) (m : Move ℕ) → slice_get f.moves.now i ≡ Some m → AreBelow f.count (made low m)
  made_below i low (move.Load n) e = none_below f.count
  made_below i low (move.Store n) e = none_below f.count
  made_below i low move.Twice e = none_below f.count
  made_below i low move.Back e = none_below f.count
  made_below i low (move.Make new) e = one_below f.count true low new (w.made i new e)
  made_below i low (move.Turn t) e = none_below f.count
  made_below i low move.Nothing e = none_below f.count

  -- along steps

  abbrev pub HeldBelow : List (Held ℕ) → Type 0
  HeldBelow hs = (h : Held ℕ) → Contains hs h → h.source < f.count

  arrived_below : (to : ℕ) (xs : List (ℕ × ℕ)) → AreBelow f.count xs → HeldBelow (map (arriving to) xs)
  arrived_below to xs a h t =
      let r : (x : ℕ × ℕ) × Contains xs x × (arriving to x ≡ h) = from_map (arriving to) xs h t in
      subst (λ (y : Held ℕ). y.source < f.count) r.2 (a r.0 r.1)

  along_below : (step : Step) (old new : List (ℕ × ℕ)) → AreBelow f.count old → AreBelow f.count new → HeldBelow (along (length f.begins.now) step old new)
  along_below step old new a b h t = by (Contains-append_cases (map (arriving step.to) old) (map (arriving step.to) (filter (passes (length f.begins.now) step.way) new)) h t)
    where
      by : Contains (map (arriving step.to) old) h ⊎ Contains (map (arriving step.to) (filter (passes (length f.begins.now) step.way) new)) h → h.source < f.count
      by (inl g) = arrived_below step.to old a h g
      by (inr g) = arrived_below step.to (filter (passes (length f.begins.now) step.way) new) (λ x k. b x (from_filter (passes (length f.begins.now) step.way) new x k)) h g

  steps_below : (g : Step → List (Held ℕ)) → ((step : Step) → HeldBelow (g step)) → (steps : List Step) → HeldBelow (flat_map g steps)
  steps_below g a steps h t = let m : Among g steps h = from_flat g steps h t in a m.item h m.inside

  said_below : (g : ℕ → Exit → Move ℕ → List (Held ℕ)) (o : Option (Move ℕ)) → ((d : ℕ) (e : Exit) (m : Move ℕ) → o ≡ Some m → HeldBelow (g d e m))
      → (d : Option ℕ) (e : Option Exit) → HeldBelow (of_depth g d e o)
  said_below g o a None e h (k, inside, x) = absurd (omega arith)
  said_below g o a (Some d) None h (k, inside, x) = absurd (omega arith)
  said_below g None a (Some d) (Some e) h (k, inside, x) = absurd (omega arith)
  said_below g (Some m) a (Some d) (Some e) h t = a d e m refl h t

  pub sent_below : (i slot s : ℕ) → s < f.count → HeldBelow (sent (flow_in f) i slot s)
  sent_below i slot s below =
      said_below (λ d e m. flat_map (sent_along (flow_in f) d e m slot s) e.steps) (slice_get f.moves.now i)
      (λ d e m is. steps_below (sent_along (flow_in f) d e m slot s)
      (λ step. along_below step (before (length f.begins.now) step.way slot s) (through (turned f) (low_of f d e) m slot s)
      (one_below f.count (is_handler step.way && nat_lt slot (length f.begins.now)) slot s below) (through_below (low_of f d e) m slot s below)) e.steps)
      (depth_at f.depths.now i) (slice_get f.exits.now i)

  pub born_below : (i : ℕ) → HeldBelow (born (flow_in f) i)
  born_below i =
      said_below (λ d e m. flat_map (born_along (flow_in f) d e m) e.steps) (slice_get f.moves.now i)
      (λ d e m is. steps_below (born_along (flow_in f) d e m)
      (λ step. along_below step (caught (length f.begins.now) step.way f.unknown) (made (low_of f d e) m)
      (one_below f.count (is_caught step.way) (length f.begins.now) f.unknown w.unknown) (made_below i (low_of f d e) m is)) e.steps)
      (depth_at f.depths.now i) (slice_get f.exits.now i)

  -- and slots below theirs

  slot_by : (i slot : ℕ) (o : Option ℕ) → depth_at f.depths.now i ≡ o → is_slot_by (length f.begins.now) slot o ≡ true → slot < f.slots
  slot_by i slot None e t = absurd (cc)
  slot_by i slot (Some d) e t =
      let a : slot < length f.begins.now + d = ltb-true slot (length f.begins.now + d) t in
      let b : length f.begins.now + d ≤ f.slots = w.slots i d e in omega arith

  pub slot_below : (i slot : ℕ) → is_slot (flow_in f) i slot ≡ true → slot < f.slots
  slot_below i slot t = slot_by i slot (depth_at f.depths.now i) refl t
