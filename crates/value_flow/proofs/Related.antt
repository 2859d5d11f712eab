-- Two flows over sources of two types: where their parts correspond, what the one carries corresponds to what the other carries.
use Rattle.std.proofs.Common.{◌≡◌, ℕ, zero, suc, List, [], ◌∷◌, ◌++◌, map, length, arith, refl, sym, ap, subst, ◌⊎◌, inl, inr, Bool, true, false, cond, nat_eq, nat_lt, ◌&&◌, not}
use Rattle.std.specs.Prelude.{Option, Some, None, slice_get}
use Rattle.std.specs.List.{Contains, filter, flat_map}
use Rattle.std.proofs.lemmas.List.Elements.{Contains-append_left, Contains-append_right, Contains-append_cases}
use Rattle.rules.specs.declared.flow_rules.exit.Way.{Way}
use Rattle.rules.specs.declared.flow_rules.exit.Step.{Step}
use Rattle.rules.specs.declared.flow_rules.exit.Exit.{Exit}
use Rattle.rules.specs.flow_rules.Depths.{depth_at}
use Rattle.rules.specs.declared.flow_rules.moves.Turning.{Turning}
use Rattle.rules.specs.declared.flow_rules.moves.Move.{Move}
use Rattle.rules.specs.declared.flow_rules.moves.Move.TheVariants as move
use Rattle.rules.specs.flow_rules.Carrying.{Flow, Held, held, only_if, stays, lowest, through, made, is_handler, is_caught, passes, before, caught, arriving, along, sent_along, born_along, of_depth, sent, born, is_slot, is_slot_by, Carried, begins, taken, born_at, sent_from}
use Rattle.value_flow.proofs.lemmas.slot_flow.Lists.{tail_contains, from_only, to_only, Among, from_flat, to_flat, from_map, from_filter}

pub data SameMove {A B : Type 0} (R : A → B → Type 0) : Move A → Move B → Type 0 where
  loads : (n : ℕ) → SameMove R (move.Load n) (move.Load n)
  stores : (n : ℕ) → SameMove R (move.Store n) (move.Store n)
  twice : SameMove R move.Twice move.Twice
  back : SameMove R move.Back move.Back
  makes : {s : A} {k : B} → R s k → SameMove R (move.Make s) (move.Make k)
  turns : (t : Turning) → SameMove R (move.Turn t) (move.Turn t)
  nothing : SameMove R move.Nothing move.Nothing

-- a pair with this slot, and a source that corresponds
pub record Image {B : Type 0} (P : B → Type 0) (ys : List (ℕ × B)) (to : ℕ) : Type 0 where
  pub item : B
  pub there : Contains ys (to, item)
  pub related : P item

pub record Landed {B : Type 0} (P : B → Type 0) (ys : List (Held B)) (at slot : ℕ) : Type 0 where
  pub item : B
  pub there : Contains ys (held at slot item)
  pub related : P item

-- ---- lists

kept : {A : Type 0} (x : A) (zs : List A) (y : A) (b : Bool) → b ≡ true → x ≡ y → Contains (cond b (x ∷ zs) zs) y
kept x zs y true e g = (0, omega arith, g)
kept x zs y false e g = absurd (cc)

still_kept : {A : Type 0} (x : A) (zs : List A) (y : A) (b : Bool) → Contains zs y → Contains (cond b (x ∷ zs) zs) y
still_kept x zs y true c = tail_contains x zs y c
still_kept x zs y false c = c

to_filter : {A : Type 0} (p : A → Bool) (xs : List A) (y : A) → p y ≡ true → Contains xs y → Contains (filter p xs) y
to_filter p [] y t c = c
to_filter {A} p (x ∷ xs) y t (zero, inside, e) = kept x (filter p xs) y (p x) (subst (λ (z : A). p z ≡ true) (sym e) t) e
to_filter p (x ∷ xs) y t (suc k, inside, e) = still_kept x (filter p xs) y (p x) (to_filter p xs y t (k, omega arith, e))

passed_by : {A : Type 0} (p : A → Bool) (x : A) (xs : List A) (y : A) (b : Bool) → p x ≡ b → (Contains (filter p xs) y → p y ≡ true) → Contains (cond b (x ∷ filter p xs) (filter p xs)) y → p y ≡ true
passed_by {A} p x xs y true e next (zero, inside, g) = subst (λ (z : A). p z ≡ true) g e
passed_by p x xs y true e next (suc k, inside, g) = next (k, omega arith, g)
passed_by p x xs y false e next c = next c

passed : {A : Type 0} (p : A → Bool) (xs : List A) (y : A) → Contains (filter p xs) y → p y ≡ true
passed p [] y (k, inside, e) = absurd (omega arith)
passed p (x ∷ xs) y c = passed_by p x xs y (p x) refl (passed p xs y) c

to_map : {A B : Type 0} (f : A → B) (xs : List A) (x : A) → Contains xs x → Contains (map f xs) (f x)
to_map f [] x (k, inside, e) = absurd (omega arith)
to_map f (z ∷ xs) x (zero, inside, e) = (0, omega arith, ap f e)
to_map f (z ∷ xs) x (suc k, inside, e) = tail_contains (f z) (map f xs) (f x) (to_map f xs x (k, omega arith, e))

-- ---- pairs

module _ {A B : Type 0} (R : A → B → Type 0) where
  -- each pair of the first list has an image in the second
  abbrev Imaged : List (ℕ × A) → List (ℕ × B) → Type 0
  Imaged xs ys = (to : ℕ) (t : A) → Contains xs (to, t) → Image (R t) ys to

  none_imaged : (ys : List (ℕ × B)) → Imaged [] ys
  none_imaged ys to t (k, inside, e) = absurd (omega arith)

  one_imaged : (b : Bool) (slot : ℕ) (s : A) (k : B) → R s k → Imaged (only_if b (slot, s)) (only_if b (slot, k))
  one_imaged b slot s k r to t c =
      let o : (b ≡ true) × ((slot, s) ≡ (to, t)) = from_only b (slot, s) (to, t) c in
      let place : slot ≡ to = ap (λ (x : ℕ × A). x.0) o.1 in
      let same : s ≡ t = ap (λ (x : ℕ × A). x.1) o.1 in
      record { item = k; there = to_only b (slot, k) (to, k) o.0 (ap (λ (n : ℕ). (n, k)) place); related = subst (λ (x : A). R x k) same r }

  left_image : (to : ℕ) (t : A) (xs ys : List (ℕ × B)) → Image (R t) xs to → Image (R t) (xs ++ ys) to
  left_image to t xs ys i = record { item = i.item; there = Contains-append_left xs ys (to, i.item) i.there; related = i.related }

  right_image : (to : ℕ) (t : A) (xs ys : List (ℕ × B)) → Image (R t) ys to → Image (R t) (xs ++ ys) to
  right_image to t xs ys i = record { item = i.item; there = Contains-append_right xs ys (to, i.item) i.there; related = i.related }

  both_imaged : (xs xs' : List (ℕ × A)) (ys ys' : List (ℕ × B)) → Imaged xs ys → Imaged xs' ys' → Imaged (xs ++ xs') (ys ++ ys')
  both_imaged xs xs' ys ys' f g to t c = by (Contains-append_cases xs xs' (to, t) c)
    where
      by : Contains xs (to, t) ⊎ Contains xs' (to, t) → Image (R t) (ys ++ ys') to
      by (inl h) = left_image to t ys ys' (f to t h)
      by (inr h) = right_image to t ys ys' (g to t h)

  filter_imaged : (fixed : ℕ) (w : Way) (xs : List (ℕ × A)) (ys : List (ℕ × B)) → Imaged xs ys → Imaged (filter (passes fixed w) xs) (filter (passes fixed w) ys)
  filter_imaged fixed w xs ys f to t c =
      let i : Image (R t) ys to = f to t (from_filter (passes fixed w) xs (to, t) c) in
      record { item = i.item; there = to_filter (passes fixed w) ys (to, i.item) (passed (passes fixed w) xs (to, t) c) i.there; related = i.related }

  -- ---- one instruction

  through_imaged : (ta : Turning → A → A) (tb : Turning → B → B) → ((t : Turning) (s : A) (k : B) → R s k → R (ta t s) (tb t k))
      → (low : ℕ) (m : Move A) (n : Move B) (slot : ℕ) (s : A) (k : B) → SameMove R m n → R s k → Imaged (through ta low m slot s) (through tb low n slot k)
  through_imaged ta tb turn low _ _ slot s k (loads n) r =
      both_imaged (stays low slot s) (only_if (nat_eq slot n) (low, s)) (stays low slot k) (only_if (nat_eq slot n) (low, k)) (one_imaged (nat_lt slot low) slot s k r) (one_imaged (nat_eq slot n) low s k r)
  through_imaged ta tb turn low _ _ slot s k (stores n) r =
      both_imaged (only_if (nat_lt slot low && not (nat_eq slot n)) (slot, s)) (only_if (nat_eq slot low) (n, s)) (only_if (nat_lt slot low && not (nat_eq slot n)) (slot, k)) (only_if (nat_eq slot low) (n, k))
      (one_imaged (nat_lt slot low && not (nat_eq slot n)) slot s k r) (one_imaged (nat_eq slot low) n s k r)
  through_imaged ta tb turn low _ _ slot s k twice r =
      both_imaged (stays low slot s ++ only_if (nat_eq slot low) (low, s)) (only_if (nat_eq slot low) (suc low, s)) (stays low slot k ++ only_if (nat_eq slot low) (low, k)) (only_if (nat_eq slot low) (suc low, k))
      (both_imaged (stays low slot s) (only_if (nat_eq slot low) (low, s)) (stays low slot k) (only_if (nat_eq slot low) (low, k)) (one_imaged (nat_lt slot low) slot s k r) (one_imaged (nat_eq slot low) low s k r))
      (one_imaged (nat_eq slot low) (suc low) s k r)
  through_imaged ta tb turn low _ _ slot s k back r =
      both_imaged (stays low slot s) (only_if (nat_eq slot low) (low, s)) (stays low slot k) (only_if (nat_eq slot low) (low, k)) (one_imaged (nat_lt slot low) slot s k r) (one_imaged (nat_eq slot low) low s k r)
  through_imaged ta tb turn low _ _ slot s k (makes x) r = one_imaged (nat_lt slot low) slot s k r
  through_imaged ta tb turn low _ _ slot s k (turns t) r =
      both_imaged (stays low slot s) (only_if (nat_eq slot low) (low, ta t s)) (stays low slot k) (only_if (nat_eq slot low) (low, tb t k)) (one_imaged (nat_lt slot low) slot s k r) (one_imaged (nat_eq slot low) low (ta t s) (tb t k) (turn t s k r))
  through_imaged ta tb turn low _ _ slot s k nothing r = one_imaged (nat_lt slot low) slot s k r

  made_imaged : (low : ℕ) (m : Move A) (n : Move B) → SameMove R m n → Imaged (made low m) (made low n)
  made_imaged low _ _ (loads n) = none_imaged []
  made_imaged low _ _ (stores n) = none_imaged []
  made_imaged low _ _ twice = none_imaged []
  made_imaged low _ _ back = none_imaged []
  made_imaged low _ _ (makes {s} {k} r) = one_imaged true low s k r
  made_imaged low _ _ (turns t) = none_imaged []
  made_imaged low _ _ nothing = none_imaged []

  -- ---- along steps

  abbrev Lands : List (Held A) → List (Held B) → Type 0
  Lands xs ys = (at slot : ℕ) (t : A) → Contains xs (held at slot t) → Landed (R t) ys at slot

  arriving_lands : (to : ℕ) (xs : List (ℕ × A)) (ys : List (ℕ × B)) → Imaged xs ys → Lands (map (arriving to) xs) (map (arriving to) ys)
  arriving_lands to xs ys f at slot t c =
      let r : (x : ℕ × A) × Contains xs x × (arriving to x ≡ held at slot t) = from_map (arriving to) xs (held at slot t) c in
      let x : ℕ × A = r.0 in
      let place : to ≡ at = ap (λ (h : Held A). h.at) r.2 in
      let where' : x.0 ≡ slot = ap (λ (h : Held A). h.slot) r.2 in
      let same : x.1 ≡ t = ap (λ (h : Held A). h.source) r.2 in
      let i : Image (R x.1) ys x.0 = f x.0 x.1 r.1 in
      let there : Contains (map (arriving to) ys) (held to x.0 i.item) = to_map (arriving to) ys (x.0, i.item) i.there in
      let moved : Contains (map (arriving to) ys) (held at slot i.item) =
      subst (λ (n : ℕ). Contains (map (arriving to) ys) (held n slot i.item)) place (subst (λ (n : ℕ). Contains (map (arriving to) ys) (held to n i.item)) where' there) in
      record { item = i.item; there = moved; related = subst (λ (y : A). R y i.item) same i.related }

  left_lands : (at slot : ℕ) (t : A) (xs ys : List (Held B)) → Landed (R t) xs at slot → Landed (R t) (xs ++ ys) at slot
  left_lands at slot t xs ys i = record { item = i.item; there = Contains-append_left xs ys (held at slot i.item) i.there; related = i.related }

  right_lands : (at slot : ℕ) (t : A) (xs ys : List (Held B)) → Landed (R t) ys at slot → Landed (R t) (xs ++ ys) at slot
  right_lands at slot t xs ys i = record { item = i.item; there = Contains-append_right xs ys (held at slot i.item) i.there; related = i.related }

  both_land : (xs xs' : List (Held A)) (ys ys' : List (Held B)) → Lands xs ys → Lands xs' ys' → Lands (xs ++ xs') (ys ++ ys')
  both_land xs xs' ys ys' f g at slot t c = by (Contains-append_cases xs xs' (held at slot t) c)
    where
      by : Contains xs (held at slot t) ⊎ Contains xs' (held at slot t) → Landed (R t) (ys ++ ys') at slot
      by (inl h) = left_lands at slot t ys ys' (f at slot t h)
      by (inr h) = right_lands at slot t ys ys' (g at slot t h)

  along_lands : (fixed : ℕ) (step : Step) (old new : List (ℕ × A)) (old' new' : List (ℕ × B)) → Imaged old old' → Imaged new new' → Lands (along fixed step old new) (along fixed step old' new')
  along_lands fixed step old new old' new' f g =
      both_land (map (arriving step.to) old) (map (arriving step.to) (filter (passes fixed step.way) new)) (map (arriving step.to) old') (map (arriving step.to) (filter (passes fixed step.way) new'))
      (arriving_lands step.to old old' f) (arriving_lands step.to (filter (passes fixed step.way) new) (filter (passes fixed step.way) new') (filter_imaged fixed step.way new new' g))

  steps_land : (g : Step → List (Held A)) (h : Step → List (Held B)) → ((step : Step) → Lands (g step) (h step)) → (steps : List Step) → Lands (flat_map g steps) (flat_map h steps)
  steps_land g h f steps at slot t c =
      let a : Among g steps (held at slot t) = from_flat g steps (held at slot t) c in
      let i : Landed (R t) (h a.item) at slot = f a.item at slot t a.inside in
      record { item = i.item; there = to_flat h steps a.place a.item (held at slot i.item) a.there i.there; related = i.related }

-- ---- whole flows

-- a source that corresponds, in the same place of a list
pub record Beside {A : Type 0} (xs : List A) (n : ℕ) (P : A → Type 0) : Type 0 where
  pub item : A
  pub there : slice_get xs n ≡ Some item
  pub related : P item

pub record Related {A B : Type 0} (R : A → B → Type 0) (fa : Flow A) (fb : Flow B) : Type 0 where
  pub fixed : length fa.begins ≡ length fb.begins
  pub depths : fa.depths ≡ fb.depths
  pub exits : fa.exits ≡ fb.exits
  pub taken : fa.taken ≡ fb.taken
  pub begins : (slot : ℕ) (s : A) → slice_get fa.begins slot ≡ Some s → Beside fb.begins slot (R s)
  pub moves : (i : ℕ) (m : Move A) → slice_get fa.moves i ≡ Some m → Beside fb.moves i (SameMove R m)
  pub unknown : R fa.unknown fb.unknown
  pub turn : (t : Turning) (s : A) (k : B) → R s k → R (fa.turn t s) (fb.turn t k)

module _ {A B : Type 0} (R : A → B → Type 0) (fa : Flow A) (fb : Flow B) (r : Related R fa fb) where
  said_lands : (g : ℕ → Exit → Move A → List (Held A)) (h : ℕ → Exit → Move B → List (Held B)) (i : ℕ)
      → ((d : ℕ) (e : Exit) (m : Move A) (n : Move B) → SameMove R m n → Lands R (g d e m) (h d e n))
      → (d : Option ℕ) (e : Option Exit) (m : Option (Move A)) → slice_get fa.moves i ≡ m → Lands R (of_depth g d e m) (of_depth h d e (slice_get fb.moves i))
  said_lands g h i f None e m is at slot t (k, inside, x) = absurd (omega arith)
  said_lands g h i f (Some d) None m is at slot t (k, inside, x) = absurd (omega arith)
  said_lands g h i f (Some d) (Some e) None is at slot t (k, inside, x) = absurd (omega arith)
  said_lands g h i f (Some d) (Some e) (Some m) is at slot t c =
      let b : Beside fb.moves i (SameMove R m) = r.moves i m is in
      subst (λ (o : Option (Move B)). Landed (R t) (of_depth h (Some d) (Some e) o) at slot) (sym b.there) (f d e m b.item b.related at slot t c)

  sent_step : (slot : ℕ) (s : A) (k : B) → R s k → (d : ℕ) (e : Exit) (m : Move A) (n : Move B) → SameMove R m n → (step : Step) → Lands R (sent_along fa d e m slot s step) (sent_along fb d e n slot k step)
  sent_step slot s k rel d e m n same step =
      subst (λ (fixed : ℕ). Lands R (sent_along fa d e m slot s step) (along fixed step (before fixed step.way slot k) (through fb.turn (lowest fixed d e) n slot k))) r.fixed
      (along_lands R (length fa.begins) step (before (length fa.begins) step.way slot s) (through fa.turn (lowest (length fa.begins) d e) m slot s)
      (before (length fa.begins) step.way slot k) (through fb.turn (lowest (length fa.begins) d e) n slot k)
      (one_imaged R (is_handler step.way && nat_lt slot (length fa.begins)) slot s k rel)
      (through_imaged R fa.turn fb.turn r.turn (lowest (length fa.begins) d e) m n slot s k same rel))

  born_step : (d : ℕ) (e : Exit) (m : Move A) (n : Move B) → SameMove R m n → (step : Step) → Lands R (born_along fa d e m step) (born_along fb d e n step)
  born_step d e m n same step =
      subst (λ (fixed : ℕ). Lands R (born_along fa d e m step) (along fixed step (caught fixed step.way fb.unknown) (made (lowest fixed d e) n))) r.fixed
      (along_lands R (length fa.begins) step (caught (length fa.begins) step.way fa.unknown) (made (lowest (length fa.begins) d e) m)
      (caught (length fa.begins) step.way fb.unknown) (made (lowest (length fa.begins) d e) n)
      (one_imaged R (is_caught step.way) (length fa.begins) fa.unknown fb.unknown r.unknown)
      (made_imaged R (lowest (length fa.begins) d e) m n same))

  sent_lands : (i slot : ℕ) (s : A) (k : B) → R s k → Lands R (sent fa i slot s) (sent fb i slot k)
  sent_lands i slot s k rel at to t c =
      let g : ℕ → Exit → Move A → List (Held A) = λ d e m. flat_map (sent_along fa d e m slot s) e.steps in
      let h : ℕ → Exit → Move B → List (Held B) = λ d e n. flat_map (sent_along fb d e n slot k) e.steps in
      let l : Landed (R t) (of_depth h (depth_at fa.depths i) (slice_get fa.exits i) (slice_get fb.moves i)) at to =
      said_lands g h i (λ d e m n same. steps_land R (sent_along fa d e m slot s) (sent_along fb d e n slot k) (sent_step slot s k rel d e m n same) e.steps)
      (depth_at fa.depths i) (slice_get fa.exits i) (slice_get fa.moves i) refl at to t c in
      subst (λ (ds : List (Option ℕ)). Landed (R t) (of_depth h (depth_at ds i) (slice_get fb.exits i) (slice_get fb.moves i)) at to) r.depths
      (subst (λ (es : List Exit). Landed (R t) (of_depth h (depth_at fa.depths i) (slice_get es i) (slice_get fb.moves i)) at to) r.exits l)

  born_lands : (i : ℕ) → Lands R (born fa i) (born fb i)
  born_lands i at to t c =
      let g : ℕ → Exit → Move A → List (Held A) = λ d e m. flat_map (born_along fa d e m) e.steps in
      let h : ℕ → Exit → Move B → List (Held B) = λ d e n. flat_map (born_along fb d e n) e.steps in
      let l : Landed (R t) (of_depth h (depth_at fa.depths i) (slice_get fa.exits i) (slice_get fb.moves i)) at to =
      said_lands g h i (λ d e m n same. steps_land R (born_along fa d e m) (born_along fb d e n) (born_step d e m n same) e.steps)
      (depth_at fa.depths i) (slice_get fa.exits i) (slice_get fa.moves i) refl at to t c in
      subst (λ (ds : List (Option ℕ)). Landed (R t) (of_depth h (depth_at ds i) (slice_get fb.exits i) (slice_get fb.moves i)) at to) r.depths
      (subst (λ (es : List Exit). Landed (R t) (of_depth h (depth_at fa.depths i) (slice_get es i) (slice_get fb.moves i)) at to) r.exits l)

  same_slot : (i slot : ℕ) → is_slot fa i slot ≡ true → is_slot fb i slot ≡ true
  same_slot i slot t =
      subst (λ (n : ℕ). is_slot_by n slot (depth_at fb.depths i) ≡ true) r.fixed (subst (λ (ds : List (Option ℕ)). is_slot_by (length fa.begins) slot (depth_at ds i) ≡ true) r.depths t)

  -- a source that corresponds and is carried to the same slot
  pub record CarriedToo (i slot : ℕ) (s : A) : Type 0 where
    pub item : B
    pub related : R s item
    pub carried : Carried B fb i slot item

  sent_too : (i slot : ℕ) (s : A) (j to : ℕ) (t : A) → CarriedToo i slot s → Contains (sent fa i slot s) (held j to t) → is_slot fa j to ≡ true → CarriedToo j to t
  sent_too i slot s j to t c e there =
      let l : Landed (R t) (sent fb i slot c.item) j to = sent_lands i slot s c.item c.related j to t e in
      record { item = l.item; related = l.related; carried = sent_from i slot c.item c.carried l.there (same_slot j to there) }

  pub carried_too : {i slot : ℕ} {s : A} → Carried A fa i slot s → CarriedToo i slot s
  carried_too (begins {slot} {s} e t) =
      let b : Beside fb.begins slot (R s) = r.begins slot s e in
      record { item = b.item; related = b.related; carried = begins b.there (same_slot 0 slot t) }
  carried_too (taken {i} {slot} e t) =
      record { item = fb.unknown; related = r.unknown; carried = taken (subst (λ (xs : List ℕ). Contains xs slot) r.taken e) (same_slot i slot t) }
  carried_too (born_at i {j} {slot} {s} e t) =
      let l : Landed (R s) (born fb i) j slot = born_lands i j slot s e in
      record { item = l.item; related = l.related; carried = born_at i l.there (same_slot j slot t) }
  carried_too (sent_from i slot s {j} {to} {t} c e there) = sent_too i slot s j to t (carried_too c) e there
