-- What follows from a fact is below the universe.
use Rattle.std.specs.Prelude.{◌≡◌, ℕ, ◌+◌, ◌*◌, ◌<◌, Bool, true, false, ◌&&◌, nat_lt, List, [], ◌∷◌, length, map, slice_get, Option, Some, None}
use Rattle.std.specs.List.{Contains, filter, flat_map}
use Rattle.std.proofs.Common.{zero, suc, refl, subst, sym, arith, ltb-true, zero-mul, ◌⊎◌, inl, inr}
use Rattle.std.proofs.lemmas.Nat.{mul-add-lt}
use Rattle.std.proofs.lemmas.List.Elements.{Contains-append_cases}
use Rattle.rules.specs.declared.flow_rules.exit.Step.{Step}
use Rattle.rules.specs.declared.flow_rules.exit.Exit.{Exit}
use Rattle.rules.specs.flow_rules.Depths.{depth_at}
use Rattle.value_flow.specs.declared.slot_flow.moves.Flowing.{Flowing}
use Rattle.rules.specs.declared.flow_rules.moves.Move.{Move}
use Rattle.rules.specs.flow_rules.Carrying.{Held, held, only_if, is_slot, is_slot_by, of_depth, is_handler, passes, arriving, through}
use Rattle.value_flow.specs.slot_flow.Facts.{flow_in, number, universe, has_number, fact_of, facts_of, put_if, facts_along, turned, low_of, sent_facts, follows_by, follows, place_in, slot_in, source_in}

pub both : (a b : Bool) → (a && b) ≡ true → (a ≡ true) × (b ≡ true)
both true true e = (refl, refl)
both true false e = absurd (cc)
both false b e = absurd (cc)

depth_below : (ds : List (Option ℕ)) (i d : ℕ) → depth_at ds i ≡ Some d → i < length ds
depth_below [] i d e = absurd (cc)
depth_below (x ∷ ds) zero d e = omega arith
depth_below (x ∷ ds) (suc i) d e = let h : i < length ds = depth_below ds i d e in omega arith

pub below_by : (ds : List (Option ℕ)) (i fixed slot : ℕ) (o : Option ℕ) → depth_at ds i ≡ o → is_slot_by fixed slot o ≡ true → i < length ds
below_by ds i fixed slot None e t = absurd (cc)
below_by ds i fixed slot (Some d) e t = depth_below ds i d e

pub number_below : (slots count places at slot source : ℕ) → at < places → slot < slots → source < count → number slots count at slot source < count * (slots * places)
unfolding number
number_below slots count places at slot source a b c = mul-add-lt (at * slots + slot) count source (slots * places) (mul-add-lt at slots slot places a b) c

-- what has a number
pub record Numbered (f : Flowing) (h : Held ℕ) : Type 0 where
  pub there : is_slot (flow_in f) h.at h.slot ≡ true
  pub slot : h.slot < f.slots
  pub source : h.source < f.count

pub numbered_by : (f : Flowing) (h : Held ℕ) → has_number f h ≡ true → Numbered f h
numbered_by f h e =
    let a : (is_slot (flow_in f) h.at h.slot && nat_lt h.slot f.slots ≡ true) × (nat_lt h.source f.count ≡ true) = both (is_slot (flow_in f) h.at h.slot && nat_lt h.slot f.slots) (nat_lt h.source f.count) e in
    let b : (is_slot (flow_in f) h.at h.slot ≡ true) × (nat_lt h.slot f.slots ≡ true) = both (is_slot (flow_in f) h.at h.slot) (nat_lt h.slot f.slots) a.0 in
    record { there = b.0; slot = ltb-true h.slot f.slots b.1; source = ltb-true h.source f.count a.1 }

only_below : (f : Flowing) (h : Held ℕ) (b : Bool) (c : ℕ) → has_number f h ≡ b → Contains (only_if b (number f.slots f.count h.at h.slot h.source)) c → c < universe f
only_below f h false c e (k, inside, g) = absurd (omega arith)
only_below f h true c e (zero, inside, g) =
    let n : Numbered f h = numbered_by f h e in
    subst (λ (x : ℕ). x < universe f) g (number_below f.slots f.count (length f.depths.now) h.at h.slot h.source (below_by f.depths.now h.at (length f.begins.now) h.slot (depth_at f.depths.now h.at) refl n.there) n.slot n.source)
only_below f h true c e (suc k, inside, g) = absurd (omega arith)

pub fact_below : (f : Flowing) (h : Held ℕ) (c : ℕ) → Contains (fact_of f h) c → c < universe f
fact_below f h c t = only_below f h (has_number f h) c refl t

none_below : (f : Flowing) (c : ℕ) → Contains [] c → c < universe f
none_below f c (k, inside, e) = absurd (omega arith)

joined_below : (f : Flowing) (xs ys : List ℕ) (c : ℕ) → (Contains xs c → c < universe f) → (Contains ys c → c < universe f) → Contains xs c ⊎ Contains ys c → c < universe f
joined_below f xs ys c a b (inl h) = a h
joined_below f xs ys c a b (inr h) = b h

each_below : {A : Type 0} (f : Flowing) (g : A → List ℕ) (xs : List A) → ((x : A) (c : ℕ) → Contains (g x) c → c < universe f) → (c : ℕ) → Contains (flat_map g xs) c → c < universe f
each_below f g [] below c t = none_below f c t
each_below f g (x ∷ xs) below c t =
    joined_below f (g x) (flat_map g xs) c (below x c) (each_below f g xs below c) (Contains-append_cases (g x) (flat_map g xs) c t)

pub facts_below : (f : Flowing) (hs : List (Held ℕ)) (c : ℕ) → Contains (facts_of f hs) c → c < universe f
facts_below f hs c t = each_below f (fact_of f) hs (fact_below f) c t

put_below : (f : Flowing) (b : Bool) (h : Held ℕ) (c : ℕ) → Contains (put_if f b h) c → c < universe f
put_below f true h c t = fact_below f h c t
put_below f false h c t = none_below f c t

along_below : (f : Flowing) (slot s : ℕ) (xs : List (ℕ × ℕ)) (step : Step) (c : ℕ) → Contains (sent_facts f slot s xs step) c → c < universe f
along_below f slot s xs step c t =
    let test : Bool = is_handler step.way && nat_lt slot (length f.begins.now) in
    joined_below f (put_if f test (held step.to slot s)) (facts_along f step xs) c (put_below f test (held step.to slot s) c)
    (facts_below f (map (arriving step.to) (filter (passes (length f.begins.now) step.way) xs)) c)
    (Contains-append_cases (put_if f test (held step.to slot s)) (facts_along f step xs) c t)

said_below : (f : Flowing) (say : ℕ → Exit → Move ℕ → List ℕ) → ((d : ℕ) (e : Exit) (m : Move ℕ) (c : ℕ) → Contains (say d e m) c → c < universe f)
    → (d : Option ℕ) (e : Option Exit) (m : Option (Move ℕ)) (c : ℕ) → Contains (of_depth say d e m) c → c < universe f
said_below f say below None e m c t = none_below f c t
said_below f say below (Some d) None m c t = none_below f c t
said_below f say below (Some d) (Some e) None c t = none_below f c t
said_below f say below (Some d) (Some e) (Some m) c t = below d e m c t

steps_below : (f : Flowing) (slot s : ℕ) (d : ℕ) (e : Exit) (m : Move ℕ) (c : ℕ)
    → Contains (flat_map (sent_facts f slot s (through (turned f) (low_of f d e) m slot s)) e.steps) c → c < universe f
steps_below f slot s d e m c t =
    each_below f (sent_facts f slot s (through (turned f) (low_of f d e) m slot s)) e.steps (along_below f slot s (through (turned f) (low_of f d e) m slot s)) c t

pub follows_below : (f : Flowing) (i slot s c : ℕ) → Contains (follows_by f i slot s) c → c < universe f
follows_below f i slot s c t =
    said_below f (λ d e m. flat_map (sent_facts f slot s (through (turned f) (low_of f d e) m slot s)) e.steps) (steps_below f slot s)
    (depth_at f.depths.now i) (slice_get f.exits.now i) (slice_get f.moves.now i) c t

pub stays_below : (f : Flowing) (size : ℕ) → size ≡ universe f → (fact c : ℕ) → Contains (follows f fact) c → c < size
stays_below f size whole fact c t = subst (λ (x : ℕ). c < x) (sym whole) (follows_below f (place_in f fact) (slot_in f fact) (source_in f fact) c t)

pub positive : (count rest size fact : ℕ) → size ≡ count * rest → fact < size → 0 < count
positive zero rest size fact e h = let z : zero * rest ≡ 0 = zero-mul rest in omega arith
positive (suc count) rest size fact e h = omega arith

pub nothing_below : (size c : ℕ) → Contains [] c → c < size
nothing_below size c (k, inside, e) = absurd (omega arith)
