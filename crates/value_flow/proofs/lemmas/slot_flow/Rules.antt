-- Facts are the numbers of what is sent and born.
use Rattle.std.proofs.Common.{◌≡◌, ℕ, ◌+◌, ◌*◌, ◌/◌, ◌%◌, ◌<◌, List, [], ◌∷◌, ◌++◌, map, length, refl, sym, ap, ◌∙◌, Bool, true, false, ◌&&◌, lt-ltb, nat_lt}
use Rattle.std.specs.Prelude.{Option, Some, None}
use Rattle.std.specs.List.{Contains, filter, flat_map}
use Rattle.std.proofs.lemmas.List.{append-nil}
use Rattle.std.proofs.lemmas.List.Concat.{flat_map-append}
use Rattle.std.proofs.lemmas.Nat.{div-mul-add, mod-mul-add}
use Rattle.rules.specs.declared.flow_rules.exit.Step.{Step}
use Rattle.rules.specs.declared.flow_rules.exit.Exit.{Exit}
use Rattle.rules.specs.flow_rules.Depths.{depth_at}
use Rattle.value_flow.specs.declared.slot_flow.moves.Flowing.{Flowing}
use Rattle.rules.specs.declared.flow_rules.moves.Move.{Move}
use Rattle.rules.specs.flow_rules.Carrying.{Held, held, only_if, is_slot, through, made, is_handler, is_caught, passes, before, caught, arriving, along, sent_along, born_along, of_depth, sent, born}
use Rattle.value_flow.specs.slot_flow.Facts.{flow_in, turned, number, has_number, fact_of, facts_of, put_if, facts_along, sent_facts, born_along_facts, low_of, follows_by, born_facts, place_in, slot_in, source_in}
use Rattle.value_flow.specs.slot_flow.Laws.{Numbered, numbered_by}
use Rattle.value_flow.proofs.lemmas.slot_flow.Lists.{from_only, to_only}

-- ---- the fact of what is held

pub record IsFact (f : Flowing) (h : Held ℕ) (c : ℕ) : Type 0 where
  pub numbered : Numbered f h
  pub is : number f.slots f.count h.at h.slot h.source ≡ c

pub from_fact : (f : Flowing) (h : Held ℕ) (c : ℕ) → Contains (fact_of f h) c → IsFact f h c
from_fact f h c t =
    let o : (has_number f h ≡ true) × (number f.slots f.count h.at h.slot h.source ≡ c) = from_only (has_number f h) (number f.slots f.count h.at h.slot h.source) c t in
    record { numbered = numbered_by f h o.0; is = o.1 }

all_three : (a b c : Bool) → a ≡ true → b ≡ true → c ≡ true → (a && b && c) ≡ true
all_three true true true x y z = refl
all_three true true false x y z = absurd (cc)
all_three true false c x y z = absurd (cc)
all_three false b c x y z = absurd (cc)

pub to_fact : (f : Flowing) (h : Held ℕ) → Numbered f h → Contains (fact_of f h) (number f.slots f.count h.at h.slot h.source)
to_fact f h n =
    to_only (has_number f h) (number f.slots f.count h.at h.slot h.source) (number f.slots f.count h.at h.slot h.source)
    (all_three (is_slot (flow_in f) h.at h.slot) (nat_lt h.slot f.slots) (nat_lt h.source f.count) n.there (lt-ltb h.slot f.slots n.slot) (lt-ltb h.source f.count n.source)) refl

-- ---- by its number

pub place_of : (f : Flowing) (at slot source : ℕ) → slot < f.slots → source < f.count → place_in f (number f.slots f.count at slot source) ≡ at
unfolding place_in number
place_of f at slot source a b = ap (λ (n : ℕ). n / f.slots) (div-mul-add (at * f.slots + slot) f.count source b) ∙ div-mul-add at f.slots slot a

pub slot_of : (f : Flowing) (at slot source : ℕ) → slot < f.slots → source < f.count → slot_in f (number f.slots f.count at slot source) ≡ slot
unfolding slot_in number
slot_of f at slot source a b = ap (λ (n : ℕ). n % f.slots) (div-mul-add (at * f.slots + slot) f.count source b) ∙ mod-mul-add at f.slots slot a

pub source_of : (f : Flowing) (at slot source : ℕ) → source < f.count → source_in f (number f.slots f.count at slot source) ≡ source
unfolding source_in number
source_of f at slot source b = mod-mul-add (at * f.slots + slot) f.count source b

-- ---- what follows is what is sent

put_is : (f : Flowing) (b : Bool) (to slot s : ℕ) → put_if f b (held to slot s) ≡ facts_of f (map (arriving to) (only_if b (slot, s)))
put_is f true to slot s = sym (append-nil (fact_of f (held to slot s)))
put_is f false to slot s = refl

sent_is : (f : Flowing) (slot s : ℕ) (xs : List (ℕ × ℕ)) (step : Step)
    → sent_facts f slot s xs step ≡ facts_of f (along (length f.begins.now) step (before (length f.begins.now) step.way slot s) xs)
sent_is f slot s xs step =
    (λ i. put_is f (is_handler step.way && nat_lt slot (length f.begins.now)) step.to slot s i ++ facts_along f step xs)
    ∙ sym (flat_map-append (fact_of f) (map (arriving step.to) (before (length f.begins.now) step.way slot s)) (map (arriving step.to) (filter (passes (length f.begins.now) step.way) xs)))

born_is : (f : Flowing) (xs : List (ℕ × ℕ)) (step : Step)
    → born_along_facts f xs step ≡ facts_of f (along (length f.begins.now) step (caught (length f.begins.now) step.way f.unknown) xs)
born_is f xs step =
    (λ i. put_is f (is_caught step.way) step.to (length f.begins.now) f.unknown i ++ facts_along f step xs)
    ∙ sym (flat_map-append (fact_of f) (map (arriving step.to) (caught (length f.begins.now) step.way f.unknown)) (map (arriving step.to) (filter (passes (length f.begins.now) step.way) xs)))

steps_are : (f : Flowing) (k : Step → List ℕ) (g : Step → List (Held ℕ)) → ((step : Step) → k step ≡ facts_of f (g step))
    → (steps : List Step) → flat_map k steps ≡ facts_of f (flat_map g steps)
steps_are f k g e [] = refl
steps_are f k g e (step ∷ steps) = (λ i. e step i ++ steps_are f k g e steps i) ∙ sym (flat_map-append (fact_of f) (g step) (flat_map g steps))

said_is : (f : Flowing) (k : ℕ → Exit → Move ℕ → List ℕ) (g : ℕ → Exit → Move ℕ → List (Held ℕ)) → ((d : ℕ) (e : Exit) (m : Move ℕ) → k d e m ≡ facts_of f (g d e m))
    → (d : Option ℕ) (e : Option Exit) (m : Option (Move ℕ)) → of_depth k d e m ≡ facts_of f (of_depth g d e m)
said_is f k g same None e m = refl
said_is f k g same (Some d) None m = refl
said_is f k g same (Some d) (Some e) None = refl
said_is f k g same (Some d) (Some e) (Some m) = same d e m

pub follows_is : (f : Flowing) (i slot s : ℕ) → follows_by f i slot s ≡ facts_of f (sent (flow_in f) i slot s)
follows_is f i slot s =
    said_is f (λ d e m. flat_map (sent_facts f slot s (through (turned f) (low_of f d e) m slot s)) e.steps) (λ d e m. flat_map (sent_along (flow_in f) d e m slot s) e.steps)
    (λ d e m. steps_are f (sent_facts f slot s (through (turned f) (low_of f d e) m slot s)) (sent_along (flow_in f) d e m slot s) (sent_is f slot s (through (turned f) (low_of f d e) m slot s)) e.steps)
    (depth_at f.depths.now i) _ _

pub born_facts_are : (f : Flowing) (i : ℕ) → born_facts f i ≡ facts_of f (born (flow_in f) i)
born_facts_are f i =
    said_is f (λ d e m. flat_map (born_along_facts f (made (low_of f d e) m)) e.steps) (λ d e m. flat_map (born_along (flow_in f) d e m) e.steps)
    (λ d e m. steps_are f (born_along_facts f (made (low_of f d e) m)) (born_along (flow_in f) d e m) (born_is f (made (low_of f d e) m)) e.steps)
    (depth_at f.depths.now i) _ _
