-- Sources in slots as numbers, for a flow whose sources are numbers.
use Rattle.std.specs.Prelude.{◌≡◌, ℕ, ◌+◌, ◌*◌, ◌/◌, ◌%◌, ◌<◌, ◌≤◌, Bool, true, false, ◌&&◌, nat_lt, List, [], ◌∷◌, ◌++◌, length, map, slice_get, unwrap_or, Some, ◌↔◌, IsTrue}
use Rattle.std.specs.List.{Contains, filter, flat_map}
use Rattle.rules.specs.declared.flow_rules.exit.Step.{Step}
use Rattle.rules.specs.declared.flow_rules.exit.Exit.{Exit}
use Rattle.rules.specs.flow_rules.Depths.{depth_at}
use Rattle.value_flow.specs.declared.slot_flow.moves.Flowing.{Flowing}
use Rattle.rules.specs.declared.flow_rules.moves.Turning.{Turning}
use Rattle.rules.specs.declared.flow_rules.moves.Turning.TheVariants as turning
use Rattle.rules.specs.declared.flow_rules.moves.Move.TheVariants as move
use Rattle.il_base.specs.declared.bits.Bits.{Bits}
use Rattle.closure.specs.Facts.{facts_in, Derived}
use Rattle.rules.specs.flow_rules.Carrying.{Flow, Held, held, only_if, is_slot, lowest, through, made, is_handler, is_caught, passes, arriving, at_instruction}

abbrev pub turned : Flowing → Turning → ℕ → ℕ
turned f turning.FromHandle s = unwrap_or (slice_get f.from_handle.now s) f.unknown
turned f turning.FromText s = unwrap_or (slice_get f.from_text.now s) f.unknown

abbrev pub flow_in : Flowing → Flow ℕ
flow_in f = record { begins = f.begins.now; depths = f.depths.now; exits = f.exits.now; moves = f.moves.now; taken = f.taken.now; unknown = f.unknown; turn = turned f }

-- ---- numbers

unfoldable pub number : ℕ → ℕ → ℕ → ℕ → ℕ → ℕ
number slots count at slot source = (at * slots + slot) * count + source

abbrev pub universe : Flowing → ℕ
universe f = f.count * (f.slots * length f.depths.now)

-- whether a slot and a source are among those that have numbers
abbrev pub has_number : Flowing → Held ℕ → Bool
has_number f h = is_slot (flow_in f) h.at h.slot && nat_lt h.slot f.slots && nat_lt h.source f.count

abbrev pub fact_of : Flowing → Held ℕ → List ℕ
fact_of f h = only_if (has_number f h) (number f.slots f.count h.at h.slot h.source)

abbrev pub facts_of : Flowing → List (Held ℕ) → List ℕ
facts_of f hs = flat_map (fact_of f) hs

unfoldable pub place_in : Flowing → ℕ → ℕ
place_in f n = n / f.count / f.slots

unfoldable pub slot_in : Flowing → ℕ → ℕ
slot_in f n = n / f.count % f.slots

unfoldable pub source_in : Flowing → ℕ → ℕ
source_in f n = n % f.count

abbrev pub put_if : Flowing → Bool → Held ℕ → List ℕ
put_if f true h = fact_of f h
put_if f false h = []

-- what comes along a step of what an instruction leaves
abbrev pub facts_along : Flowing → Step → List (ℕ × ℕ) → List ℕ
facts_along f step xs = facts_of f (map (arriving step.to) (filter (passes (length f.begins.now) step.way) xs))

abbrev pub sent_facts : Flowing → ℕ → ℕ → List (ℕ × ℕ) → Step → List ℕ
sent_facts f slot s xs step = put_if f (is_handler step.way && nat_lt slot (length f.begins.now)) (held step.to slot s) ++ facts_along f step xs

abbrev pub born_along_facts : Flowing → List (ℕ × ℕ) → Step → List ℕ
born_along_facts f xs step = put_if f (is_caught step.way) (held step.to (length f.begins.now) f.unknown) ++ facts_along f step xs

abbrev pub low_of : Flowing → ℕ → Exit → ℕ
low_of f d e = lowest (length f.begins.now) d e

-- what follows from a fact, step by step
abbrev pub follows_by : Flowing → ℕ → ℕ → ℕ → List ℕ
follows_by f i slot s = at_instruction (flow_in f) i (λ d e m. flat_map (sent_facts f slot s (through (turned f) (low_of f d e) m slot s)) e.steps)

abbrev pub follows : Flowing → ℕ → List ℕ
follows f n = follows_by f (place_in f n) (slot_in f n) (source_in f n)

-- ---- the start

abbrev pub numbered : {A B : Type 0} → (ℕ → A → List B) → ℕ → List A → List B
numbered say k [] = []
numbered say k (x ∷ xs) = say k x ++ numbered say (k + 1) xs

abbrev pub begin_facts : Flowing → List ℕ
begin_facts f = numbered (λ slot s. fact_of f (held 0 slot s)) 0 f.begins.now

abbrev pub taken_facts : Flowing → ℕ → List ℕ
taken_facts f i = flat_map (λ slot. fact_of f (held i slot f.unknown)) f.taken.now

abbrev pub born_facts : Flowing → ℕ → List ℕ
born_facts f i = at_instruction (flow_in f) i (λ d e m. flat_map (born_along_facts f (made (low_of f d e) m)) e.steps)

-- what holds at an instruction without a source in a slot before
abbrev pub place_facts : Flowing → ℕ → List ℕ
place_facts f i = taken_facts f i ++ born_facts f i

abbrev pub root_facts : Flowing → List ℕ
root_facts f = begin_facts f ++ numbered (λ i d. place_facts f i) 0 f.depths.now

-- ---- flows whose numbers fit

-- sources are below the count, and no slot lies past the last
pub record IsWithin (f : Flowing) : Type 0 where
  pub begins : (slot s : ℕ) → slice_get f.begins.now slot ≡ Some s → s < f.count
  pub made : (i s : ℕ) → slice_get f.moves.now i ≡ Some (move.Make s) → s < f.count
  pub from_handle : (s t : ℕ) → slice_get f.from_handle.now s ≡ Some t → t < f.count
  pub from_text : (s t : ℕ) → slice_get f.from_text.now s ≡ Some t → t < f.count
  pub unknown : f.unknown < f.count
  pub slots : (i d : ℕ) → depth_at f.depths.now i ≡ Some d → length f.begins.now + d ≤ f.slots

-- all that follows from what holds at first
abbrev pub IsLeastOf : Flowing → Bits → Type 0
IsLeastOf f bits = (fact : ℕ) → IsTrue (facts_in bits fact) ↔ Derived (λ have n c. Contains (follows f n) c) (Contains (root_facts f)) fact
