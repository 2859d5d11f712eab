-- Which sources reach which slots of a body. The definition follows one source along one walk. Instructions, arguments, locals and
-- places on the evaluation stack are counted from 0; slots are the arguments, then the locals, then the stack from its bottom.
use Rattle.std.specs.Prelude.{◌≡◌, ℕ, suc, ◌+◌, ◌-◌, Bool, true, false, not, ◌&&◌, ◌||◌, nat_eq, nat_lt, List, [], ◌∷◌, ◌++◌, length, map, slice_get, Option, Some, None}
use Rattle.std.specs.List.{Contains, filter, flat_map}
use Rattle.rules.specs.declared.flow_rules.exit.Way.{Way}
use Rattle.rules.specs.declared.flow_rules.exit.Way.TheVariants as way
use Rattle.rules.specs.declared.flow_rules.exit.Step.{Step}
use Rattle.rules.specs.declared.flow_rules.exit.Exit.{Exit}
use Rattle.rules.specs.flow_rules.Depths.{depth_at}
use Rattle.rules.specs.declared.flow_rules.moves.Turning.{Turning}
use Rattle.rules.specs.declared.flow_rules.moves.Move.{Move}
use Rattle.rules.specs.declared.flow_rules.moves.Move.TheVariants as move

-- the instructions of a body, as sources go through them
pub record Flow (A : Type 0) : Type 0 where
  -- the source of each argument and local at the start
  pub begins : List A
  -- the depth of the evaluation stack at each instruction that a walk reaches
  pub depths : List (Option ℕ)
  pub exits : List Exit
  pub moves : List (Move A)
  -- arguments and locals whose address is taken
  pub taken : List ℕ
  -- the source of a value of which nothing is known
  pub unknown : A
  pub turn : Turning → A → A

-- a source in a slot at an instruction
pub record Held (A : Type 0) : Type 0 where
  pub at : ℕ
  pub slot : ℕ
  pub source : A

abbrev pub held : {A : Type 0} → ℕ → ℕ → A → Held A
held at slot source = record { at = at; slot = slot; source = source }

-- ---- one instruction, where `fixed` slots are arguments and locals, and d values are on the stack

-- the lowest slot that an instruction takes from the stack, where its result is put
abbrev pub lowest : ℕ → ℕ → Exit → ℕ
lowest fixed d e = fixed + (d - e.pops)

abbrev pub only_if : {A : Type 0} → Bool → A → List A
only_if true x = x ∷ []
only_if false x = []

-- a slot below those that the instruction takes keeps what it has
abbrev pub stays : {A : Type 0} → ℕ → ℕ → A → List (ℕ × A)
stays low slot s = only_if (nat_lt slot low) (slot, s)

-- where a source goes that is in a slot before the instruction
abbrev pub through : {A : Type 0} → (Turning → A → A) → ℕ → Move A → ℕ → A → List (ℕ × A)
through turn low (move.Load n) slot s = stays low slot s ++ only_if (nat_eq slot n) (low, s)
through turn low (move.Store n) slot s = only_if (nat_lt slot low && not (nat_eq slot n)) (slot, s) ++ only_if (nat_eq slot low) (n, s)
through turn low move.Twice slot s = stays low slot s ++ only_if (nat_eq slot low) (low, s) ++ only_if (nat_eq slot low) (suc low, s)
through turn low move.Back slot s = stays low slot s ++ only_if (nat_eq slot low) (low, s)
through turn low (move.Make new) slot s = stays low slot s
through turn low (move.Turn t) slot s = stays low slot s ++ only_if (nat_eq slot low) (low, turn t s)
through turn low move.Nothing slot s = stays low slot s

-- what the instruction makes
abbrev pub made : {A : Type 0} → ℕ → Move A → List (ℕ × A)
made low (move.Load n) = []
made low (move.Store n) = []
made low move.Twice = []
made low move.Back = []
made low (move.Make new) = (low, new) ∷ []
made low (move.Turn t) = []
made low move.Nothing = []

-- ---- the steps from it

abbrev pub is_next : Way → Bool
is_next way.Next = true
is_next way.Emptied = false
is_next way.Caught = false
is_next way.Unwound = false

abbrev pub is_handler : Way → Bool
is_handler way.Next = false
is_handler way.Emptied = false
is_handler way.Caught = true
is_handler way.Unwound = true

abbrev pub is_caught : Way → Bool
is_caught way.Next = false
is_caught way.Emptied = false
is_caught way.Caught = true
is_caught way.Unwound = false

-- what the instruction leaves goes along a step: arguments and locals alone where the stack is emptied
abbrev pub passes : {A : Type 0} → ℕ → Way → ℕ × A → Bool
passes fixed w x = is_next w || nat_lt x.0 fixed

-- arguments and locals go to a handler as they were before the instruction, too
abbrev pub before : {A : Type 0} → ℕ → Way → ℕ → A → List (ℕ × A)
before fixed w slot s = only_if (is_handler w && nat_lt slot fixed) (slot, s)

-- the exception that a catch handler begins with
abbrev pub caught : {A : Type 0} → ℕ → Way → A → List (ℕ × A)
caught fixed w unknown = only_if (is_caught w) (fixed, unknown)

abbrev pub arriving : {A : Type 0} → ℕ → ℕ × A → Held A
arriving to x = held to x.0 x.1

-- what comes along a step of what is so before the instruction, and of what it leaves
abbrev pub along : {A : Type 0} → ℕ → Step → List (ℕ × A) → List (ℕ × A) → List (Held A)
along fixed step old new = map (arriving step.to) old ++ map (arriving step.to) (filter (passes fixed step.way) new)

abbrev pub sent_along : {A : Type 0} → Flow A → ℕ → Exit → Move A → ℕ → A → Step → List (Held A)
sent_along f d e m slot s step =
    along (length f.begins) step (before (length f.begins) step.way slot s) (through f.turn (lowest (length f.begins) d e) m slot s)

abbrev pub born_along : {A : Type 0} → Flow A → ℕ → Exit → Move A → Step → List (Held A)
born_along f d e m step = along (length f.begins) step (caught (length f.begins) step.way f.unknown) (made (lowest (length f.begins) d e) m)

-- ---- what is said of an instruction that a walk reaches

abbrev pub of_move : {A B : Type 0} → (Move A → List B) → Option (Move A) → List B
of_move say None = []
of_move say (Some m) = say m

abbrev pub of_exit : {A B : Type 0} → (Exit → Move A → List B) → Option Exit → Option (Move A) → List B
of_exit say None m = []
of_exit say (Some e) m = of_move (say e) m

abbrev pub of_depth : {A B : Type 0} → (ℕ → Exit → Move A → List B) → Option ℕ → Option Exit → Option (Move A) → List B
of_depth say None e m = []
of_depth say (Some d) e m = of_exit (say d) e m

abbrev pub at_instruction : {A B : Type 0} → Flow A → ℕ → (ℕ → Exit → Move A → List B) → List B
at_instruction f i say = of_depth say (depth_at f.depths i) (slice_get f.exits i) (slice_get f.moves i)

-- where a source in a slot goes by one instruction
abbrev pub sent : {A : Type 0} → Flow A → ℕ → ℕ → A → List (Held A)
sent f i slot s = at_instruction f i (λ d e m. flat_map (sent_along f d e m slot s) e.steps)

-- what an instruction makes, and what a catch handler after it begins with
abbrev pub born : {A : Type 0} → Flow A → ℕ → List (Held A)
born f i = at_instruction f i (λ d e m. flat_map (born_along f d e m) e.steps)

-- ---- walks

abbrev pub is_slot_by : ℕ → ℕ → Option ℕ → Bool
is_slot_by fixed slot None = false
is_slot_by fixed slot (Some d) = nat_lt slot (fixed + d)

-- the slots at an instruction: arguments, locals, and what is on the stack there
abbrev pub is_slot : {A : Type 0} → Flow A → ℕ → ℕ → Bool
is_slot f i slot = is_slot_by (length f.begins) slot (depth_at f.depths i)

-- A source is carried to a slot at an instruction where a walk moves it there from the place that makes it.
pub data Carried (A : Type 0) (f : Flow A) : ℕ → ℕ → A → Type 0 where
  -- an argument or a local at the start
  begins : {slot : ℕ} {s : A} → slice_get f.begins slot ≡ Some s → is_slot f 0 slot ≡ true → Carried A f 0 slot s
  -- anything may be written where an address is taken
  taken : {i slot : ℕ} → Contains f.taken slot → is_slot f i slot ≡ true → Carried A f i slot f.unknown
  -- an instruction makes it
  born_at : (i : ℕ) {j slot : ℕ} {s : A} → Contains (born f i) (held j slot s) → is_slot f j slot ≡ true → Carried A f j slot s
  -- an instruction moves it
  sent_from : (i slot : ℕ) (s : A) {j to : ℕ} {t : A} → Carried A f i slot s → Contains (sent f i slot s) (held j to t) → is_slot f j to ≡ true → Carried A f j to t
