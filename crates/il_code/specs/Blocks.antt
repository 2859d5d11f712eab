-- The try blocks and handlers of the clauses of a body, in the order of their first bytes.
use Rattle.std.specs.Prelude.{◌≡◌, ◌⊎◌, ℕ, ◌+◌, ◌-◌, ◌<◌, ◌≤◌, min, Bool, true, false, ◌&&◌, ◌||◌, ◌==◌, List, [], ◌∷◌, Some, if◌then◌else◌}
use Rattle.std.specs.List.{slice_get}
use Rattle.il_base.specs.declared.body.Handler.{Handler}
use Rattle.il_base.specs.declared.body_grammar.body.Range.{Range}
use Rattle.il_base.specs.body_grammar.HandlerRules.{try_of, handler_of}
use Rattle.il_code.specs.declared.blocks.Block.{Block}

-- ---- blocks

-- the blocks of clause i
abbrev pub try_block : ℕ → Handler → Block
try_block i h = record { range = try_of h; handler = handler_of h; clause = i; is_try = true; shares = h.kind == 0 }

abbrev pub handler_block : ℕ → Handler → Block
handler_block i h = record { range = handler_of h; handler = handler_of h; clause = i; is_try = false; shares = false }

-- the blocks of clauses from number i on
abbrev pub blocks_from : ℕ → List Handler → List Block
blocks_from i [] = []
blocks_from i (h ∷ hs) = try_block i h ∷ handler_block i h ∷ blocks_from (i + 1) hs

-- the greatest number of 64 bits
abbrev pub most : ℕ
most = 18446744073709551615

-- a range of code that is read from its end to its front
abbrev pub turned_range : Range → Range
turned_range r = record { from = most - r.to; to = most - r.from }

-- so is a block
abbrev pub turned : Block → Block
turned b = record { range = turned_range b.range; handler = turned_range b.handler; clause = b.clause; is_try = b.is_try; shares = b.shares }

-- the numbers of a block fit their types
pub record IsBounded (b : Block) : Type 0 where
  pub range : b.range.from ≤ b.range.to
  pub last : b.range.to ≤ most
  pub handler : b.handler.from ≤ b.handler.to
  pub handler_last : b.handler.to ≤ most
  pub clause : b.clause < most

-- ---- two blocks

-- one block ends before another begins
abbrev pub Ends : Block → Block → Type 0
Ends a b = a.range.to ≤ b.range.from

abbrev pub Holds : Block → Block → Type 0
Holds a b = (a.range.from ≤ b.range.from) × (b.range.to ≤ a.range.to)

abbrev pub HoldsHandler : Block → Block → Type 0
HoldsHandler a b = (a.range.from ≤ b.handler.from) × (b.handler.to ≤ a.range.to)

abbrev pub IsSame : Block → Block → Type 0
IsSame a b = (a.range.from ≡ b.range.from) × (a.range.to ≡ b.range.to)

-- The order of blocks: by their first bytes, and of those with the same first byte the longer one first.
abbrev pub Before : Block → Block → Type 0
Before a b = (a.range.from < b.range.from) ⊎ ((a.range.from ≡ b.range.from) × (b.range.to ≤ a.range.to))

-- Block b keeps the rules within another block: it lies there, and of a try block the handler too, whose clause stands
-- before that of a try block around.
abbrev pub StandsIn : Block → Block → Type 0
StandsIn a b = Holds a b × (b.is_try ≡ true → HoldsHandler a b × (a.is_try ≡ true → b.clause < a.clause))

-- block b keeps the rules beside one before it in the order, but for blocks of one range
abbrev pub StandsBy : Block → Block → Type 0
StandsBy a b = Ends a b ⊎ (IsSame a b ⊎ StandsIn a b)

-- and it doesn't
pub record FailsBy (a b : Block) : Type 0 where
  pub before : Before a b
  pub meets : b.range.from < a.range.to
  pub apart : IsSame a b → ⊥
  pub fails : StandsIn a b → ⊥

-- blocks of two clauses may have one range
abbrev pub MayShare : Block → Block → Type 0
MayShare a b = (a.clause ≡ b.clause) ⊎ ((a.shares ≡ true) × (b.shares ≡ true))

-- ---- lists of blocks

-- Each two blocks stand in order; of those with one range the ones that may not share it come first.
abbrev pub AreOrdered : List Block → Type 0
AreOrdered blocks = (q k : ℕ) (a b : Block) → q < k → slice_get blocks q ≡ Some a → slice_get blocks k ≡ Some b
    → Before a b × (IsSame a b → a.shares ≡ true → b.shares ≡ true)

abbrev pub AreBounded : List Block → Type 0
AreBounded blocks = (q : ℕ) (b : Block) → slice_get blocks q ≡ Some b → IsBounded b

-- a block somewhere in a list
abbrev pub IsIn : List Block → Block → Type 0
IsIn blocks b = (q : ℕ) × (slice_get blocks q ≡ Some b)

-- The blocks from number run on, up to number at, have one range, and none before has it.
pub record IsRun (blocks : List Block) (run at : ℕ) : Type 0 where
  pub below : run ≤ at
  pub one : (q : ℕ) (a c : Block) → run ≤ q → q < at → slice_get blocks q ≡ Some a → slice_get blocks run ≡ Some c → IsSame a c
  pub other : (q : ℕ) (a c : Block) → q < run → slice_get blocks q ≡ Some a → slice_get blocks run ≡ Some c → IsSame a c → ⊥

-- whether two blocks may have one range
abbrev pub may_share : Block → Block → Bool
may_share a b = a.clause == b.clause || (a.shares && b.shares)

-- the lesser clause of two blocks that may not
abbrev pub clash : Block → Block → ℕ
clash a b = if may_share a b then most else min a.clause b.clause
