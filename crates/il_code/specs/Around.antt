-- What is around a place, of the blocks that have begun before it.
use Rattle.std.specs.Prelude.{◌≡◌, ◌⊎◌, ℕ, ◌-◌, ◌<◌, ◌≤◌, nat_lt, nat_le, Bool, not, ◌&&◌, ◌||◌, List, Some, if◌then◌else◌}
use Rattle.std.specs.List.{slice_get, Contains}
use Rattle.std.specs.BinaryHeap.{heap_items}
use Rattle.il_code.specs.declared.around.Around.{Around}
use Rattle.il_code.specs.declared.around.Begun.{Begun}
use Rattle.il_code.specs.declared.blocks.Block.{Block}
use Rattle.il_code.specs.declared.tops.Tops.{Tops}
use Rattle.il_code.specs.Blocks.{most}

abbrev pub by_start : Block → ℕ
by_start b = b.range.from

abbrev pub by_end : Block → ℕ
by_end b = most - b.range.to

abbrev pub by_clause : Block → ℕ
by_clause b = if b.is_try then most - b.clause else 0

-- the greatest number that f gives of the first n blocks which end after a place, or 0
pub record IsGreatest (f : Block → ℕ) (blocks : List Block) (n place g : ℕ) : Type 0 where
  pub bound : (q : ℕ) (a : Block) → q < n → slice_get blocks q ≡ Some a → place < a.range.to → f a ≤ g
  pub is : (g ≡ 0) ⊎ ((q : ℕ) × (a : Block) × (q < n) × (slice_get blocks q ≡ Some a) × (place < a.range.to) × (f a ≡ g))

-- what is around a place, of the first n blocks
pub record IsAround (blocks : List Block) (n place : ℕ) (r : Around) : Type 0 where
  pub from : IsGreatest by_start blocks n place r.from
  pub to : IsGreatest by_end blocks n place (most - r.to)
  pub clause : IsGreatest by_clause blocks n place (most - r.clause)

-- Pairs of the number that f gives of a block and of the block's end: of the first n blocks, all that end after a place.
pub record AreNumbers (f : Block → ℕ) (blocks : List Block) (n place : ℕ) (pairs : List (ℕ × ℕ)) : Type 0 where
  pub all : (q : ℕ) (a : Block) → q < n → slice_get blocks q ≡ Some a → place < a.range.to → Contains pairs (f a, a.range.to)
  pub only : (x : ℕ × ℕ) → Contains pairs x → (q : ℕ) × (a : Block) × (q < n) × (slice_get blocks q ≡ Some a) × (x ≡ (f a, a.range.to))

abbrev pub pairs_of : Tops → List (ℕ × ℕ)
pairs_of t = heap_items t.heap

-- of each kind of number
pub record HasBegun (blocks : List Block) (n place : ℕ) (b : Begun) : Type 0 where
  pub starts : AreNumbers by_start blocks n place (pairs_of b.starts)
  pub ends : AreNumbers by_end blocks n place (pairs_of b.ends)
  pub clauses : AreNumbers by_clause blocks n place (pairs_of b.clauses)

-- whether a block keeps the rules within what is around its first byte
abbrev pub stands_in : Block → Around → Bool
stands_in b r = nat_le b.range.to r.to && (not b.is_try || (nat_le r.from b.handler.from && nat_le b.handler.to r.to && nat_lt b.clause r.clause))

-- the clause of a block that doesn't
abbrev pub misfit : Block → Around → ℕ
misfit b r = if stands_in b r then most else b.clause
