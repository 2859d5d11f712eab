-- The first clause of a body that breaks the rules on pairs.
use Rattle.std.specs.Prelude.{◌≡◌, ◌⊎◌, ℕ, ◌<◌, true, false, not, ◌&&◌, List, Some}
use Rattle.std.specs.List.{slice_get}
use Rattle.il_base.specs.declared.body.Handler.{Handler}
use Rattle.il_base.specs.body_grammar.HandlerRules.{try_of, handler_of, are_disjoint, is_same, fits_beside_all}
use Rattle.il_code.specs.declared.blocks.Block.{Block}
use Rattle.il_code.specs.Blocks.{most, IsSame, StandsBy, FailsBy, MayShare, IsIn}

-- The least clause of a block that doesn't keep the rules beside one before it in the order, of the first n blocks;
-- else `most`.
pub record IsFirstWithin (blocks : List Block) (n first : ℕ) : Type 0 where
  pub before : (q k : ℕ) (a b : Block) → q < k → k < n → slice_get blocks q ≡ Some a → slice_get blocks k ≡ Some b → b.clause < first → StandsBy a b
  pub at : (first ≡ most) ⊎ ((a : Block) × (b : Block) × IsIn blocks a × IsIn blocks b × (b.clause ≡ first) × FailsBy a b)

-- The least clause of a block with the range of another clause's block that may not share it, of the first n blocks;
-- else `most`.
pub record IsFirstAlike (blocks : List Block) (n first : ℕ) : Type 0 where
  pub before : (q k : ℕ) (a b : Block) → q < k → k < n → slice_get blocks q ≡ Some a → slice_get blocks k ≡ Some b → IsSame a b → (a.clause < first) ⊎ (b.clause < first) → MayShare a b
  pub at : (first ≡ most) ⊎ ((a : Block) × (b : Block) × IsIn blocks a × IsIn blocks b × ((a.clause ≡ first) ⊎ (b.clause ≡ first)) × IsSame a b × (MayShare a b → ⊥))

-- a clause's own blocks are disjoint and not the same
abbrev pub StandsAlone : Handler → Type 0
StandsAlone h = (are_disjoint (try_of h) (handler_of h) && not (is_same (try_of h) (handler_of h))) ≡ true

-- The first clause that doesn't keep the rules on pairs beside each other one, among those whose own blocks are
-- disjoint. Where each of these keeps them, it is the number of no clause.
pub record IsFirstMisfit (all : List Handler) (first : ℕ) : Type 0 where
  pub before : (i : ℕ) (h : Handler) → i < first → slice_get all i ≡ Some h → StandsAlone h → fits_beside_all i h 0 all ≡ true
  pub at : (h : Handler) → slice_get all first ≡ Some h → StandsAlone h → fits_beside_all first h 0 all ≡ false
