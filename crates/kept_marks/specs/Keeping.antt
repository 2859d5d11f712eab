-- What a marked set says to keep.
use Rattle.std.specs.Prelude.{◌≡◌, List, false, IsTrue}
use Rattle.il_base.specs.declared.bits.Bits.{Bits}
use Rattle.il_base.specs.declared.ids.Item.{Item}
use Rattle.il_base.specs.declared.ids.TypeId.{TypeId}
use Rattle.il_base.specs.declared.world_model.record.AsmRec.{AsmRec}
use Rattle.rules.specs.mark_rules.Facts.Fact.{marked, shown}
use Rattle.mark_numbers.specs.Numbers.{is_there}
use Rattle.marking.specs.declared.marked.Marked.{Marked}
use Rattle.marking.specs.Holding.{holds}
use Rattle.merge_plan.specs.declared.kept.KeptItems.{KeptItems}
use Rattle.merge_plan.specs.Kept.{kept_by}
use Rattle.merge_plan.specs.Contests.{shown_by}

-- Kept items: those of the assemblies' items that are marked, and no others.
pub record KeepsMarked (recs : List AsmRec) (m : Marked) (k : KeptItems) : Type 0 where
  pub there : (i : Item) → IsTrue (is_there recs (marked i)) → kept_by k i ≡ holds m (marked i)
  pub others : (i : Item) → is_there recs (marked i) ≡ false → kept_by k i ≡ false

-- Shown types: those of the assemblies' types that are shown, and no others.
pub record ShowsMarked (recs : List AsmRec) (m : Marked) (bits : Bits) : Type 0 where
  pub there : (t : TypeId) → IsTrue (is_there recs (shown t)) → shown_by bits t ≡ holds m (shown t)
  pub others : (t : TypeId) → is_there recs (shown t) ≡ false → shown_by bits t ≡ false
