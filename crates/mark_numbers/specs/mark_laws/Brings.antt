-- The facts that a fact brings, by numbers, where the facts of a set are known. A rule with several premises belongs to its first one.
use Rattle.std.specs.Prelude.{◌≡◌, ◌<◌, ℕ, List, Some, Option, Bool, IsTrue, ◌↔◌}
use Rattle.std.specs.List.{Contains}
use Rattle.il_base.specs.declared.world_model.record.AsmRec.{AsmRec}
use Rattle.il_base.specs.declared.world_model.world.World.{World}
use Rattle.rules.specs.declared.link_rules.row_at.RowAt.{RowAt}
use Rattle.rules.specs.link_rules.Linked.{IsWorld}
use Rattle.descriptor_file.specs.declared.root.Root.{Root}
use Rattle.closure.specs.Facts.{Derived, IsWithin}
use Rattle.rules.specs.mark_rules.Facts.{Fact}
use Rattle.rules.specs.mark_rules.Marking.{one, two, three, given, Marks}
use Rattle.mark_numbers.specs.Numbers.{universe, number_of, is_there, fact_numbered}

-- a fact that is there and known
pub record Known (recs : List AsmRec) (have : ℕ → Bool) (f : Fact) : Type 0 where
  pub there : IsTrue (is_there recs f)
  pub known : IsTrue (have (number_of recs f))

-- the facts that follow from one fact, alone or with known ones
pub data Gives (recs : List AsmRec) (roots : List Root) (have : ℕ → Bool) (a : Fact) : Fact → Type 0 where
  alone : (f : Fact) → Contains (one recs roots a) f → Gives recs roots have a f
  with_one : (b f : Fact) → Known recs have b → Contains (two recs a b) f → Gives recs roots have a f
  with_two : (b c f : Fact) → Known recs have b → Known recs have c → Contains (three recs a b c) f → Gives recs roots have a f

-- the fact with one number gives the fact with another
pub record Brings (w : World) (roots : List Root) (have : ℕ → Bool) (n c : ℕ) : Type 0 where
  pub fact : Fact
  pub numbered : fact_numbered w n ≡ Some fact
  pub given : Fact
  pub there : IsTrue (is_there w.recs given)
  pub number : number_of w.recs given ≡ c
  pub gives : Gives w.recs roots have fact given

-- a number of a fact that is given
pub record IsStart (w : World) (entry : Option RowAt) (roots : List Root) (n : ℕ) : Type 0 where
  pub fact : Fact
  pub there : IsTrue (is_there w.recs fact)
  pub number : number_of w.recs fact ≡ n
  pub holds : IsTrue (given w.recs entry roots fact)

-- ---- the laws

abbrev pub StaysBelow : Type 0
StaysBelow = (w : World) → IsWorld w → (roots : List Root) (have : ℕ → Bool) (n c : ℕ) → Brings w roots have n c → c < universe w.recs

abbrev pub IsMonotone : Type 0
IsMonotone = (w : World) (roots : List Root) (few many : ℕ → Bool) (n c : ℕ) → IsWithin few many → Brings w roots few n c → Brings w roots many n c

abbrev pub MarksFound : Type 0
MarksFound =
    (w : World) → IsWorld w → (entry : Option RowAt) (roots : List Root) (f : Fact) → IsTrue (is_there w.recs f)
    → Marks w.recs entry roots f ↔ Derived (Brings w roots) (IsStart w entry roots) (number_of w.recs f)
