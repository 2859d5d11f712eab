-- What is tried is enough.
use Rattle.std.specs.Prelude.{Bool, List, IsTrue, ◌↔◌}
use Rattle.std.specs.List.{Contains}
use Rattle.il_base.specs.declared.ids.Item.{Item}
use Rattle.il_base.specs.declared.world_model.record.AsmRec.{AsmRec}
use Rattle.rules.specs.mark_rules.Facts.{Fact}
use Rattle.rules.specs.mark_rules.Facts.Fact.{marked}
use Rattle.rules.specs.mark_rules.Marking.{two, three}
use Rattle.base_laws.specs.known_laws.Known.{fact_with}

-- what a fact gives with known items by the rules of two and of three facts
pub data GivesWith (recs : List AsmRec) (known : Item → Bool) (a : Fact) : Fact → Type 0 where
  with_one : (i : Item) (f : Fact) → IsTrue (known i) → Contains (two recs a (marked i)) f → GivesWith recs known a f
  with_two : (i j : Item) (f : Fact) → IsTrue (known i) → IsTrue (known j) → Contains (three recs a (marked i) (marked j)) f → GivesWith recs known a f

abbrev pub TriesEnough : Type 0
TriesEnough = (recs : List AsmRec) (known : Item → Bool) (a f : Fact) → Contains (fact_with recs known a) f ↔ GivesWith recs known a f
