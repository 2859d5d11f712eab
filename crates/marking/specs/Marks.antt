-- The marked set by the numbers of facts.
use Rattle.std.specs.Prelude.{List, Option, IsTrue, ◌↔◌}
use Rattle.il_base.specs.declared.bits.Bits.{Bits}
use Rattle.il_base.specs.declared.world_model.record.AsmRec.{AsmRec}
use Rattle.rules.specs.declared.link_rules.row_at.RowAt.{RowAt}
use Rattle.descriptor_file.specs.declared.root.Root.{Root}
use Rattle.closure.specs.Facts.{facts_in}
use Rattle.rules.specs.mark_rules.Facts.{Fact}
use Rattle.rules.specs.mark_rules.Marking.{Marks}
use Rattle.mark_numbers.specs.Numbers.{number_of, is_there}

-- a fact that is there is in the set exactly where the rules derive it
abbrev pub IsMarkedSet : List AsmRec → Option RowAt → List Root → Bits → Type 0
IsMarkedSet recs entry roots set = (f : Fact) → IsTrue (is_there recs f) → IsTrue (facts_in set (number_of recs f)) ↔ Marks recs entry roots f
