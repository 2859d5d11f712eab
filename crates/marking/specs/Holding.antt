-- The facts that hold by a marked set.
use Rattle.std.specs.Prelude.{ℕ, ◌+◌, List, Option, Bool, IsTrue, ◌↔◌}
use Rattle.il_base.specs.declared.ids.Item.{Item}
use Rattle.il_base.specs.declared.ids.Item.TheVariants as item
use Rattle.il_base.specs.declared.world_model.record.AsmRec.{AsmRec}
use Rattle.rules.specs.declared.link_rules.row_at.RowAt.{RowAt}
use Rattle.descriptor_file.specs.declared.root.Root.{Root}
use Rattle.closure.specs.Facts.{is_set}
use Rattle.rules.specs.mark_rules.Facts.{Fact}
use Rattle.rules.specs.mark_rules.Facts.Fact.{marked, instantiated, reflected, shown}
use Rattle.rules.specs.mark_rules.Marking.{Marks}
use Rattle.mark_numbers.specs.declared.starts.Starts.{Starts}
use Rattle.mark_numbers.specs.Numbers.{is_there}
use Rattle.marking.specs.declared.marked.Marked.{Marked}

abbrev pub place_by : Starts → Item → ℕ
place_by s (item.Asm a) = a.0
place_by s (item.Typ t) = s.types + t.0
place_by s (item.Method m) = s.methods + m.0
place_by s (item.Field f) = s.fields + f.0
place_by s (item.Prop p) = s.properties + p.0
place_by s (item.Event e) = s.events + e.0
place_by s (item.Impl i) = s.interfaces + i.0

abbrev pub number_by : Starts → Fact → ℕ
number_by s (marked i) = place_by s i
number_by s (instantiated t) = s.instantiated + t.0
number_by s (shown t) = s.shown + t.0
number_by s (reflected i) = s.reflected + place_by s i

-- whether a fact holds
abbrev pub holds : Marked → Fact → Bool
holds m f = is_set m.set.flags (number_by m.starts f)

-- a fact whose item or type is a row of the world holds exactly where the rules of marking derive it
abbrev pub IsMarked : List AsmRec → Option RowAt → List Root → Marked → Type 0
IsMarked recs entry roots m = (f : Fact) → IsTrue (is_there recs f) → IsTrue (holds m f) ↔ Marks recs entry roots f
