-- The facts that hold at the start, as a list, and their numbers.
use Rattle.std.specs.Prelude.{ℕ, List, [], ◌∷◌, ◌++◌, Option, if◌then◌else◌}
use Rattle.std.specs.List.{flat_map}
use Rattle.il_base.specs.declared.ids.Item.{Item}
use Rattle.il_base.specs.declared.world_model.record.AsmRec.{AsmRec}
use Rattle.il_base.specs.declared.world_model.world.Home.{Home}
use Rattle.il_base.specs.declared.world_model.world.World.{World}
use Rattle.rules.specs.declared.link_rules.row_at.RowAt.{RowAt}
use Rattle.descriptor_file.specs.declared.root.Root.{Root}
use Rattle.rules.specs.mark_rules.Facts.{Fact}
use Rattle.rules.specs.mark_rules.Facts.Fact.{marked}
use Rattle.rules.specs.mark_rules.Places.{is_core}
use Rattle.rules.specs.mark_rules.Roots.{start_facts}
use Rattle.marking.specs.marking_rules.Lists.{numbers_in}

abbrev pub core_fact : List AsmRec → Item → List Fact
core_fact recs i = if is_core recs i then marked i ∷ [] else []

-- the items of the core library
abbrev pub core_facts : World → List Fact
core_facts w = flat_map (λ (h : Home). core_fact w.recs h.item) w.homes

abbrev pub first_facts : World → Option RowAt → List Root → List Fact
first_facts w entry roots = core_facts w ++ start_facts w.recs entry roots

abbrev pub start_list : World → Option RowAt → List Root → List ℕ
start_list w entry roots = numbers_in w.recs (first_facts w entry roots)
