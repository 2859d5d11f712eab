-- A program with its tables.
use Rattle.std.specs.Prelude.{◌≡◌, List, Bool}
use Rattle.il_base.specs.declared.ids.Item.{Item}
use Rattle.il_base.specs.declared.world_model.record.AsmRec.{AsmRec}
use Rattle.il_base.specs.declared.world_model.world.World.{World}
use Rattle.rules.specs.mark_rules.Facts.Fact.{marked}
use Rattle.mark_parts.specs.mark_tables.Assemblies.{all_of, IsMarker}
use Rattle.attribute_values.specs.Tables.{AreAttributeTables}
use Rattle.bad_items.specs.mark_flaws.Tables.{AreFlawTables}
use Rattle.marking.specs.Holding.{holds}
use Rattle.bad_items.specs.declared.program.Program.{Program}

abbrev pub world_in : Program → World
world_in p = p.marker.now.tables.world.now

abbrev pub recs_in : Program → List AsmRec
recs_in p = all_of p.marker.now

-- which items are marked
abbrev pub has : Program → Item → Bool
has p i = holds p.marked.now (marked i)

pub record IsProgram (p : Program) : Type 0 where
  pub marker : IsMarker p.marker.now
  pub attributes : AreAttributeTables p.marker.now p.attributes.now
  pub tables : AreFlawTables (recs_in p) p.tables.now
  pub types : p.types.now ≡ world_in p
