-- The assemblies of a world with their tables.
use Rattle.std.specs.Prelude.{◌≡◌, ℕ, List, Some, slice_get}
use Rattle.std.specs.List.{AllZip}
use Rattle.il_base.specs.declared.world_model.record.AsmRec.{AsmRec}
use Rattle.rules.specs.link_rules.Linked.{IsWorld}
use Rattle.type_tables.specs.member_search.Linked.{IsScope}
use Rattle.type_tables.specs.Tables.{AreRowTables, IsTables}
use Rattle.mark_parts.specs.declared.mark_tables.assembly.Assembly.{Assembly}
use Rattle.mark_parts.specs.declared.mark_tables.marker.Marker.{Marker}
use Rattle.mark_parts.specs.mark_tables.Owners.{AreOwnerRows}
use Rattle.mark_parts.specs.mark_tables.Impls.{AreImplBodies}

-- all assemblies of the world, the place of this one, and its record
abbrev pub recs_of : Assembly → List AsmRec
recs_of a = a.scope.linked.all.now

abbrev pub place_of : Assembly → ℕ
place_of a = a.scope.asm

abbrev pub rec_of : Assembly → AsmRec
rec_of a = a.scope.rec.now

pub record IsAssembly (a : Assembly) : Type 0 where
  pub world : IsWorld a.world.now
  pub recs : recs_of a ≡ a.world.now.recs
  pub scope : IsScope a.scope
  pub of_types : AreRowTables (rec_of a) a.of_types.now
  pub owners : AreOwnerRows (rec_of a) a.owners.now

-- the records of all assemblies
abbrev pub all_of : Marker → List AsmRec
all_of m = m.tables.world.now.recs

pub record IsMarker (m : Marker) : Type 0 where
  pub tables : IsTables m.tables
  pub rows : AllZip AreOwnerRows (all_of m) m.rows.items
  pub impls : AreImplBodies (all_of m) m.impls.items

-- an assembly in a place
pub record IsAssemblyAt (m : Marker) (asm : ℕ) (a : Assembly) : Type 0 where
  pub is : IsAssembly a
  pub recs : recs_of a ≡ all_of m
  pub place : place_of a ≡ asm
