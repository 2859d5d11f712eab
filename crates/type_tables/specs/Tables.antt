-- The tables by which questions on the types of a world are answered.
use Rattle.std.specs.Prelude.{◌≡◌, ℕ, List, map}
use Rattle.std.specs.List.{AllZip}
use Rattle.il_base.specs.declared.world_model.record.AsmRec.{AsmRec}
use Rattle.il_base.specs.declared.world_model.types.InterfaceImplRow.{InterfaceImplRow}
use Rattle.il_base.specs.declared.world_model.members.MethodImplRow.{MethodImplRow}
use Rattle.il_base.specs.declared.world_model.members.PropertyMapRow.{PropertyMapRow}
use Rattle.il_base.specs.declared.world_model.members.EventMapRow.{EventMapRow}
use Rattle.il_base.specs.declared.world_model.members.MethodSemanticsRow.{MethodSemanticsRow}
use Rattle.rules.specs.link_rules.Laws.{TellTokens, TellSignatures, TellMethods}
use Rattle.rules.specs.link_rules.Linked.{IsWorld}
use Rattle.type_tables.specs.member_search.Names.{AreNames}
use Rattle.type_tables.specs.member_search.Owners.{AreMethodOwners}
use Rattle.type_tables.specs.declared.tables.RowTables.{RowTables}
use Rattle.type_tables.specs.declared.tables.Rows.{Rows}
use Rattle.type_tables.specs.declared.tables.Tables.{Tables}
use Rattle.type_tables.specs.member_search.Linked.{IsScope}
use Rattle.type_tables.specs.Groups.{AreGroups}
use Rattle.base_laws.specs.type_laws.Uses.{TellsUses}

-- ---- the columns by which rows are grouped

abbrev pub interface_classes : AsmRec → List ℕ
interface_classes rec = map (λ (r : InterfaceImplRow). r.class) rec.interface_impl

abbrev pub impl_classes : AsmRec → List ℕ
impl_classes rec = map (λ (r : MethodImplRow). r.class) rec.method_impl

abbrev pub property_parents : AsmRec → List ℕ
property_parents rec = map (λ (r : PropertyMapRow). r.parent) rec.property_map

abbrev pub event_parents : AsmRec → List ℕ
event_parents rec = map (λ (r : EventMapRow). r.parent) rec.event_map

abbrev pub associations : AsmRec → List ℕ
associations rec = map (λ (r : MethodSemanticsRow). r.association) rec.method_semantics

-- ---- the tables

pub record AreRowTables (rec : AsmRec) (t : RowTables) : Type 0 where
  pub owners : AreMethodOwners rec t.owners.items
  pub interfaces : AreGroups (interface_classes rec) t.interfaces
  pub impls : AreGroups (impl_classes rec) t.impls
  pub properties : AreGroups (property_parents rec) t.properties
  pub events : AreGroups (event_parents rec) t.events
  pub semantics : AreGroups (associations rec) t.semantics

-- the tables of a world that a link gave
pub record IsTables (t : Tables) : Type 0 where
  pub world : IsWorld t.world.now
  pub tokens : TellTokens t.world.now.recs t.world.now.types
  pub signatures : TellSignatures t.world.now.recs t.world.now.types
  pub methods : TellMethods t.world.now.recs t.world.now.types
  pub uses : TellsUses t.world.now
  pub names : AllZip AreNames t.world.now.recs t.names.items
  pub rows : AllZip AreRowTables t.world.now.recs t.rows.items

-- the rows of an assembly of the world
pub record AreRowsAt (t : Tables) (a : ℕ) (r : Rows) : Type 0 where
  pub scope : IsScope r.scope
  pub all : r.scope.linked.all.now ≡ t.world.now.recs
  pub asm : r.scope.asm ≡ a
  pub tables : AreRowTables r.scope.rec.now r.tables.now
