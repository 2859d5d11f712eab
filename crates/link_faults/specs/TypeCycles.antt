-- The graphs over the types of a world.
use Rattle.std.specs.Prelude.{◌≡◌, ℕ, List, Some, slice_get}
use Rattle.il_base.specs.declared.world_model.record.AsmRec.{AsmRec}
use Rattle.il_base.specs.declared.world_model.world.TypeLink.{TypeLink}
use Rattle.il_base.specs.world_model.Worlds.{type_id}
use Rattle.rules.specs.link_rules.Types.{at_row}
use Rattle.rules.specs.link_rules.Members.{type_home}
use Rattle.rules.specs.link_rules.Laws.{TellTokens, TellSignatures, TellMethods}
use Rattle.link_faults.specs.Supertypes.{all_bases, interface_flags, all_interfaces}
use Rattle.link_faults.specs.Values.{all_values, all_held}
use Rattle.link_faults.specs.declared.cycles.Graphs.{Graphs}
use Rattle.link_faults.specs.declared.cycles.GraphLevels.{GraphLevels}
use Rattle.link_faults.specs.Graphs.{AreLevels}

-- the links name the same types as the rules do
pub record Tells (all : List AsmRec) (links : List TypeLink) : Type 0 where
  pub tokens : TellTokens all links
  pub signatures : TellSignatures all links
  pub methods : TellMethods all links

-- the graphs of bases, of interfaces and of value types in fields
pub record AreGraphs (all : List AsmRec) (links : List TypeLink) (graphs : Graphs) : Type 0 where
  pub bases : graphs.bases.items ≡ all_bases all links
  pub interfaces : graphs.interfaces.items ≡ all_interfaces all links (interface_flags all)
  pub held : graphs.held.items ≡ all_held all links (all_values all links)

-- levels of the three graphs
pub record AreLeveled (graphs : Graphs) (levels : GraphLevels) : Type 0 where
  pub bases : AreLevels levels.bases.items graphs.bases.items
  pub interfaces : AreLevels levels.interfaces.items graphs.interfaces.items
  pub held : AreLevels levels.held.items graphs.held.items

-- there is a type in this row of this assembly
abbrev pub HasType : List AsmRec → ℕ → ℕ → Type 0
HasType all a k = type_home all (type_id all a k) ≡ Some (at_row a k)

-- an assembly of a world
abbrev pub HasAssembly : List AsmRec → ℕ → AsmRec → Type 0
HasAssembly all a rec = slice_get all a ≡ Some rec
