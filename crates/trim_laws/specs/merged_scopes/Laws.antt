-- What the output of a merge refers to stands in what is left (II.22.38, II.22.25), where exactly what is marked is kept.
use Rattle.std.specs.Prelude.{◌≡◌, ◌≤◌, ℕ, List, Option, Some, None, Contains}
use Rattle.il_base.specs.declared.ids.TypeId.{TypeId}
use Rattle.descriptor_file.specs.declared.root.Root.{Root}
use Rattle.rules.specs.declared.link_rules.row_at.RowAt.{RowAt}
use Rattle.il_base.specs.declared.world_model.record.AsmRec.{AsmRec}
use Rattle.rules.specs.link_rules.Linked.{assemblies}
use Rattle.rules.specs.link_rules.Members.{type_home}
use Rattle.rules.specs.mark_rules.Marking.{Marks}
use Rattle.rules.specs.mark_rules.BadItems.{IsFirstFlaw}
use Rattle.rules.specs.merge_rules.Numbers.{Kept}
use Rattle.rules.specs.merge_rules.Restricted.{output_of}
use Rattle.rules.specs.merge_rules.Order.{Met, met_by_types}
use Rattle.rules.specs.merge_rules.Refs.{types_of_met}
use Rattle.merge_laws.specs.merged_record.Laws.{InputsAreRecords, ReferencesStand}
use Rattle.merge_laws.specs.merged_owners.Laws.{AreMarked}
use Rattle.rules.specs.merged_world_rules.Merge.{Merge, before, output}
use Rattle.trim_laws.specs.marked_merge_rules.Merges.{IsMarkedMerge}
use Rattle.trim_laws.specs.merged_scopes.Numbers.{numbers_of_met}

-- What kept types and their members meet names types of the world: references that name nothing come from attributes alone.
abbrev pub MetTypesThere : Type 0
MetTypesThere =
    (m : Merge) (entry : Option RowAt) (roots : List Root) → IsMarkedMerge m entry roots → (x : Met) (t : TypeId) → Contains (met_by_types (before m) m.kept) x
    → Contains (types_of_met (before m) x) t → (at : RowAt) × (type_home (before m) t ≡ Some at)

-- Each number of a type in what the output refers to names one, where what is kept is marked, and no marked item has a flaw: none is 0.
abbrev pub MetNumbersThere : Type 0
MetNumbersThere =
    (inputs : List AsmRec) (kept : Kept) (entry : Option RowAt) (roots : List Root) → InputsAreRecords (assemblies inputs) → AreMarked (assemblies inputs) entry roots kept
    → IsFirstFlaw (assemblies inputs) entry (Marks (assemblies inputs) entry roots) None → (x : Met) (n : ℕ) → Contains (output_of (assemblies inputs) kept).mets x → Contains (numbers_of_met (assemblies inputs) x) n → 1 ≤ n

-- Each type and member that the output refers to has its row, and the scope of a type's row is a type with such a row, an assembly, or
-- the module.
abbrev pub MarkedReferencesStand : Type 0
MarkedReferencesStand = (m : Merge) (entry : Option RowAt) (roots : List Root) → IsMarkedMerge m entry roots → ReferencesStand (output m) m.left
