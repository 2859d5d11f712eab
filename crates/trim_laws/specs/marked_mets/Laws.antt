-- What the output of a merge meets, of a merge that keeps exactly what is marked: each type and each member of an input is kept.
use Rattle.std.specs.Prelude.{List, Option, Contains, ◌||◌, IsTrue}
use Rattle.il_base.specs.declared.ids.Item.{Item}
use Rattle.descriptor_file.specs.declared.root.Root.{Root}
use Rattle.rules.specs.declared.link_rules.row_at.RowAt.{RowAt}
use Rattle.rules.specs.mark_rules.Places.{is_core}
use Rattle.rules.specs.merge_rules.Order.{Met, met_by_types}
use Rattle.rules.specs.merged_world_rules.Merge.{Merge, before}
use Rattle.merge_laws.specs.merged_references.Written.{KeepsMet}
use Rattle.trim_laws.specs.marked_merge_rules.Merges.{IsMarkedMerge}
use Rattle.trim_laws.specs.marked_merge_rules.Reads.{KeepsAllMet, members_met, KeepsMembers}

-- a property holds of each merge that keeps exactly the marked items
abbrev pub OfMarked : (Merge → Type 0) → Type 0
OfMarked P = (m : Merge) (entry : Option RowAt) (roots : List Root) → IsMarkedMerge m entry roots → P m

-- ---- what kept types meet: all but the constructors of attributes

abbrev pub KeepsOfTypes : Merge → Type 0
KeepsOfTypes m =
    (x : Met) → Contains (met_by_types (before m) m.kept) x → KeepsMet m x × ((i : Item) → Contains (members_met x) i → IsTrue (m.kept i || is_core (before m) i))

abbrev pub MetsOfTypesAreKept : Type 0
MetsOfTypesAreKept = OfMarked KeepsOfTypes

-- ---- all that is met

abbrev pub MetsAreKept : Type 0
MetsAreKept = OfMarked KeepsAllMet

abbrev pub MembersAreKept : Type 0
MembersAreKept = OfMarked KeepsMembers
