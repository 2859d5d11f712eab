-- The flags by which the worlds of a merge are compared follow the rules of marking, where exactly what is marked is kept.
use Rattle.std.specs.Prelude.{◌≡◌, ◌<◌, ℕ, suc, List, length, Option, Some, Bool, true, false, IsTrue}
use Rattle.std.specs.List.{Contains}
use Rattle.il_base.specs.declared.ids.TypeId.{TypeId}
use Rattle.il_base.specs.declared.ids.Item.{Item}
use Rattle.il_base.specs.declared.ids.Item.TheVariants as item
use Rattle.descriptor_file.specs.declared.root.Root.{Root}
use Rattle.rules.specs.declared.link_rules.row_at.RowAt.{RowAt}
use Rattle.rules.specs.link_rules.Members.{type_home}
use Rattle.rules.specs.mark_rules.Facts.{Fact}
use Rattle.rules.specs.mark_rules.Facts.Fact.{marked}
use Rattle.rules.specs.mark_rules.Places.{row_of, type_item}
use Rattle.rules.specs.mark_rules.Calls.{row_class}
use Rattle.rules.specs.mark_rules.Naming.{of_parts}
use Rattle.rules.specs.mark_rules.Shown.{parts_of_item}
use Rattle.run_laws.specs.marked_laws.Flags.{is_added, HasMarks}
use Rattle.run_laws.specs.closed_laws.Laws.{OnlyMarks}
use Rattle.rules.specs.merged_world_rules.Merge.{Merge, before}
use Rattle.rules.specs.merged_world_rules.NewNumbers.{type_core}
use Rattle.trim_laws.specs.marked_merge_rules.Merges.{IsMarkedMerge, AreFacts, flags_of}

-- the type that a kept interface row is of is kept (II.22.23); nothing is asked of other items
abbrev pub HasKeptClass : Merge → Item → RowAt → Type 0
HasKeptClass m (item.Impl r) at = (c : RowAt) → row_class (before m) at ≡ Some c → m.kept (type_item (before m) c) ≡ true
HasKeptClass m _ at = Unit {0}

-- A type of the core library that a part of a kept item names is in the output's world, also a name that only modifiers use (II.7.1.1).
abbrev pub PartsStay : Merge → Type 0
PartsStay m =
    (i : Item) (at : RowAt) (t : TypeId) (core : RowAt) → IsTrue (m.kept i) → row_of (before m) i ≡ Some at → suc at.asm < length (before m) → HasKeptClass m i at → Contains (of_parts (parts_of_item (before m) i at)) (marked (item.Typ t))
    → type_home (before m) t ≡ Some core → suc core.asm ≡ length (before m) → (s : ℕ) × ((type_core m).to core.row ≡ Some s)

-- no part of an item of the core library names one that only modifiers use
abbrev pub CoreIsPlain : Merge → Type 0
CoreIsPlain m =
    (i : Item) (at : RowAt) (f : Fact) → row_of (before m) i ≡ Some at → suc at.asm ≡ length (before m) → Contains (of_parts (parts_of_item (before m) i at)) f → is_added (before m) f ≡ false

abbrev pub FlagsFollow : Type 0
FlagsFollow =
    (m : Merge) (entry : Option RowAt) (roots : List Root) (holds : Fact → Bool) → IsMarkedMerge m entry roots → AreFacts m entry roots holds → PartsStay m → CoreIsPlain m
    → HasMarks (before m) entry roots (flags_of m holds) × OnlyMarks (before m) entry roots (flags_of m holds)
