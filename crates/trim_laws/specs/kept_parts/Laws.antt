-- What parts of kept items name of the core library is in the world of a merge's output, also names that only modifiers use (II.7.1.1).
use Rattle.std.specs.Prelude.{List, Option}
use Rattle.descriptor_file.specs.declared.root.Root.{Root}
use Rattle.rules.specs.declared.link_rules.row_at.RowAt.{RowAt}
use Rattle.rules.specs.merged_world_rules.Merge.{Merge}
use Rattle.trim_laws.specs.marked_merge_rules.Merges.{IsMarkedMerge}
use Rattle.trim_laws.specs.marked_merge_rules.Reads.{CoreStays}
use Rattle.trim_laws.specs.flagged_marks.Laws.{PartsStay, CoreIsPlain}

-- a type of the core library that a part of a kept item names, of an interface row whose class is kept
abbrev pub PartsStayed : Type 0
PartsStayed = (m : Merge) (entry : Option RowAt) (roots : List Root) → IsMarkedMerge m entry roots → CoreStays m → PartsStay m

-- No part of an item of the core library names a type that only modifiers use.
abbrev pub CoreStaysPlain : Type 0
CoreStaysPlain = (m : Merge) → CoreIsPlain m
