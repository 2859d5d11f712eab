-- What the output of a merge refers to is there, and its tokens and signatures name what those of the inputs named, moved.
use Rattle.std.specs.Prelude.{List, Option}
use Rattle.descriptor_file.specs.declared.root.Root.{Root}
use Rattle.rules.specs.declared.link_rules.row_at.RowAt.{RowAt}
use Rattle.rules.specs.merged_world_rules.Merge.{Merge, IsMerge}
use Rattle.merge_laws.specs.merged_rows_move.Premises.{ReadsTokens, ReadsSignatures}
use Rattle.trim_laws.specs.marked_merge_rules.Merges.{IsMarkedMerge}
use Rattle.trim_laws.specs.marked_merge_rules.Reads.{KeepsAllMet, CoreStays, AllThere}

-- A type of the core library that the output refers to is in the output's world, also a name that only modifiers use (II.7.1.1).
abbrev pub NamesStay : Type 0
NamesStay = (m : Merge) → IsMerge m → CoreStays m

-- So each type in what is met that is a row of the world has a token that names it, where what is met of inputs is kept.
abbrev pub MetThere : Type 0
MetThere = (m : Merge) → IsMerge m → KeepsAllMet m → AllThere m

-- Then a token names the type that it named, moved.
abbrev pub TokensRead : Type 0
TokensRead = (m : Merge) → IsMerge m → AllThere m → ReadsTokens m

-- So do the signatures of kept methods, where no marked item has a flaw.
abbrev pub SignaturesRead : Type 0
SignaturesRead = (m : Merge) (entry : Option RowAt) (roots : List Root) → IsMarkedMerge m entry roots → AllThere m → ReadsSignatures m
