-- What a merge leaves of inputs that link links alone (II.22).
use Rattle.std.specs.Prelude.{◌≡◌, List, [], ◌∷◌, Option, None, Bool}
use Rattle.descriptor_file.specs.declared.root.Root.{Root}
use Rattle.rules.specs.declared.link_rules.row_at.RowAt.{RowAt}
use Rattle.rules.specs.link_rules.Linked.{link_fault_of}
use Rattle.rules.specs.change_rules.Change.{Keep}
use Rattle.rules.specs.merged_world_rules.Merge.{Merge, IsMerge}
use Rattle.rules.specs.merged_world_rules.Kept.{HasFlags}
use Rattle.merge_laws.specs.merged_rows_move.Premises.{ReadsTokens, HasGoodBases, HasGoodInterfaces, ReadsSignatures}
use Rattle.trim_laws.specs.marked_merge_rules.Merges.{IsMarkedMerge}
use Rattle.trim_laws.specs.marked_merge_rules.Reads.{AllThere}
use Rattle.trim_laws.specs.merged_back.Premises.{ReadsFieldSignatures, KeepsEnclosers}

-- Tokens and signatures of kept rows name in the output what they named, moved; bases and interfaces have a reading.
pub record Reads (m : Merge) (k : Keep) : Type 0 where
  pub tokens : ReadsTokens m
  pub bases : HasGoodBases m
  pub interfaces : HasGoodInterfaces m k
  pub methods : ReadsSignatures m
  pub fields : ReadsFieldSignatures m

-- no type is on a cycle, and no two types or members are the same, also where types were renamed
abbrev pub LeftLinks : Type 0
LeftLinks = (m : Merge) (k : Keep) (kept : RowAt → Bool) → IsMerge m → HasFlags m k kept → Reads m k → KeepsEnclosers m → link_fault_of (m.left ∷ []) ≡ None

-- Where exactly what is marked is kept, and all that the output refers to is there, signatures of fields name what they named, moved.
abbrev pub FieldsRead : Type 0
FieldsRead = (m : Merge) (entry : Option RowAt) (roots : List Root) → IsMarkedMerge m entry roots → AllThere m → ReadsFieldSignatures m

-- where exactly what is marked is kept
abbrev pub EnclosersStay : Type 0
EnclosersStay = (m : Merge) (entry : Option RowAt) (roots : List Root) → IsMarkedMerge m entry roots → KeepsEnclosers m

abbrev pub MarkedLinks : Type 0
MarkedLinks = (m : Merge) (entry : Option RowAt) (roots : List Root) (k : Keep) (kept : RowAt → Bool) → IsMarkedMerge m entry roots → HasFlags m k kept → Reads m k → link_fault_of (m.left ∷ []) ≡ None
