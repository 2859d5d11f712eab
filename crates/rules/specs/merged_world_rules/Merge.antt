-- A merge: the inputs, the kept items, and the record that is left of them (`rules/specs/merge_rules/Restricted`). Assemblies are counted
-- from 0; the core library is the last assembly of both worlds.
use Rattle.std.specs.Prelude.{◌≡◌, ◌<◌, ℕ, List, [], ◌∷◌, ◌++◌, length, Some, None, slice_get, Bool}
use Rattle.il_base.specs.declared.world_model.record.AsmRec.{AsmRec}
use Rattle.il_base.specs.world_model.Records.{IsRecord, rows_in}
use Rattle.il_base.specs.core_table.Record.{core_record}
use Rattle.rules.specs.declared.link_rules.core_type_name.CoreTypeName.{CoreTypeName}
use Rattle.rules.specs.link_rules.CoreNames.{missing_names}
use Rattle.rules.specs.link_rules.Linked.{assemblies, link_fault_of}
use Rattle.rules.specs.merge_rules.Numbers.{Kept}
use Rattle.rules.specs.merge_rules.Refs.{Output}
use Rattle.rules.specs.merge_rules.Restricted.{restricted, output_of}

pub record Merge : Type 0 where
  pub inputs : List AsmRec
  -- whether public types of later inputs become internal
  pub internal : Bool
  pub kept : Kept
  pub left : AsmRec

-- the assemblies of the inputs' world
abbrev pub before : Merge → List AsmRec
before m = assemblies m.inputs

-- the assemblies of the output's world
abbrev pub after : Merge → List AsmRec
after m = assemblies (m.left ∷ [])

-- what the output refers to
abbrev pub output : Merge → Output
output m = output_of (before m) m.kept

-- the names that only modifiers use (II.7.1.1), which stand after the core library's own types in either world
abbrev pub names_before : Merge → List CoreTypeName
names_before m = missing_names (m.inputs ++ core_record ∷ [])

abbrev pub names_after : Merge → List CoreTypeName
names_after m = missing_names (m.left ∷ core_record ∷ [])

-- each table has at most as many rows as the three bytes of a token can number (II.22)
abbrev pub HasFewRows : AsmRec → Type 0
HasFewRows rec = (t : ℕ) → rows_in rec t < 16777216

-- `m` is a merge: its inputs are records and link, there is at least one, and its output is what is left of them.
pub record IsMerge (m : Merge) : Type 0 where
  pub some : 0 < length m.inputs
  pub restricts : restricted m.internal (before m) m.kept ≡ Some m.left
  pub records : (a : ℕ) (rec : AsmRec) → slice_get m.inputs a ≡ Some rec → IsRecord rec
  pub links : link_fault_of m.inputs ≡ None
  pub few_inputs : (a : ℕ) (rec : AsmRec) → slice_get m.inputs a ≡ Some rec → HasFewRows rec
  pub few : HasFewRows m.left
