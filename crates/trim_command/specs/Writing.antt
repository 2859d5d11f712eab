-- What a trim leaves under the names that it writes: OUT, and then the keep list. No write follows one that failed.
use Rattle.std.specs.Prelude.{◌≡◌, ◌≢◌, ◌⊎◌, ℕ, List, [], ◌∷◌, Option, Some, None, Result, Ok, Err, ⊤}
use Rattle.il_outside.specs.Faults.{Rose}
use Rattle.il_outside.specs.declared.folder.FolderError.{FolderError}
use Rattle.il_outside.specs.declared.folder.FolderError.TheVariants.{Failed, NoMemory}
use Rattle.il_outside.specs.Folder.{Files, FolderState, SameOthers, LeavesPrefix, KeepsFiles, WritesFile, NoFault, WriteFaults}
use Rattle.trim_core.specs.declared.answers.Trimmed.{Trimmed}

-- a fact on what a folder held and holds, where it told what it held
abbrev pub WhereTold : (Files → Files → Type 0) → Option Files → Option Files → Type 0
WhereTold P None new = ⊤
WhereTold P (Some f) None = ⊥
WhereTold P (Some f) (Some g) = P f g

-- ---- the names

-- the keep list, where one is wanted, has another name than OUT
abbrev pub IsApart : List ℕ → Option (List ℕ) → Type 0
IsApart output None = Unit {0}
IsApart output (Some name) = name ≢ output

-- the names that are written
abbrev pub written_names : List ℕ → Option (List ℕ) → List (List ℕ)
written_names output None = output ∷ []
written_names output (Some name) = output ∷ name ∷ []

-- it is none of these names
abbrev pub Differs : List ℕ → List (List ℕ) → Type 0
Differs other [] = Unit {0}
Differs other (name ∷ names) = (other ≢ name) × Differs other names

-- what is told under other names stays
abbrev pub SameBut : List (List ℕ) → Files → Files → Type 0
SameBut names f g = (other : List ℕ) → Differs other names → g other ≡ f other

abbrev pub KeepsOthers : List (List ℕ) → Option Files → Option Files → Type 0
KeepsOthers names old new = WhereTold (SameBut names) old new

-- ---- the writes

-- the keep list stands under its name, where one is wanted
abbrev pub ListStands : Files → Option (List ℕ) → List ℕ → Type 0
ListStands g None kept = Unit {0}
ListStands g (Some name) kept = g name ≡ Some kept

-- OUT has what was left, and the keep list stands
abbrev pub BothStand : Trimmed → List ℕ → Option (List ℕ) → Files → Files → Type 0
BothStand left output list f g = (g output ≡ Some left.bytes) × ListStands g list left.kept

-- OUT has what was left, and all else is as it was
abbrev pub OutputStands : Trimmed → List ℕ → Files → Files → Type 0
OutputStands left output f g = (g output ≡ Some left.bytes) × SameOthers f g output

-- OUT has what was left, and under the name of the keep list is what was there, or a prefix of it
abbrev pub ListIsPrefix : Trimmed → List ℕ → List ℕ → Files → Files → Type 0
ListIsPrefix left output name f g = (g output ≡ Some left.bytes) × LeavesPrefix f g name left.kept

-- One write failed in this call, that of OUT, and no read: OUT is as it was, or holds a prefix of what was left, and all else is as it
-- was.
pub record OutputFailed (left : Trimmed) (output : List ℕ) (was now : FolderState) : Type 0 where
  pub written : WritesFile was.files now.files output left.bytes (Err Failed)
  pub rose : Rose was.write_faults now.write_faults
  pub failed : now.failed ≡ Some output
  pub reads : now.read_faults ≡ was.read_faults

-- one write failed in this call, that of the keep list, and no read: OUT stands whole
pub record ListFailed (left : Trimmed) (output : List ℕ) (list : Option (List ℕ)) (was now : FolderState) : Type 0 where
  pub name : List ℕ
  pub named : list ≡ Some name
  pub written : WhereTold (ListIsPrefix left output name) was.files now.files
  pub rose : Rose was.write_faults now.write_faults
  pub failed : now.failed ≡ Some name
  pub reads : now.read_faults ≡ was.read_faults

-- What the writes leave: both names whole; or one write failed; or memory ran out, and the folder is as it was, or OUT stands whole.
abbrev pub Leaves : Trimmed → List ℕ → Option (List ℕ) → FolderState → FolderState → Result Unit FolderError → Type 0
Leaves left output list was now (Ok x) = WhereTold (BothStand left output list) was.files now.files × NoFault was now
Leaves left output list was now (Err Failed) = OutputFailed left output was now ⊎ ListFailed left output list was now
Leaves left output list was now (Err NoMemory) = (KeepsFiles was.files now.files ⊎ WhereTold (OutputStands left output) was.files now.files) × NoFault was now

-- the write of the keep list alone
abbrev pub ListWrites : Option (List ℕ) → List ℕ → FolderState → FolderState → Result Unit FolderError → Type 0
ListWrites None kept was now (Ok x) = now ≡ was
ListWrites None kept was now (Err e) = ⊥
ListWrites (Some name) kept was now r = WritesFile was.files now.files name kept r × WriteFaults was now name r
