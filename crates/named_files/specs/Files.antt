-- What reading the files under some names does to a folder. No file is read after a read that failed.
use Rattle.std.specs.Prelude.{◌≡◌, ℕ, List, [], ◌∷◌, ◌++◌, Option, Some, None, Result, Ok, Err}
use Rattle.il_outside.specs.Faults.{Rose}
use Rattle.il_outside.specs.declared.folder.FolderError.{FolderError}
use Rattle.il_outside.specs.declared.folder.FolderError.TheVariants.{Failed, NoMemory}
use Rattle.il_outside.specs.Folder.{Files, FolderState, Tells, NoFault}

-- these files are told under these names, one by one
abbrev pub TellsAll : Option Files → List (List ℕ) → List (List ℕ) → Type 0
TellsAll known [] [] = Unit {0}
TellsAll known (name ∷ names) (file ∷ files) = Tells known name file × TellsAll known names files
TellsAll known names files = ⊥

-- One read failed in this call, that of one of the names, and no write. The files before it were read, and none after it.
pub record FailsAt (names : List (List ℕ)) (was now : FolderState) : Type 0 where
  pub before : List (List ℕ)
  pub name : List ℕ
  pub after : List (List ℕ)
  pub parts : names ≡ before ++ (name ∷ after)
  pub files : List (List ℕ)
  pub told : TellsAll was.files before files
  pub rose : Rose was.read_faults now.read_faults
  pub failed : now.failed ≡ Some name
  pub writes : now.write_faults ≡ was.write_faults

-- what the reads of all names give
abbrev pub ReadsFiles : List (List ℕ) → FolderState → FolderState → Result (List (List ℕ)) FolderError → Type 0
ReadsFiles names was now (Ok files) = TellsAll was.files names files × NoFault was now
ReadsFiles names was now (Err Failed) = FailsAt names was now
ReadsFiles names was now (Err NoMemory) = NoFault was now

-- ---- what a folder that tells all that it holds has under names

abbrev pub with_file : Option (List ℕ) → Option (List (List ℕ)) → Option (List (List ℕ))
with_file (Some file) (Some files) = Some (file ∷ files)
with_file file files = None

-- the files under names, None where one of them isn't there
abbrev pub files_under : Files → List (List ℕ) → Option (List (List ℕ))
files_under f [] = Some []
files_under f (name ∷ names) = with_file (f name) (files_under f names)
