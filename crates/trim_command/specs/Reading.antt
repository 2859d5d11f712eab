-- What reading the files and the descriptors of a trim does to a folder.
use Rattle.std.specs.Prelude.{ℕ, List, ◌++◌, Result, Ok, Err}
use Rattle.il_outside.specs.declared.folder.FolderError.{FolderError}
use Rattle.il_outside.specs.declared.folder.FolderError.TheVariants.{Failed, NoMemory}
use Rattle.il_outside.specs.Folder.{FolderState, NoFault}
use Rattle.named_files.specs.Files.{TellsAll, FailsAt}
use Rattle.trim_command.specs.declared.reading.Given.{Given}

-- what the reads of all names give: first those of the files, then those of the descriptors
abbrev pub ReadsGiven : List (List ℕ) → List (List ℕ) → FolderState → FolderState → Result Given FolderError → Type 0
ReadsGiven inputs descriptors was now (Ok given) = TellsAll was.files inputs given.files × TellsAll was.files descriptors given.descriptors × NoFault was now
ReadsGiven inputs descriptors was now (Err Failed) = FailsAt (inputs ++ descriptors) was now
ReadsGiven inputs descriptors was now (Err NoMemory) = NoFault was now
