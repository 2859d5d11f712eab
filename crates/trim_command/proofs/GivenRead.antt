-- The reads of the files and those of the descriptors after them.
use Rattle.std.proofs.Common.{ℕ, List, [], ◌∷◌, ◌++◌, Option, Ok, Err, sym, ap, subst, ◌∙◌}
use Rattle.std.proofs.lemmas.List.{append_assoc}
use Rattle.il_outside.specs.Faults.{Rose}
use Rattle.il_outside.specs.declared.folder.FolderError.{FolderError}
use Rattle.il_outside.specs.declared.folder.FolderError.TheVariants.{Failed, NoMemory}
use Rattle.il_outside.specs.Folder.{Files, FolderState, KeepsFiles, NoFault}
use Rattle.named_files.specs.Files.{TellsAll, ReadsFiles}
use Rattle.named_files.proofs.Folders.{quiet_twice, told_before}
use Rattle.trim_command.specs.Reading.{ReadsGiven}

all_told_before : (a b : Option Files) (names files : List (List ℕ)) → KeepsFiles a b → TellsAll b names files → TellsAll a names files
all_told_before a b [] [] kept told = tt
all_told_before a b [] (f ∷ fs) kept told = absurd told
all_told_before a b (n ∷ ns) [] kept told = absurd told
all_told_before a b (n ∷ ns) (f ∷ fs) kept told = (told_before a b n f kept told.0, all_told_before a b ns fs kept told.1)

told_both : (known : Option Files) (names files more_names more_files : List (List ℕ)) → TellsAll known names files → TellsAll known more_names more_files
    → TellsAll known (names ++ more_names) (files ++ more_files)
told_both known [] [] more_names more_files told more = more
told_both known [] (f ∷ fs) more_names more_files told more = absurd told
told_both known (n ∷ ns) [] more_names more_files told more = absurd told
told_both known (n ∷ ns) (f ∷ fs) more_names more_files told more = (told.0, told_both known ns fs more_names more_files told.1 more)

-- a read of a file failed
pub files_unread : (inputs descriptors : List (List ℕ)) (was now : FolderState) (e : FolderError) → ReadsFiles inputs was now (Err e) → ReadsGiven inputs descriptors was now (Err e)
files_unread inputs descriptors was now Failed h = record {
  before = h.before;
  name = h.name;
  after = h.after ++ descriptors;
  parts = ap (λ (names : List (List ℕ)). names ++ descriptors) h.parts ∙ append_assoc h.before (h.name ∷ h.after) descriptors;
  files = h.files;
  told = h.told;
  rose = h.rose;
  failed = h.failed;
  writes = h.writes;
}
files_unread inputs descriptors was now NoMemory h = h

-- the files were read, and a read of a descriptor failed
pub descriptors_unread : (inputs descriptors files : List (List ℕ)) (was mid now : FolderState) (e : FolderError) → ReadsFiles inputs was mid (Ok files) → KeepsFiles was.files mid.files
    → ReadsFiles descriptors mid now (Err e) → ReadsGiven inputs descriptors was now (Err e)
descriptors_unread inputs descriptors files was mid now Failed first kept h = record {
  before = inputs ++ h.before;
  name = h.name;
  after = h.after;
  parts = ap (λ (names : List (List ℕ)). inputs ++ names) h.parts ∙ sym (append_assoc inputs h.before (h.name ∷ h.after));
  files = files ++ h.files;
  told = told_both was.files inputs files h.before h.files first.0 (all_told_before was.files mid.files h.before h.files kept h.told);
  rose = subst (λ (n : ℕ). Rose n now.read_faults) first.1.0 h.rose;
  failed = h.failed;
  writes = h.writes ∙ first.1.1;
}
descriptors_unread inputs descriptors files was mid now NoMemory first kept h = quiet_twice was mid now first.1 h

-- all were read
pub given_read : (inputs descriptors files texts : List (List ℕ)) (was mid now : FolderState) → ReadsFiles inputs was mid (Ok files) → KeepsFiles was.files mid.files → ReadsFiles descriptors mid now (Ok texts)
    → TellsAll was.files inputs files × TellsAll was.files descriptors texts × NoFault was now
given_read inputs descriptors files texts was mid now first kept h =
    (first.0, all_told_before was.files mid.files descriptors texts kept h.0, quiet_twice was mid now first.1 h.1)
