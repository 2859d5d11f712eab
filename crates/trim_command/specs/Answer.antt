-- When each answer of `trim` comes, and what it leaves. A call of the folder that fails is never hidden: the first one that fails is the
-- last of its kind, a read failed only where ReadFault was due, and a write only where WriteFault was.
use Rattle.std.specs.Prelude.{◌≡◌, ◌⊎◌, ◌-◌, ℕ, Bool, List, [], ◌++◌, length, Option, Result, Ok, Err, slice_get, unwrap_or, is_some, nat_lt, if◌then◌else◌}
use Rattle.il_outside.specs.declared.folder.FolderError.{FolderError}
use Rattle.il_outside.specs.declared.folder.FolderError.TheVariants as folder
use Rattle.il_outside.specs.Folder.{FolderState, KeepsFiles, NoFault}
use Rattle.il_outside.specs.Streams.{SinkState}
use Rattle.run_rules.specs.Answers.{name_at}
use Rattle.status_lines.specs.declared.status.Status.{Status}
use Rattle.status_lines.specs.declared.status.Status.TheVariants.{Done, BadFile, Outside, Unresolved, NotYet, Collision, BadDescriptor, Limit, NoEntry, ReadFault, WriteFault, NoMemory}
use Rattle.status_lines.specs.Lines.{line_of}
use Rattle.status_lines.specs.Reports.{Prints, Reports}
use Rattle.named_files.specs.Files.{TellsAll, FailsAt}
use Rattle.trim_core.specs.declared.answers.Opts.{Opts}
use Rattle.trim_core.specs.declared.answers.Refusal.{Refusal}
use Rattle.trim_core.specs.declared.answers.Refusal.TheVariants as refusal
use Rattle.trim_core.specs.declared.answers.Trimmed.{Trimmed}
use Rattle.trim_core.specs.Trim.{Trims}
use Rattle.trim_core.specs.Colliding.{collision_text}
use Rattle.trim_command.specs.Writing.{Leaves}

-- ---- statuses and their lines

-- a refusal as a status
abbrev pub refused : Refusal → Status
refused (refusal.BadFile file at) = BadFile file at
refused (refusal.Outside place what) = Outside place what
refused (refusal.Unresolved place) = Unresolved place
refused (refusal.NotYet file) = NotYet file
refused (refusal.Collision first second) = Collision first second
refused (refusal.BadDescriptor source offset) = BadDescriptor source offset
refused (refusal.Limit which found) = Limit which found
refused (refusal.NoEntry token) = NoEntry token
refused refusal.NoMemory = NoMemory

-- what the writes answered, as a status
abbrev pub write_status : Result Unit FolderError → Status
write_status (Ok x) = Done
write_status (Err folder.Failed) = WriteFault
write_status (Err folder.NoMemory) = NoMemory

-- the name of the assembly that a status has a place in, of those that the files are
abbrev pub assembly_in : List (List ℕ) → Status → List ℕ
assembly_in files (Outside place what) = unwrap_or (name_at files place.asm) []
assembly_in files (Unresolved place) = unwrap_or (name_at files place.asm) []
assembly_in files _ = []

abbrev pub name_in : List (List ℕ) → ℕ → List ℕ
name_in names number = unwrap_or (slice_get names number) []

-- the word of what has a descriptor: the inputs come first, and then the descriptors that were named
abbrev pub source_in : List (List ℕ) → List (List ℕ) → ℕ → List ℕ
source_in inputs descriptors source =
    if nat_lt source (length inputs) then name_in inputs source else name_in descriptors (source - length inputs)

-- what the line of a status names besides: the word of a file or of a descriptor, or the two types of a collision
abbrev pub named_in : List (List ℕ) → List (List ℕ) → List (List ℕ) → Status → List ℕ
named_in inputs descriptors files (BadFile file at) = name_in inputs file
named_in inputs descriptors files (NotYet file) = name_in inputs file
named_in inputs descriptors files (BadDescriptor source offset) = source_in inputs descriptors source
named_in inputs descriptors files (Collision first second) = collision_text files first second
named_in inputs descriptors files _ = []

-- the line of a status of the files that were read under these names
abbrev pub line_for : List (List ℕ) → List (List ℕ) → List (List ℕ) → Status → List ℕ
line_for inputs descriptors files status = line_of (assembly_in files status) (named_in inputs descriptors files status) status

-- it, or want of memory on the way to it
abbrev pub StatusReported : List (List ℕ) → List (List ℕ) → List (List ℕ) → Status → SinkState → SinkState → Status → Type 0
StatusReported inputs descriptors files status old new answer =
    Reports (line_for inputs descriptors files status) status old new answer ⊎ Reports (line_of [] [] NoMemory) NoMemory old new answer

-- ---- files and descriptors, once they are read

-- what a trim is asked for
abbrev pub opts_of : Bool → Option (List ℕ) → Opts
opts_of internalize list = record { internalize = internalize; keep_list = is_some list }

-- Which status is due for what a trim answered, with what the folder then holds. What was left is written. After a refusal, or where memory ran
-- out before, the folder is as it was, and no call of it failed.
abbrev pub IsDue : Result Trimmed Refusal → List ℕ → Option (List ℕ) → FolderState → FolderState → Status → Type 0
IsDue (Ok left) output list was now due = (r : Result Unit FolderError) × Leaves left output list was now r × (due ≡ write_status r)
IsDue (Err why) output list was now due = ((due ≡ refused why) ⊎ (due ≡ NoMemory)) × KeepsFiles was.files now.files × NoFault was now

-- the status that was due for what a trim answered, and its line
pub record Finished (trimmed : Result Trimmed Refusal) (inputs descriptors files : List (List ℕ)) (output : List ℕ) (list : Option (List ℕ)) (was now : FolderState) (err0 err1 : SinkState) (answer : Status) : Type 0 where
  pub due : Status
  pub cause : IsDue trimmed output list was now due
  pub reported : Reports (line_for inputs descriptors files due) due err0 err1 answer

-- what a trim of these files and descriptors answers, and the status for it
pub record GivenTrimmed (inputs descriptors files texts : List (List ℕ)) (output : List ℕ) (list : Option (List ℕ)) (opts : Opts) (was now : FolderState) (err0 err1 : SinkState) (answer : Status) : Type 0 where
  pub trimmed : Result Trimmed Refusal
  pub trims : Trims files texts opts trimmed
  pub finished : Finished trimmed inputs descriptors files output list was now err0 err1 answer

-- ---- names in a folder

-- the files and the descriptors that were read under their names, and the answer for them
pub record FilesTrimmed (inputs descriptors : List (List ℕ)) (output : List ℕ) (list : Option (List ℕ)) (opts : Opts) (was now : FolderState) (out0 out1 err0 err1 : SinkState) (answer : Status) : Type 0 where
  pub files : List (List ℕ)
  pub texts : List (List ℕ)
  pub told : TellsAll was.files inputs files
  pub described : TellsAll was.files descriptors texts
  pub printed : Prints [] out0 out1
  pub given : GivenTrimmed inputs descriptors files texts output list opts was now err0 err1 answer

-- a read of one of the names failed, of which the descriptors come last: nothing is written but the status line
pub record ReadFailed (inputs descriptors : List (List ℕ)) (was now : FolderState) (out0 out1 err0 err1 : SinkState) (answer : Status) : Type 0 where
  pub failed : FailsAt (inputs ++ descriptors) was now
  pub kept : KeepsFiles was.files now.files
  pub printed : Prints [] out0 out1
  pub reported : Reports (line_of [] [] ReadFault) ReadFault err0 err1 answer

-- memory ran out at the reads, none of which failed: nothing is written but the status line
pub record ReadStarved (was now : FolderState) (out0 out1 err0 err1 : SinkState) (answer : Status) : Type 0 where
  pub quiet : NoFault was now
  pub kept : KeepsFiles was.files now.files
  pub printed : Prints [] out0 out1
  pub reported : Reports (line_of [] [] NoMemory) NoMemory err0 err1 answer

-- the answer for names
abbrev pub TrimCaused : List (List ℕ) → List (List ℕ) → List ℕ → Option (List ℕ) → Bool → FolderState → FolderState → SinkState → SinkState → SinkState → SinkState → Status → Type 0
TrimCaused inputs descriptors output list internalize was now out0 out1 err0 err1 answer =
    FilesTrimmed inputs descriptors output list (opts_of internalize list) was now out0 out1 err0 err1 answer
    ⊎ (ReadFailed inputs descriptors was now out0 out1 err0 err1 answer
    ⊎ ReadStarved was now out0 out1 err0 err1 answer)
