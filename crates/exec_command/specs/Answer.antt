-- When each answer of `exec` comes, and what it leaves. A call of the outside that fails is never hidden: the first one that fails
-- is the last of its kind, a read failed only where ReadFault was due, and a write to `out` only where WriteFault was.
use Rattle.std.specs.Prelude.{◌≡◌, ◌⊎◌, ◌≤◌, ◌+◌, ℕ, List, [], Some, None, length, slice_get, unwrap_or}
use Rattle.std.specs.Io.KnownBytes.{Appends}
use Rattle.il_base.specs.declared.limit.TheConstants.{INPUT_LENGTH}
use Rattle.il_outside.specs.Faults.{Rose}
use Rattle.il_outside.specs.Folder.{FolderState, NoFault}
use Rattle.il_outside.specs.Streams.{SourceState, SinkState, AppendsPrefix}
use Rattle.inputs.specs.declared.error.InputError.{InputError}
use Rattle.inputs.specs.declared.error.InputError.TheVariants as refusal
use Rattle.inputs.specs.Files.{input_fault}
use Rattle.run_rules.specs.declared.answers.EndKind.{EndKind}
use Rattle.run_rules.specs.declared.answers.EndKind.TheVariants as run_end
use Rattle.run_rules.specs.Answers.{name_at}
use Rattle.run_rules.specs.Runs.{run_of_files}
use Rattle.status_lines.specs.declared.status.Status.{Status}
use Rattle.status_lines.specs.declared.status.Status.TheVariants.{Ended, BadWords, BadFile, NoEntry, Limit, ReadFault, WriteFault, NoMemory, Threw, Spent, Stopped, Stuck}
use Rattle.status_lines.specs.Lines.{line_of}
use Rattle.status_lines.specs.Reports.{Prints, Reports}
use Rattle.named_files.specs.Files.{TellsAll, FailsAt}
use Rattle.exec_command.specs.declared.input.TheConstants.{MOST_BYTES}
use Rattle.exec_command.specs.Words.{capped}
use Rattle.exec_command.specs.Input.{ReadsAll, TakesSome, TakesTooMany}

-- ---- statuses and their lines

-- how a run stands, as a status
abbrev pub status_of : ℕ → EndKind → Status
status_of steps (run_end.Ended code) = Ended code
status_of steps (run_end.Threw kind message) = Threw kind message
status_of steps run_end.Spent = Spent steps
status_of steps (run_end.Stopped place) = Stopped place
status_of steps (run_end.Stuck place) = Stuck place

-- a refusal as a status
abbrev pub refused : InputError → Status
refused (refusal.BadFile file at) = BadFile file at
refused (refusal.Limit which found) = Limit which found
refused (refusal.NoEntry token) = NoEntry token
refused refusal.NoMemory = NoMemory

-- the answer to an input that is too long
abbrev pub too_long : Status
too_long = Limit INPUT_LENGTH (MOST_BYTES + 1)

-- the name of the assembly that a status has a place in, of those that the files are
abbrev pub assembly_in : List (List ℕ) → Status → List ℕ
assembly_in files (Stopped place) = unwrap_or (name_at files place.asm) []
assembly_in files (Stuck place) = unwrap_or (name_at files place.asm) []
assembly_in files _ = []

-- the name of the file that a status speaks of
abbrev pub file_in : List (List ℕ) → Status → List ℕ
file_in names (BadFile file at) = unwrap_or (slice_get names file) []
file_in names _ = []

-- the line of a status of the files that were read under these names
abbrev pub line_for : List (List ℕ) → List (List ℕ) → Status → List ℕ
line_for names files status = line_of (assembly_in files status) (file_in names status) status

-- ---- files and the input, once they are read

-- the run of the files printed its whole output, and stands so
pub record Ran (files : List (List ℕ)) (input : List ℕ) (steps : ℕ) (out0 out1 : SinkState) (due : Status) : Type 0 where
  pub sound : input_fault files ≡ None
  pub answer : due ≡ status_of steps (run_of_files files input steps).end
  pub printed : Prints (run_of_files files input steps).output out0 out1

-- the files can't be taken, and nothing was printed
pub record Refused (files : List (List ℕ)) (out0 out1 : SinkState) (due : Status) : Type 0 where
  pub why : InputError
  pub fault : input_fault files ≡ Some why
  pub answer : due ≡ refused why
  pub printed : Prints [] out0 out1

-- a prefix of what the files' run prints
abbrev pub PrintsPrefix : List (List ℕ) → List ℕ → ℕ → SinkState → SinkState → Type 0
PrintsPrefix files input steps out0 out1 =
    Appends out0.held out1.held [] ⊎ ((input_fault files ≡ None) × AppendsPrefix out0.held out1.held (run_of_files files input steps).output)

-- Which status is due for the bytes of files and of the input, with what was printed: the run's, the refusal's, WriteFault where one
-- write to `out` failed, or NoMemory. But for WriteFault none failed.
abbrev pub IsDue : List (List ℕ) → List ℕ → ℕ → SinkState → SinkState → Status → Type 0
IsDue files input steps out0 out1 due =
    Ran files input steps out0 out1 due
    ⊎ (Refused files out0 out1 due
    ⊎ (((due ≡ WriteFault) × PrintsPrefix files input steps out0 out1 × Rose out0.faults out1.faults)
    ⊎ ((due ≡ NoMemory) × PrintsPrefix files input steps out0 out1 × (out1.faults ≡ out0.faults))))

-- the status that was due, and its line
pub record RunCaused (names files : List (List ℕ)) (input : List ℕ) (steps : ℕ) (out0 out1 err0 err1 : SinkState) (answer : Status) : Type 0 where
  pub due : Status
  pub cause : IsDue files input steps out0 out1 due
  pub reported : Reports (line_for names files due) due err0 err1 answer

-- ---- files that were read, and the source of the input

-- the input was read to its end, and the answer is that for its bytes
pub record InputRead (names files : List (List ℕ)) (steps : ℕ) (in0 in1 : SourceState) (out0 out1 err0 err1 : SinkState) (answer : Status) : Type 0 where
  pub input : List ℕ
  pub read : ReadsAll input in0 in1
  pub short : length input ≤ MOST_BYTES
  pub caused : RunCaused names files input steps out0 out1 err0 err1 answer

-- a read of the input failed: nothing is printed but the status line
pub record InputFailed (in0 in1 : SourceState) (out0 out1 err0 err1 : SinkState) (answer : Status) : Type 0 where
  pub taken : TakesSome in0 in1
  pub rose : Rose in0.faults in1.faults
  pub printed : Prints [] out0 out1
  pub reported : Reports (line_of [] [] ReadFault) ReadFault err0 err1 answer

-- the input is too long, whatever the files are
pub record InputTooLong (in0 in1 : SourceState) (out0 out1 err0 err1 : SinkState) (answer : Status) : Type 0 where
  pub taken : TakesTooMany in0 in1
  pub printed : Prints [] out0 out1
  pub reported : Reports (line_of [] [] too_long) too_long err0 err1 answer

-- memory ran out at the reads of the input, none of which failed
pub record InputStarved (in0 in1 : SourceState) (out0 out1 err0 err1 : SinkState) (answer : Status) : Type 0 where
  pub taken : TakesSome in0 in1
  pub quiet : in1.faults ≡ in0.faults
  pub printed : Prints [] out0 out1
  pub reported : Reports (line_of [] [] NoMemory) NoMemory err0 err1 answer

-- the answer for files
abbrev pub FilesCaused : List (List ℕ) → List (List ℕ) → ℕ → SourceState → SourceState → SinkState → SinkState → SinkState → SinkState → Status → Type 0
FilesCaused names files steps in0 in1 out0 out1 err0 err1 answer =
    InputRead names files steps in0 in1 out0 out1 err0 err1 answer
    ⊎ (InputFailed in0 in1 out0 out1 err0 err1 answer
    ⊎ (InputTooLong in0 in1 out0 out1 err0 err1 answer
    ⊎ InputStarved in0 in1 out0 out1 err0 err1 answer))

-- ---- names in a folder

-- the files that were read under the names, and the answer for them; no call of the folder failed
pub record NamesRead (names : List (List ℕ)) (steps : ℕ) (was now : FolderState) (in0 in1 : SourceState) (out0 out1 err0 err1 : SinkState) (answer : Status) : Type 0 where
  pub files : List (List ℕ)
  pub told : TellsAll was.files names files
  pub quiet : NoFault was now
  pub caused : FilesCaused names files steps in0 in1 out0 out1 err0 err1 answer

-- a read of one of the names failed: nothing of the input is read, and nothing is printed but the status line
pub record NameFailed (names : List (List ℕ)) (was now : FolderState) (in0 in1 : SourceState) (out0 out1 err0 err1 : SinkState) (answer : Status) : Type 0 where
  pub failed : FailsAt names was now
  pub unread : in1 ≡ in0
  pub printed : Prints [] out0 out1
  pub reported : Reports (line_of [] [] ReadFault) ReadFault err0 err1 answer

-- memory ran out at the reads of the names, none of which failed
pub record NamesStarved (was now : FolderState) (in0 in1 : SourceState) (out0 out1 err0 err1 : SinkState) (answer : Status) : Type 0 where
  pub quiet : NoFault was now
  pub unread : in1 ≡ in0
  pub printed : Prints [] out0 out1
  pub reported : Reports (line_of [] [] NoMemory) NoMemory err0 err1 answer

-- the answer for names
abbrev pub ExecCaused : List (List ℕ) → ℕ → FolderState → FolderState → SourceState → SourceState → SinkState → SinkState → SinkState → SinkState → Status → Type 0
ExecCaused names steps was now in0 in1 out0 out1 err0 err1 answer =
    NamesRead names steps was now in0 in1 out0 out1 err0 err1 answer
    ⊎ (NameFailed names was now in0 in1 out0 out1 err0 err1 answer
    ⊎ NamesStarved was now in0 in1 out0 out1 err0 err1 answer)

-- ---- words

-- The words don't read: nothing is printed but the status line; or a write to `err` failed, or memory ran out. No call of the
-- folder failed.
pub record WordsRefused (at : ℕ) (was now : FolderState) (out0 out1 err0 err1 : SinkState) (status : Status) : Type 0 where
  pub quiet : NoFault was now
  pub printed : Prints [] out0 out1
  pub reported : Reports (line_of [] [] (BadWords (capped at))) (BadWords (capped at)) err0 err1 status

-- Memory ran out before the words were read: nothing is printed but the status line. No call of the folder failed.
pub record WordsStarved (was now : FolderState) (out0 out1 err0 err1 : SinkState) (status : Status) : Type 0 where
  pub quiet : NoFault was now
  pub printed : Prints [] out0 out1
  pub reported : Reports (line_of [] [] NoMemory) NoMemory err0 err1 status
