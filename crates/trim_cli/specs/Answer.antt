-- The program's answers: when each comes, and what it leaves. A call of the outside that fails is never hidden: the first one that
-- fails is the last of its kind, a read failed only where ReadFault was due, and a write only where WriteFault was. The answers of
-- `exec` are in `exec_command/specs/Answer`, those of `trim` in `trim_command/specs/Answer`.
use Rattle.std.specs.Prelude.{◌≡◌, ◌⊎◌, ℕ, List, Option, Result, Ok, Err, map}
use Rattle.std.specs.Option.{option_map}
use Rattle.il_outside.specs.Folder.{Files, FolderState, KeepsFiles}
use Rattle.il_outside.specs.Streams.{SourceState, SinkState}
use Rattle.status_lines.specs.declared.status.Status.{Status}
use Rattle.exec_command.specs.Input.{TakesSome}
use Rattle.exec_command.specs.Words.{word_at}
use Rattle.exec_command.specs.Answer.{ExecCaused, WordsRefused, WordsStarved}
use Rattle.trim_command.specs.Writing.{IsApart, KeepsOthers, written_names}
use Rattle.trim_command.specs.Answer.{TrimCaused}
use Rattle.trim_cli.specs.declared.command.Command.{Command}
use Rattle.trim_cli.specs.declared.command.Command.TheVariants.{Exec, Trim}
use Rattle.trim_cli.specs.Words.{read_words}

-- ---- the words

-- the keep list has another name than OUT
abbrev pub AreApart : Result Command ℕ → List (List ℕ) → Type 0
AreApart (Ok (Trim output inputs descriptors list internalize)) words = IsApart (word_at words output) (option_map (word_at words) list)
AreApart (Ok (Exec inputs steps)) words = Unit {0}
AreApart (Err at) words = Unit {0}

-- The causes of a status, for the program's words, and what the status leaves.
abbrev pub CausedBy : Result Command ℕ → List (List ℕ) → FolderState → FolderState → SourceState → SourceState → SinkState → SinkState → SinkState → SinkState → Status → Type 0
CausedBy (Err at) words was now in0 in1 out0 out1 err0 err1 status =
    WordsRefused at was now out0 out1 err0 err1 status ⊎ WordsStarved was now out0 out1 err0 err1 status
CausedBy (Ok (Exec inputs steps)) words was now in0 in1 out0 out1 err0 err1 status =
    ExecCaused (map (word_at words) inputs) steps was now in0 in1 out0 out1 err0 err1 status
CausedBy (Ok (Trim output inputs descriptors list internalize)) words was now in0 in1 out0 out1 err0 err1 status =
    TrimCaused (map (word_at words) inputs) (map (word_at words) descriptors) (word_at words output) (option_map (word_at words) list) internalize was now out0 out1 err0 err1 status

abbrev pub Caused : List (List ℕ) → FolderState → FolderState → SourceState → SourceState → SinkState → SinkState → SinkState → SinkState → Status → Type 0
Caused words was now in0 in1 out0 out1 err0 err1 status = CausedBy (read_words words) words was now in0 in1 out0 out1 err0 err1 status

-- ---- the folder

-- `trim` changes OUT and the keep list alone, and every other call nothing
abbrev pub KeepsBy : Result Command ℕ → List (List ℕ) → Option Files → Option Files → Type 0
KeepsBy (Ok (Trim output inputs descriptors list internalize)) words old new =
    KeepsOthers (written_names (word_at words output) (option_map (word_at words) list)) old new
KeepsBy (Ok (Exec inputs steps)) words old new = KeepsFiles old new
KeepsBy (Err at) words old new = KeepsFiles old new

-- ---- the source

-- `exec` takes bytes of the source, and every other call none
abbrev pub TakesBy : Result Command ℕ → SourceState → SourceState → Type 0
TakesBy (Ok (Exec inputs steps)) old new = TakesSome old new
TakesBy (Ok (Trim output inputs descriptors list internalize)) old new = new ≡ old
TakesBy (Err at) old new = new ≡ old
