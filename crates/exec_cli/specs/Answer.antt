-- The program's answers: when each comes, and what it leaves. Those for words that read are in `exec_command/specs/Answer`.
use Rattle.std.specs.Prelude.{◌≡◌, ◌⊎◌, ℕ, List, Result, Ok, Err, map}
use Rattle.il_outside.specs.Folder.{FolderState}
use Rattle.il_outside.specs.Streams.{SourceState, SinkState}
use Rattle.status_lines.specs.declared.status.Status.{Status}
use Rattle.exec_command.specs.declared.words.ExecWords.{ExecWords}
use Rattle.exec_command.specs.Words.{word_at}
use Rattle.exec_command.specs.Input.{TakesSome}
use Rattle.exec_command.specs.Answer.{ExecCaused, WordsRefused, WordsStarved}
use Rattle.exec_cli.specs.Words.{read_words}

-- the causes of a status, for the program's words, and what the status leaves
abbrev pub CausedBy : Result ExecWords ℕ → List (List ℕ) → FolderState → FolderState → SourceState → SourceState → SinkState → SinkState → SinkState → SinkState → Status → Type 0
CausedBy (Err at) words was now in0 in1 out0 out1 err0 err1 status =
    WordsRefused at was now out0 out1 err0 err1 status ⊎ WordsStarved was now out0 out1 err0 err1 status
CausedBy (Ok asked) words was now in0 in1 out0 out1 err0 err1 status =
    ExecCaused (map (word_at words) asked.inputs) asked.steps was now in0 in1 out0 out1 err0 err1 status

abbrev pub Caused : List (List ℕ) → FolderState → FolderState → SourceState → SourceState → SinkState → SinkState → SinkState → SinkState → Status → Type 0
Caused words was now in0 in1 out0 out1 err0 err1 status = CausedBy (read_words words) words was now in0 in1 out0 out1 err0 err1 status

-- bytes of the source are taken only where the words read
abbrev pub TakesBy : Result ExecWords ℕ → SourceState → SourceState → Type 0
TakesBy (Ok asked) old new = TakesSome old new
TakesBy (Err at) old new = new ≡ old
