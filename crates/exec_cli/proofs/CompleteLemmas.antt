-- Each status but the wanted one, and want of memory, has a cause that doesn't hold.
use Rattle.std.proofs.Common.{◌≡◌, ℕ, List, [], map, Some, Result, Ok, Err, inl, inr}
use Rattle.il_outside.specs.Folder.{Files, FolderState}
use Rattle.il_outside.specs.Streams.{SourceState, SinkState}
use Rattle.status_lines.specs.declared.status.Status.{Status}
use Rattle.status_lines.specs.declared.status.Status.TheVariants.{BadWords, NoMemory}
use Rattle.status_lines.specs.Lines.{line_of}
use Rattle.exec_command.specs.declared.words.ExecWords.{ExecWords}
use Rattle.exec_command.specs.Words.{word_at, capped}
use Rattle.exec_command.specs.Complete.{IsQuiet}
use Rattle.exec_command.proofs.Completing.{reported, only_memory, is_answered as exec_answered}
use Rattle.exec_cli.specs.Answer.{CausedBy}
use Rattle.exec_cli.specs.Complete.{IsAnswered}

pub is_answered : (r : Result ExecWords ℕ) (words : List (List ℕ)) (was now : FolderState) (f : Files) (in0 in1 : SourceState) (out0 out1 err0 err1 : SinkState) (status : Status)
    → CausedBy r words was now in0 in1 out0 out1 err0 err1 status → was.files ≡ Some f → IsQuiet was now in0 in1 out0 out1 err0 err1 → IsAnswered r words f in0.left status
is_answered (Err at) words was now f in0 in1 out0 out1 err0 err1 status (inl h) known quiet =
    reported (line_of [] [] (BadWords (capped at))) (BadWords (capped at)) out0 out1 err0 err1 status quiet.sinks h.reported
is_answered (Err at) words was now f in0 in1 out0 out1 err0 err1 status (inr h) known quiet =
    inr (only_memory status (reported (line_of [] [] NoMemory) NoMemory out0 out1 err0 err1 status quiet.sinks h.reported))
is_answered (Ok asked) words was now f in0 in1 out0 out1 err0 err1 status h known quiet =
    exec_answered (map (word_at words) asked.inputs) asked.steps was now f in0 in1 out0 out1 err0 err1 status h known quiet
