-- Each status but the wanted one, and want of memory, has a cause that doesn't hold.
use Rattle.std.proofs.Common.{◌≡◌, ℕ, List, [], map, Some, Result, Ok, Err, inl, inr}
use Rattle.std.specs.Option.{option_map}
use Rattle.il_outside.specs.Folder.{Files, FolderState}
use Rattle.il_outside.specs.Streams.{SourceState, SinkState}
use Rattle.status_lines.specs.declared.status.Status.{Status}
use Rattle.status_lines.specs.declared.status.Status.TheVariants.{BadWords, NoMemory}
use Rattle.status_lines.specs.Lines.{line_of}
use Rattle.exec_command.proofs.Completing.{reported, only_memory, is_answered as exec_answered}
use Rattle.exec_command.specs.Words.{word_at, capped}
use Rattle.trim_command.specs.Complete.{IsQuiet}
use Rattle.trim_command.proofs.Completing.{is_answered as trim_answered}
use Rattle.trim_cli.specs.declared.command.Command.{Command}
use Rattle.trim_cli.specs.declared.command.Command.TheVariants.{Exec, Trim}
use Rattle.trim_cli.specs.Answer.{CausedBy}
use Rattle.trim_cli.specs.Complete.{IsSourceQuiet, IsAnswered}

pub is_answered : (r : Result Command ℕ) (words : List (List ℕ)) (was now : FolderState) (f : Files) (in0 in1 : SourceState) (out0 out1 err0 err1 : SinkState) (status : Status)
    → CausedBy r words was now in0 in1 out0 out1 err0 err1 status → was.files ≡ Some f → IsQuiet was now out0 out1 err0 err1 → IsSourceQuiet r in0 in1 → IsAnswered r words f in0.left status
is_answered (Err at) words was now f in0 in1 out0 out1 err0 err1 status (inl h) known quiet source =
    reported (line_of [] [] (BadWords (capped at))) (BadWords (capped at)) out0 out1 err0 err1 status quiet.sinks h.reported
is_answered (Err at) words was now f in0 in1 out0 out1 err0 err1 status (inr h) known quiet source =
    inr (only_memory status (reported (line_of [] [] NoMemory) NoMemory out0 out1 err0 err1 status quiet.sinks h.reported))
is_answered (Ok (Exec inputs steps)) words was now f in0 in1 out0 out1 err0 err1 status h known quiet source =
    exec_answered (map (word_at words) inputs) steps was now f in0 in1 out0 out1 err0 err1 status h known (record { reads = quiet.reads; input = source; sinks = quiet.sinks })
is_answered (Ok (Trim output inputs descriptors list internalize)) words was now f in0 in1 out0 out1 err0 err1 status h known quiet source =
    trim_answered (map (word_at words) inputs) (map (word_at words) descriptors) (word_at words output) (option_map (word_at words) list) internalize was now f out0 out1 err0 err1 status h known quiet
