-- The status line of a run, on the way to the answer.
use Rattle.std.specs.Prelude.{◌⊎◌, ℕ, List, [], Result, Ok, Err}
use Rattle.il_outside.specs.Streams.{SinkState}
use Rattle.run_rules.specs.declared.answers.EndKind.{EndKind}
use Rattle.run_rules.specs.declared.answers.ExecFault.{ExecFault}
use Rattle.run_rules.specs.declared.answers.ExecFault.TheVariants as fault
use Rattle.status_lines.specs.declared.status.Status.{Status}
use Rattle.status_lines.specs.declared.status.Status.TheVariants.{WriteFault, NoMemory}
use Rattle.status_lines.specs.Lines.{line_of}
use Rattle.status_lines.specs.Reports.{Reports}
use Rattle.exec_command.specs.Answer.{status_of, refused, line_for}

-- the line of a status, or want of memory on the way to it
abbrev pub StatusReported : List (List ℕ) → List (List ℕ) → Status → SinkState → SinkState → Status → Type 0
StatusReported names files status old new answer =
    Reports (line_for names files status) status old new answer ⊎ Reports (line_of [] [] NoMemory) NoMemory old new answer

-- the line of what a run over a sink answered
abbrev pub RunReported : List (List ℕ) → List (List ℕ) → ℕ → Result EndKind ExecFault → SinkState → SinkState → Status → Type 0
RunReported names files steps (Ok end) old new answer = StatusReported names files (status_of steps end) old new answer
RunReported names files steps (Err fault.Write) old new answer = Reports (line_of [] [] WriteFault) WriteFault old new answer
RunReported names files steps (Err (fault.Refused why)) old new answer = StatusReported names files (refused why) old new answer
