-- The words' reading makes the answer for the words.
use Rattle.std.proofs.Common.{ℕ, List, [], Result, Ok, Err, refl, inr}
use Rattle.std.proofs.KnownBytes.{Consumes-nil}
use Rattle.il_outside.specs.Folder.{FolderState}
use Rattle.il_outside.specs.Streams.{SourceState, SinkState}
use Rattle.status_lines.specs.declared.status.Status.{Status}
use Rattle.status_lines.specs.declared.status.Status.TheVariants.{NoMemory}
use Rattle.status_lines.specs.Lines.{line_of}
use Rattle.status_lines.specs.Reports.{Reports}
use Rattle.exec_command.specs.declared.words.ExecWords.{ExecWords}
use Rattle.exec_command.proofs.Causes.{untouched}
use Rattle.exec_cli.specs.Answer.{CausedBy, TakesBy}

-- memory ran out before the words were read
pub starved_words : (r : Result ExecWords ℕ) (words : List (List ℕ)) (folder : FolderState) (input : SourceState) (out err0 err1 : SinkState) (answer : Status)
    → Reports (line_of [] [] NoMemory) NoMemory err0 err1 answer → CausedBy r words folder folder input input out out err0 err1 answer
starved_words (Err at) words folder input out err0 err1 answer report = inr (record { quiet = (refl, refl, refl); printed = untouched out; reported = report })
starved_words (Ok asked) words folder input out err0 err1 answer report =
    inr (inr (record { quiet = (refl, refl, refl); unread = refl; printed = untouched out; reported = report }))

pub takes_none : (r : Result ExecWords ℕ) (input : SourceState) → TakesBy r input input
takes_none (Err at) input = refl
takes_none (Ok asked) input = ([], Consumes-nil input.left)
