-- The words' reading makes the answer for the words.
use Rattle.std.proofs.Common.{ℕ, List, [], Bool, map, Option, Result, Ok, Err, refl, inr}
use Rattle.std.proofs.KnownBytes.{Appends-nil, Consumes-nil}
use Rattle.std.specs.Option.{option_map}
use Rattle.il_outside.specs.Folder.{Files, FolderState}
use Rattle.il_outside.specs.Streams.{SourceState, SinkState}
use Rattle.status_lines.specs.declared.status.Status.{Status}
use Rattle.status_lines.specs.declared.status.Status.TheVariants.{NoMemory}
use Rattle.status_lines.specs.Lines.{line_of}
use Rattle.status_lines.specs.Reports.{Prints, Reports}
use Rattle.named_files.proofs.Folders.{keeps_itself, quiet_itself}
use Rattle.exec_command.specs.Words.{word_at}
use Rattle.trim_command.specs.Writing.{written_names, KeepsOthers}
use Rattle.trim_command.specs.Answer.{TrimCaused}
use Rattle.trim_command.proofs.Causes.{others_kept}
use Rattle.trim_cli.specs.declared.command.Command.{Command}
use Rattle.trim_cli.specs.declared.command.Command.TheVariants.{Exec, Trim}
use Rattle.trim_cli.specs.Answer.{CausedBy, KeepsBy, TakesBy}

untouched : (s : SinkState) → Prints [] s s
untouched s = (Appends-nil s.held, refl)

-- ---- memory ran out before the command was known

pub starved_trim : (inputs descriptors : List (List ℕ)) (output : List ℕ) (list : Option (List ℕ)) (internalize : Bool) (folder : FolderState) (out err0 err1 : SinkState) (answer : Status)
    → Reports (line_of [] [] NoMemory) NoMemory err0 err1 answer → TrimCaused inputs descriptors output list internalize folder folder out out err0 err1 answer
starved_trim inputs descriptors output list internalize folder out err0 err1 answer report =
    inr (inr (record { quiet = quiet_itself folder; kept = keeps_itself folder.files; printed = untouched out; reported = report }))

pub starved_words : (r : Result Command ℕ) (words : List (List ℕ)) (folder : FolderState) (input : SourceState) (out err0 err1 : SinkState) (answer : Status)
    → Reports (line_of [] [] NoMemory) NoMemory err0 err1 answer → CausedBy r words folder folder input input out out err0 err1 answer
starved_words (Err at) words folder input out err0 err1 answer report = inr (record { quiet = (refl, refl, refl); printed = untouched out; reported = report })
starved_words (Ok (Exec inputs steps)) words folder input out err0 err1 answer report =
    inr (inr (record { quiet = (refl, refl, refl); unread = refl; printed = untouched out; reported = report }))
starved_words (Ok (Trim output inputs descriptors list internalize)) words folder input out err0 err1 answer report =
    starved_trim (map (word_at words) inputs) (map (word_at words) descriptors) (word_at words output) (option_map (word_at words) list) internalize folder out err0 err1 answer report

pub others_itself : (names : List (List ℕ)) (files : Option Files) → KeepsOthers names files files
others_itself names files = others_kept names files files (keeps_itself files)

pub keeps_all : (r : Result Command ℕ) (words : List (List ℕ)) (files : Option Files) → KeepsBy r words files files
keeps_all (Err at) words files = keeps_itself files
keeps_all (Ok (Exec inputs steps)) words files = keeps_itself files
keeps_all (Ok (Trim output inputs descriptors list internalize)) words files = others_itself (written_names (word_at words output) (option_map (word_at words) list)) files

pub takes_none : (r : Result Command ℕ) (input : SourceState) → TakesBy r input input
takes_none (Err at) input = refl
takes_none (Ok (Exec inputs steps)) input = ([], Consumes-nil input.left)
takes_none (Ok (Trim output inputs descriptors list internalize)) input = refl
