-- The converse of `Answer`: the answer is the one that the words and the known files require, unless the outside fails or memory
-- runs out.
use Rattle.std.specs.Prelude.{◌≡◌, ◌⊎◌, ℕ, List, Option, map, Result, Ok, Err}
use Rattle.std.specs.Option.{option_map}
use Rattle.il_outside.specs.Faults.{Rose}
use Rattle.il_outside.specs.Folder.{Files}
use Rattle.il_outside.specs.Streams.{SourceState}
use Rattle.status_lines.specs.declared.status.Status.{Status}
use Rattle.status_lines.specs.declared.status.Status.TheVariants.{BadWords, NoMemory}
use Rattle.named_files.specs.Files.{files_under}
use Rattle.exec_command.specs.Words.{word_at, capped}
use Rattle.exec_command.specs.Complete.{WantsRun}
use Rattle.trim_command.specs.Answer.{opts_of}
use Rattle.trim_command.specs.Complete.{WantsTrim}
use Rattle.trim_cli.specs.declared.command.Command.{Command}
use Rattle.trim_cli.specs.declared.command.Command.TheVariants.{Exec, Trim}

-- no read of the source failed, where the words are those of `exec`
abbrev pub IsSourceQuiet : Result Command ℕ → SourceState → SourceState → Type 0
IsSourceQuiet (Ok (Exec inputs steps)) in0 in1 = Rose in0.faults in1.faults → ⊥
IsSourceQuiet (Ok (Trim output inputs descriptors list internalize)) in0 in1 = Unit {0}
IsSourceQuiet (Err at) in0 in1 = Unit {0}

-- The status that the words require, of a folder that holds these files and a source that has these bytes left; any where the
-- folder has no such file, or the source doesn't tell what it has left.
abbrev pub Wants : Result Command ℕ → List (List ℕ) → Files → Option (List ℕ) → Status → Type 0
Wants (Err at) words files input status = status ≡ BadWords (capped at)
Wants (Ok (Exec inputs steps)) words files input status = WantsRun (files_under files (map (word_at words) inputs)) input steps status
Wants (Ok (Trim output inputs descriptors list internalize)) words files input status =
    WantsTrim (files_under files (map (word_at words) inputs)) (files_under files (map (word_at words) descriptors)) (opts_of internalize (option_map (word_at words) list)) status

-- the answer is the status that the words require, or want of memory
abbrev pub IsAnswered : Result Command ℕ → List (List ℕ) → Files → Option (List ℕ) → Status → Type 0
IsAnswered r words files input status = Wants r words files input status ⊎ (status ≡ NoMemory)
