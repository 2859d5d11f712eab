-- The converse of `Answer`: the answer is the one that the words and the known files require, unless the outside fails or memory
-- runs out.
use Rattle.std.specs.Prelude.{◌≡◌, ◌⊎◌, ℕ, List, Option, Result, Ok, Err, map}
use Rattle.il_outside.specs.Folder.{Files}
use Rattle.status_lines.specs.declared.status.Status.{Status}
use Rattle.status_lines.specs.declared.status.Status.TheVariants.{BadWords, NoMemory}
use Rattle.named_files.specs.Files.{files_under}
use Rattle.exec_command.specs.declared.words.ExecWords.{ExecWords}
use Rattle.exec_command.specs.Words.{word_at, capped}
use Rattle.exec_command.specs.Complete.{WantsRun}

-- The status that the words require, of a folder that holds these files and a source that has these bytes left; any where the
-- folder has no such file, or the source doesn't tell what it has left.
abbrev pub Wants : Result ExecWords ℕ → List (List ℕ) → Files → Option (List ℕ) → Status → Type 0
Wants (Err at) words files input status = status ≡ BadWords (capped at)
Wants (Ok asked) words files input status = WantsRun (files_under files (map (word_at words) asked.inputs)) input asked.steps status

-- the answer is the status that the words require, or want of memory
abbrev pub IsAnswered : Result ExecWords ℕ → List (List ℕ) → Files → Option (List ℕ) → Status → Type 0
IsAnswered r words files input status = Wants r words files input status ⊎ (status ≡ NoMemory)
