-- The program's words: `exec IN.. [--steps N]`, as `exec_command/specs/Words` reads them.
use Rattle.std.specs.Prelude.{ℕ, List, [], ◌∷◌, Result, Ok, Err, codes, if◌then◌else◌}
use Rattle.exec_command.specs.declared.words.ExecWords.{ExecWords}
use Rattle.exec_command.specs.Words.{is_word, read_exec}

-- what the words ask for, or the place of the first bad word; another first word than `exec` is bad
unfoldable pub read_words : List (List ℕ) → Result ExecWords ℕ
read_words [] = Err 0
read_words (w ∷ ws) = if is_word w (codes "exec") then read_exec (w ∷ ws) else Err 0
