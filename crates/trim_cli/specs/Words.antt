-- The program's words: `exec IN.. [--steps N]` and `trim OUT IN.. [--descriptor FILE].. [--internalize] [--keep-list FILE]`. The
-- first word is the command. After it a word that begins with `-` is an option until the word `--` was read; an option's value is
-- the next word, whatever it is; other words are names. Words are read from left to right. Those of `exec` are in
-- `exec_command/specs/Words`.
use Rattle.std.specs.Prelude.{ℕ, ◌+◌, List, [], ◌∷◌, ◌++◌, length, Bool, true, false, Option, Some, None, Result, Ok, Err, codes, is_none, not, ◌&&◌, if◌then◌else◌}
use Rattle.exec_command.specs.declared.words.ExecWords.{ExecWords}
use Rattle.exec_command.specs.Words.{is_word, is_empty, begins_with_dash, word_at, after_word, read_exec}
use Rattle.trim_cli.specs.declared.command.Command.{Command}
use Rattle.trim_cli.specs.declared.command.Command.TheVariants.{Exec, Trim}
use Rattle.trim_cli.specs.declared.command.Awaited.{Awaited}
use Rattle.trim_cli.specs.declared.command.Awaited.TheVariants as awaited
use Rattle.trim_cli.specs.declared.command.TrimProgress.{TrimProgress}

-- ---- the words of `trim`

abbrev pub trim_begin : TrimProgress
trim_begin = record { names_only = false; awaits = awaited.Word; output = None; inputs = []; descriptors = []; list = None; internalize = false }

-- whether the word at a place that was read, if one was, is this one
abbrev pub is_at : List (List ℕ) → Option ℕ → List ℕ → Bool
is_at words None w = false
is_at words (Some at) w = is_word (word_at words at) w

-- `--`, and the options, of which `--descriptor` alone may come again
abbrev pub take_trim_option : TrimProgress → List ℕ → Option TrimProgress
take_trim_option p w =
    if is_word w (codes "--") then Some (record p { names_only = true })
    else if is_word w (codes "--descriptor") then Some (record p { awaits = awaited.Descriptor })
    else if is_word w (codes "--internalize") && not p.internalize then Some (record p { internalize = true })
    else if is_word w (codes "--keep-list") && is_none p.list then Some (record p { awaits = awaited.KeepList })
    else None

-- OUT, which differs from the keep list, and then each IN
abbrev pub take_trim_name : List (List ℕ) → TrimProgress → ℕ → List ℕ → Option TrimProgress
take_trim_name words p at w =
    if is_empty w then None
    else if not (is_none p.output) then Some (record p { inputs = p.inputs ++ (at ∷ []) })
    else if is_at words p.list w then None
    else Some (record p { output = Some at })

abbrev pub take_descriptor : TrimProgress → ℕ → List ℕ → Option TrimProgress
take_descriptor p at w = if is_empty w then None else Some (record p { awaits = awaited.Word; descriptors = p.descriptors ++ (at ∷ []) })

-- the keep list, which differs from OUT
abbrev pub take_list : List (List ℕ) → TrimProgress → ℕ → List ℕ → Option TrimProgress
take_list words p at w =
    if is_empty w then None
    else if is_at words p.output w then None
    else Some (record p { awaits = awaited.Word; list = Some at })

abbrev pub trim_step_by : Awaited → List (List ℕ) → TrimProgress → ℕ → List ℕ → Option TrimProgress
trim_step_by awaited.Word words p at w = if not p.names_only && begins_with_dash w then take_trim_option p w else take_trim_name words p at w
trim_step_by awaited.Descriptor words p at w = take_descriptor p at w
trim_step_by awaited.KeepList words p at w = take_list words p at w

-- the state after one more word, at its place among all words; None where the word is bad
unfoldable pub trim_step : List (List ℕ) → TrimProgress → ℕ → List ℕ → Option TrimProgress
trim_step words p at w = trim_step_by p.awaits words p at w

abbrev pub trim_rest : List (List ℕ) → ℕ → List (List ℕ) → TrimProgress → Result TrimProgress ℕ
trim_rest words at [] p = Ok p
trim_rest words at (w ∷ ws) p = after_word at (trim_step words p at w) (trim_rest words (at + 1) ws)

-- a word that is missing stands after the last one
abbrev pub trim_finish : ℕ → Awaited → Option ℕ → TrimProgress → Result Command ℕ
trim_finish words awaited.Word (Some output) p =
    if is_empty p.inputs then Err words else Ok (Trim output p.inputs p.descriptors p.list p.internalize)
trim_finish words awaited.Word None p = Err words
trim_finish words awaited.Descriptor output p = Err words
trim_finish words awaited.KeepList output p = Err words

abbrev pub trim_finished : ℕ → Result TrimProgress ℕ → Result Command ℕ
trim_finished words (Err at) = Err at
trim_finished words (Ok p) = trim_finish words p.awaits p.output p

-- ---- all words

-- the command `exec`
abbrev pub exec_of : Result ExecWords ℕ → Result Command ℕ
exec_of (Err at) = Err at
exec_of (Ok asked) = Ok (Exec asked.inputs asked.steps)

unfoldable pub read_words : List (List ℕ) → Result Command ℕ
read_words [] = Err 0
read_words (w ∷ ws) =
    if is_word w (codes "exec") then exec_of (read_exec (w ∷ ws))
    else if is_word w (codes "trim") then trim_finished (length ws + 1) (trim_rest (w ∷ ws) 1 ws trim_begin)
    else Err 0
