-- The words of `exec IN.. [--steps N]`. After the command's word, the first, a word that begins with `-` is an option until the word
-- `--` was read; an option's value is the next word, whatever it is; other words are names. Words are read from left to right.
use Rattle.std.specs.Prelude.{ℕ, ◌+◌, ◌-◌, ◌*◌, List, [], ◌∷◌, ◌++◌, length, Bool, true, false, Option, Some, None, Result, Ok, Err, codes, min, nat_le, nat_eq, is_none, slice_get, unwrap_or, not, ◌==◌, ◌&&◌, ◌||◌, if◌then◌else◌}
use Rattle.std.specs.List.{list_all}
use Rattle.std.specs.Cmp.Lexicographic.{pointwise}
use Rattle.exec_command.specs.declared.words.ExecWords.{ExecWords}
use Rattle.exec_command.specs.declared.words.Progress.{Progress}

abbrev pub is_word : List ℕ → List ℕ → Bool
is_word w text = pointwise nat_eq w text

abbrev pub is_empty : List ℕ → Bool
is_empty [] = true
is_empty (x ∷ xs) = false

abbrev pub begins_with_dash : List ℕ → Bool
begins_with_dash [] = false
begins_with_dash (b ∷ bs) = b == 45

abbrev pub word_at : List (List ℕ) → ℕ → List ℕ
word_at words at = unwrap_or (slice_get words at) []

-- a place in a status: a number past 4294967295 becomes 4294967295
abbrev pub capped : ℕ → ℕ
capped at = min at 4294967295

abbrev pub after_word : {P : Type 0} → ℕ → Option P → (P → Result P ℕ) → Result P ℕ
after_word at None f = Err at
after_word at (Some p) f = f p

-- ---- numbers

abbrev pub is_digit : ℕ → Bool
is_digit b = nat_le 48 b && nat_le b 57

-- the number that decimal digits spell after the digits of another number
abbrev pub value_of : ℕ → List ℕ → ℕ
value_of n [] = n
value_of n (d ∷ ds) = value_of (n * 10 + (d - 48)) ds

-- 1 to 12 decimal digits
unfoldable pub number_of : List ℕ → Option ℕ
number_of w = if nat_eq (length w) 0 || not (nat_le (length w) 12) || not (list_all is_digit w) then None else Some (value_of 0 w)

-- ---- the words of `exec`

abbrev pub begin : Progress
begin = record { names_only = false; expects = false; steps = None; inputs = [] }

abbrev pub take_value : Progress → Option ℕ → Option Progress
take_value p None = None
take_value p (Some n) = Some (record p { expects = false; steps = Some n })

abbrev pub take_option : Progress → List ℕ → Option Progress
take_option p w =
    if is_word w (codes "--") then Some (record p { names_only = true })
    else if is_word w (codes "--steps") && is_none p.steps then Some (record p { expects = true })
    else None

abbrev pub take_name : Progress → ℕ → List ℕ → Option Progress
take_name p at w = if is_empty w then None else Some (record p { inputs = p.inputs ++ (at ∷ []) })

-- the state after one more word, at its place; None where the word is bad
unfoldable pub word_step : Progress → ℕ → List ℕ → Option Progress
word_step p at w =
    if p.expects then take_value p (number_of w)
    else if not p.names_only && begins_with_dash w then take_option p w
    else take_name p at w

-- the state after the words from a place on, or the place of the first bad word
abbrev pub rest_of : ℕ → List (List ℕ) → Progress → Result Progress ℕ
rest_of at [] p = Ok p
rest_of at (w ∷ ws) p = after_word at (word_step p at w) (rest_of (at + 1) ws)

abbrev pub steps_of : Option ℕ → ℕ
steps_of None = 100000000
steps_of (Some n) = n

-- what the words ask for: at least one name
abbrev pub with_inputs : ℕ → Option ℕ → List ℕ → Result ExecWords ℕ
with_inputs words steps inputs = if is_empty inputs then Err words else Ok (record { inputs = inputs; steps = steps_of steps })

-- a word that is missing stands after the last one
unfoldable pub finish : ℕ → Progress → Result ExecWords ℕ
finish words p = if p.expects then Err words else with_inputs words p.steps p.inputs

abbrev pub finished : ℕ → Result Progress ℕ → Result ExecWords ℕ
finished words (Err at) = Err at
finished words (Ok p) = finish words p

-- what the words after the first ask for
abbrev pub read_exec : List (List ℕ) → Result ExecWords ℕ
read_exec [] = Err 0
read_exec (w ∷ ws) = finished (length ws + 1) (rest_of 1 ws begin)
