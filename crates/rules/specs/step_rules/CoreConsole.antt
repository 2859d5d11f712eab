-- Members of Console. Each step's text is printed by itself, as UTF-8 with LF ends of lines.
use Rattle.std.specs.Prelude.{ℕ, ◌==◌, ℤ, pos, negsuc, List, [], ◌∷◌, ◌++◌, reverse, Bool, true, false, Option, Some, None, if◌then◌else◌}
use Rattle.std.specs.Fmt.{signed_decimal}
use Rattle.std.specs.Int.{w32, cast_unsigned}
use Rattle.std.specs.Option.{option_map}
use Rattle.il_base.specs.declared.cil_values.value.Value.{Value}
use Rattle.il_base.specs.declared.cil_values.value.Value.TheVariants as value
use Rattle.il_base.specs.declared.cil_values.state.State.{State}
use Rattle.rules.specs.step_rules.Next.{Next}
use Rattle.il_base.specs.declared.cil_values.core_call.Printed.{Printed}
use Rattle.il_base.specs.declared.cil_values.core_call.Printed.TheVariants.{OfString as of_string, OfNumber as of_number, OfBool as of_bool, OfChar as of_char, OfObject as of_object}
use Rattle.rules.specs.step_rules.Words.{stuck, given}
use Rattle.rules.specs.step_rules.Integers.{held_number}
use Rattle.rules.specs.step_rules.Objects.{units_of, bytes_of_units, made_text}
use Rattle.rules.specs.step_rules.CoreObjects.{truth_text}
use Rattle.rules.specs.step_rules.CoreWords.{Gives, CoreForm, gives_value, gives_int}

-- ---- printed

abbrev pub ended_line : Bool → List ℕ → List ℕ
ended_line true bytes = bytes ++ 10 ∷ []
ended_line false bytes = bytes

-- the bytes of a string; null has none
abbrev pub bytes_of_text : State → Value → Option (List ℕ)
bytes_of_text s value.Null = Some []
bytes_of_text s v = option_map bytes_of_units (units_of s v)

abbrev pub bytes_of_char : ℤ → List ℕ
bytes_of_char n = bytes_of_units (cast_unsigned w32 n ∷ [])

-- the bytes of a value that isn't an object
unfoldable pub printed_bytes : Printed → State → Value → Option (List ℕ)
printed_bytes of_string s v = bytes_of_text s v
printed_bytes of_number s v = option_map signed_decimal (held_number v)
printed_bytes of_bool s v = option_map truth_text (held_number v)
printed_bytes of_char s v = option_map bytes_of_char (held_number v)
printed_bytes of_object s v = bytes_of_text s v

-- Write and WriteLine of a string, number, bool or char; of an object what its ToString() gave
unfoldable pub print_form : Bool → Printed → CoreForm
print_form line kind q (v ∷ []) s give = given (printed_bytes kind s v) s (λ bytes. give s None (ended_line line bytes))
print_form line kind q _ s give = stuck s

-- WriteLine()
unfoldable pub line_end_form : CoreForm
line_end_form q [] s give = give s None (10 ∷ [])
line_end_form q _ s give = stuck s

-- ---- read

abbrev pub reading : State → List ℕ → State
reading s units = record s { input = units }

-- Read(): the next unit, or -1 where nothing is left
abbrev pub read_from : State → Gives → List ℕ → Next
read_from s give [] = gives_int (negsuc 0) s give
read_from s give (u ∷ us) = gives_int (pos u) (reading s us) give

unfoldable pub read_unit_form : CoreForm
read_unit_form q [] s give = read_from s give s.input
read_unit_form q _ s give = stuck s

-- the units up to the next LF and those after it, or all where there is none
pub record Line : Type 0 where
  pub units : List ℕ
  pub rest : List ℕ
  -- whether an LF ends it
  pub ends : Bool

abbrev pub add_unit : ℕ → Line → Line
add_unit u l = record l { units = u ∷ l.units }

unfoldable pub line_of : List ℕ → Line
line_of [] = record { units = []; rest = []; ends = false }
line_of (u ∷ us) = if u == 10 then record { units = []; rest = us; ends = true } else add_unit u (line_of us)

abbrev pub without_first_cr : List ℕ → List ℕ
without_first_cr [] = []
without_first_cr (u ∷ us) = if u == 13 then us else u ∷ us

-- a CR right before the LF isn't part of the line
abbrev pub line_units : Line → List ℕ
line_units l = if l.ends then reverse (without_first_cr (reverse l.units)) else l.units

-- ReadLine(): null where nothing is left
abbrev pub line_from : State → Gives → List ℕ → Next
line_from s give [] = gives_value value.Null s give
line_from s give (u ∷ us) = let l = line_of (u ∷ us) in
    made_text (line_units l) (reading s l.rest) (λ a t. gives_value (value.Object a) t give)

unfoldable pub read_line_form : CoreForm
read_line_form q [] s give = line_from s give s.input
read_line_form q _ s give = stuck s
