-- Texts of int32, as the code reads them.
use Rattle.std.specs.Prelude.{ℕ, ℤ, pos, neg_ℤ, Bool, true, false, Option, Some, None, if◌then◌else◌}
use Rattle.std.specs.Int.{w32}
use Rattle.il_base.specs.declared.core_table.names.CoreName.TheVariants.{FormatException, OverflowException}
use Rattle.il_base.specs.declared.cil_values.state.State.{State}
use Rattle.rules.specs.step_rules.Queries.{Queries}
use Rattle.rules.specs.step_rules.Next.{Next}
use Rattle.rules.specs.step_rules.Integers.{fits_signed}
use Rattle.rules.specs.step_rules.Raising.{raise}
use Rattle.rules.specs.step_rules.CoreWords.{Gives, gives_int}
use Rattle.cil_core.specs.declared.cil_text_members.numbers.Parsed.{Parsed}
use Rattle.cil_core.specs.declared.cil_text_members.numbers.Parsed.TheVariants as parsed

-- no int32 has an absolute value as large as this
abbrev pub enough : ℕ
enough = 2147483649

abbrev pub signed : Bool → ℕ → ℤ
signed true n = neg_ℤ (pos n)
signed false n = pos n

abbrev pub fitting : ℤ → Parsed
fitting n = if fits_signed w32 n then parsed.Number n else parsed.TooLarge

-- what a number is as an int32
abbrev pub as_int : Option ℤ → Parsed
as_int None = parsed.NoNumber
as_int (Some n) = fitting n

abbrev pub int_or_raise : Queries → State → Gives → Parsed → Next
int_or_raise q s give parsed.NoNumber = raise q FormatException s
int_or_raise q s give parsed.TooLarge = raise q OverflowException s
int_or_raise q s give (parsed.Number n) = gives_int n s give
