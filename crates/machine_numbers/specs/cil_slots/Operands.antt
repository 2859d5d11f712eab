-- What an operand is.
use Rattle.std.specs.Prelude.{ℕ, ℤ, Option, Some, None}
use Rattle.il_base.specs.declared.cil_values.resolved.Use.{Use}
use Rattle.il_base.specs.declared.cil_values.resolved.Use.TheVariants as use_of

abbrev pub slot_in : Use → Option ℕ
slot_in (use_of.Slot k) = Some k
slot_in _ = None

abbrev pub number_in : Use → Option ℤ
number_in (use_of.Number n) = Some n
number_in _ = None
