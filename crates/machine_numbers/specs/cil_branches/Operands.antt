-- What an operand is.
use Rattle.std.specs.Prelude.{ℕ, List, Option, Some, None}
use Rattle.il_base.specs.declared.cil_values.resolved.Use.{Use}
use Rattle.il_base.specs.declared.cil_values.resolved.Use.TheVariants as use_of

abbrev pub target_in : Use → Option ℕ
target_in (use_of.Target to) = Some to
target_in _ = None

abbrev pub targets_in : Use → Option (List ℕ)
targets_in (use_of.Targets tos) = Some tos
targets_in _ = None
