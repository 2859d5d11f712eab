-- The innermost handler as the code has it.
use Rattle.std.specs.Prelude.{ℕ, Option, Some, None}
use Rattle.il_base.specs.declared.cil_values.frame.Reason.{Reason}
use Rattle.il_base.specs.declared.cil_values.frame.Reason.TheVariants.{Caught as caught, Leaving as leaving, Unwinding as unwinding}
use Rattle.rules.specs.step_rules.Throws.{Placed}
use Rattle.machine_frames.specs.declared.cil_throws.innermost.Best as code

-- the exception that entered a handler; None for what no catch clause took
abbrev pub exception_of : Option Reason → Option ℕ
exception_of None = None
exception_of (Some (caught a)) = Some a
exception_of (Some (leaving ns to)) = None
exception_of (Some (unwinding u)) = None

-- a clause with its place
abbrev pub placed_by : code.Best → Placed
placed_by b = record { place = b.place; clause = b.clause.now }

abbrev pub best_by : Option code.Best → Option Placed
best_by None = None
best_by (Some b) = Some (placed_by b)
