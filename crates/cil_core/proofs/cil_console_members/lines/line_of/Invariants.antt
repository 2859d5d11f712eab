use Rattle.std.proofs.Common.{◌≡◌, length}
use Rattle.rules.specs.step_rules.CoreConsole.{line_of}
use Rattle.cil_core.specs.cil_console_members.Lines.{before_line}
use Rattle.cil_core.proofs.cil_console_members.lines.line_of.Given as goal

abbrev pub invariant-loop-unit : goal.invariant-loop-unit
invariant-loop-unit l = before_line l.units (line_of l.input) ≡ line_of l.fn.input

abbrev pub decreases-loop-unit : goal.decreases-loop-unit
decreases-loop-unit l = length l.input
