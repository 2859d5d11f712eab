-- Lines of the input, as the code takes them.
use Rattle.std.specs.Prelude.{ℕ, List, ◌++◌}
use Rattle.rules.specs.step_rules.CoreConsole.{Line}
use Rattle.cil_core.specs.declared.cil_console_members.lines.Line.{Line as taken}

-- a line that was taken, and what is left of the input
abbrev pub line_with : taken → List ℕ → Line
line_with l rest = record { units = l.units; rest = rest; ends = l.ends }

-- with units before it
abbrev pub before_line : List ℕ → Line → Line
before_line us l = record l { units = us ++ l.units }
