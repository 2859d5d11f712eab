use Rattle.std.proofs.Common.{◌≡◌, take}
use Rattle.rules.specs.step_rules.Stores.{zeros_of}
use Rattle.machine_words.proofs.cil_stores.zeros.zeros_of.Given as goal

abbrev pub invariant-loop-cell : goal.invariant-loop-cell
invariant-loop-cell l = l.zeros.items ≡ zeros_of (take l.cell-index l.cells)
