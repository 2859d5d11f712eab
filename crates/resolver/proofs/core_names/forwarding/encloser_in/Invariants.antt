use Rattle.std.proofs.Common.{◌≡◌, drop}
use Rattle.rules.specs.link_rules.Types.{encloser_in}
use Rattle.resolver.proofs.core_names.forwarding.encloser_in.Given as goal

abbrev pub invariant-loop-row : goal.invariant-loop-row
invariant-loop-row l = encloser_in l.token (drop l.row-index l.rows) ≡ encloser_in l.token l.rows
