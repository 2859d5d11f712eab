use Rattle.std.proofs.Common.{◌≡◌, drop}
use Rattle.rules.specs.link_rules.Types.{forwarder_in}
use Rattle.resolver.proofs.core_names.forwarding.forwarder_in.Given as goal

abbrev pub invariant-loop-row : goal.invariant-loop-row
invariant-loop-row l = forwarder_in l.namespace l.name (drop l.row-index l.rows) ≡ forwarder_in l.namespace l.name l.rows
