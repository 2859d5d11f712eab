use Rattle.std.proofs.Common.{◌≡◌, ◌-◌, length}
use Rattle.rules.specs.link_rules.Types.{ends_at}
use Rattle.rules.specs.link_rules.CoreNames.{is_last}
use Rattle.resolver.proofs.core_names.forwarding.ends_last.Given as goal

abbrev pub invariant-loop : goal.invariant-loop
invariant-loop l =
    is_last l.all (ends_at l.all (length l.all - l.counter) l.namespace l.name l.at) ≡ is_last l.all (ends_at l.all (length l.all) l.namespace l.name l.from)
