use Rattle.std.proofs.Common.{◌≡◌, ◌++◌, take}
use Rattle.rules.specs.link_rules.Faults.{numbered}
use Rattle.base_laws.specs.link_laws.Parts.{spec_link}
use Rattle.resolver.proofs.type_links.links.push_specs.Given as goal

abbrev pub invariant-loop-k : goal.invariant-loop-k
invariant-loop-k l = l.links.items ≡ l.initial.links.items ++ numbered (spec_link l.all l.a l.rec) 0 (take l.k l.row-items)
