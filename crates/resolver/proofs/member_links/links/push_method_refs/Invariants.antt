use Rattle.std.proofs.Common.{◌≡◌, ◌++◌, drop}
use Rattle.rules.specs.link_rules.Faults.{numbered}
use Rattle.rules.specs.link_rules.Members.{method_ref_use}
use Rattle.rules.specs.link_rules.Linked.{method_link}
use Rattle.resolver.proofs.member_links.links.push_method_refs.Given as goal

abbrev pub invariant-loop-k : goal.invariant-loop-k
invariant-loop-k l =
    l.links.items ++ numbered (λ k row. method_link l.scope.asm 0x0a k (method_ref_use l.scope.linked.all.now l.scope.asm l.scope.rec.now row)) l.k (drop l.k l.row-items)
    ≡ l.initial.links.items ++ numbered (λ k row. method_link l.scope.asm 0x0a k (method_ref_use l.scope.linked.all.now l.scope.asm l.scope.rec.now row)) 0 l.row-items
