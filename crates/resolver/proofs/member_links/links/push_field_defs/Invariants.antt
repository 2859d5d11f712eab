use Rattle.std.proofs.Common.{◌≡◌, ◌++◌, map}
use Rattle.std.specs.List.{range_with_len}
use Rattle.rules.specs.link_rules.Members.{field_def_use}
use Rattle.rules.specs.link_rules.Linked.{field_link}
use Rattle.resolver.proofs.member_links.links.push_field_defs.Given as goal

abbrev pub invariant-loop-k : goal.invariant-loop-k
invariant-loop-k l =
    l.links.items ≡ l.initial.links.items ++ map (λ k. field_link l.scope.asm 0x04 k (field_def_use l.scope.linked.all.now l.scope.asm l.scope.rec.now k)) (range_with_len 0 l.k)
