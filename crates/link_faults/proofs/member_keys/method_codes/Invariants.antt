use Rattle.std.proofs.Common.{◌≡◌, ◌++◌, drop}
use Rattle.rules.specs.link_rules.Faults.{numbered}
use Rattle.link_faults.specs.declared.owners.Member.TheVariants as member
use Rattle.link_faults.specs.Keys.{owner_in, code_of_method}
use Rattle.link_faults.proofs.member_keys.method_codes.Given as goal

abbrev pub invariant-loop-at : goal.invariant-loop-at
invariant-loop-at l =
    l.codes.items ++ numbered (λ k row. code_of_method l.scope.all.now l.scope.links.now l.asm.0 (owner_in member.Method l.rec k) row) l.at (drop l.at l.row-items)
    ≡ numbered (λ k row. code_of_method l.scope.all.now l.scope.links.now l.asm.0 (owner_in member.Method l.rec k) row) 0 l.row-items
