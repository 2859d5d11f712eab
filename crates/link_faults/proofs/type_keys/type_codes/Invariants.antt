use Rattle.std.proofs.Common.{◌≡◌, ◌++◌, Some, drop}
use Rattle.rules.specs.link_rules.Types.{encloser}
use Rattle.rules.specs.link_rules.Cycles.{listed}
use Rattle.rules.specs.link_rules.Faults.{numbered}
use Rattle.link_faults.specs.Keys.{code_of_type}
use Rattle.link_faults.proofs.type_keys.type_codes.Given as goal

abbrev pub invariant-loop-at : goal.invariant-loop-at
invariant-loop-at l =
    l.codes.items ++ numbered (λ k t. Some (code_of_type (listed (encloser l.rec k)) t)) l.at (drop l.at l.row-items)
    ≡ numbered (λ k t. Some (code_of_type (listed (encloser l.rec k)) t)) 0 l.row-items
