use Rattle.std.proofs.Common.{◌≡◌, ℕ, ◌+◌, drop}
use Rattle.std.specs.Prelude.{nat_eq, unwrap_or}
use Rattle.std.specs.HashMap.{get}
use Rattle.std.specs.List.{count_by}
use Rattle.rules.specs.link_rules.Members.{is_param_of}
use Rattle.type_tables.proofs.member_search.params.ParamCounts.of.Given as goal

abbrev pub invariant-loop-row : goal.invariant-loop-row
invariant-loop-row l = (token : ℕ) →
    unwrap_or (get nat_eq l.counts token) 0 + count_by (is_param_of token) (drop l.row-index l.row-items) ≡ count_by (is_param_of token) l.row-items
