use Rattle.std.proofs.Common.{◌≡◌}
use Rattle.rules.specs.link_rules.Members.{own_args}
use Rattle.type_tables.proofs.member_search.own_types.own_args.Given as goal

abbrev pub invariant-loop-k : goal.invariant-loop-k
invariant-loop-k l = l.args ≡ own_args l.k
