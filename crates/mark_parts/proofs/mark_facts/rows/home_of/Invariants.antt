use Rattle.std.proofs.Common.{◌≡◌, drop}
use Rattle.rules.specs.link_rules.Members.{home_from}
use Rattle.mark_parts.specs.mark_facts.Kinds.{count_in}
use Rattle.mark_parts.proofs.mark_facts.rows.home_of.Given as goal

abbrev pub invariant-loop-a : goal.invariant-loop-a
invariant-loop-a l = home_from (count_in l.kind) l.a (drop l.a l.all) l.left ≡ home_from (count_in l.kind) 0 l.all l.fn.number
