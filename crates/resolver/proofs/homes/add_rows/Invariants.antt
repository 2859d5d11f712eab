use Rattle.std.proofs.Common.{◌≡◌, ◌++◌, map}
use Rattle.std.specs.List.{range_with_len}
use Rattle.rules.specs.link_rules.Linked.{home}
use Rattle.resolver.specs.Kinds.{item_of, table_of}
use Rattle.resolver.proofs.homes.add_rows.Given as goal

abbrev pub invariant-loop-row : goal.invariant-loop-row
invariant-loop-row l = l.homes ≡ l.initial.homes ++ map (home (item_of l.kind) l.asm (table_of l.kind) l.before) (range_with_len 0 l.row)
