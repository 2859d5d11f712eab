use Rattle.std.proofs.Common.{◌≡◌, ◌++◌, drop}
use Rattle.rules.specs.link_rules.Linked.{homes_from}
use Rattle.resolver.specs.Kinds.{count_in, item_of, table_of}
use Rattle.resolver.proofs.homes.add_kind.Given as goal

abbrev pub invariant-loop-rec : goal.invariant-loop-rec
invariant-loop-rec l =
    l.homes ++ homes_from (count_in l.kind) (item_of l.kind) (table_of l.kind) l.asm l.before (drop l.rec-index l.all)
    ≡ l.initial.homes ++ homes_from (count_in l.kind) (item_of l.kind) (table_of l.kind) 0 0 l.all
