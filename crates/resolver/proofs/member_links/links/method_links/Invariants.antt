use Rattle.std.proofs.Common.{◌≡◌, ◌++◌, drop}
use Rattle.rules.specs.link_rules.Linked.{methods_of, links_from}
use Rattle.resolver.proofs.member_links.links.method_links.Given as goal

abbrev pub invariant-loop-a : goal.invariant-loop-a
invariant-loop-a l = l.methods.items ++ links_from (methods_of l.all) l.a (drop l.a l.all) ≡ links_from (methods_of l.all) 0 l.all
