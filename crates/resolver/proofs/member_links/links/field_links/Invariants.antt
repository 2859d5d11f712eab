use Rattle.std.proofs.Common.{◌≡◌, ◌++◌, drop}
use Rattle.rules.specs.link_rules.Linked.{fields_of, links_from}
use Rattle.resolver.proofs.member_links.links.field_links.Given as goal

abbrev pub invariant-loop-a : goal.invariant-loop-a
invariant-loop-a l = l.fields.items ++ links_from (fields_of l.all) l.a (drop l.a l.all) ≡ links_from (fields_of l.all) 0 l.all
