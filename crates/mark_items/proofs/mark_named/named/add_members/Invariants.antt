use Rattle.std.proofs.Common.{◌≡◌, ◌++◌, drop}
use Rattle.std.specs.List.{flat_map}
use Rattle.rules.specs.mark_rules.Attributes.{named_member}
use Rattle.mark_parts.specs.mark_tables.Assemblies.{all_of}
use Rattle.mark_items.proofs.mark_named.named.add_members.Given as goal

abbrev pub invariant-loop-n : goal.invariant-loop-n
invariant-loop-n l = l.facts ++ flat_map (named_member (all_of l.marker) l.owner) (drop l.n-index l.named) ≡ l.initial.facts ++ flat_map (named_member (all_of l.marker) l.owner) l.named
