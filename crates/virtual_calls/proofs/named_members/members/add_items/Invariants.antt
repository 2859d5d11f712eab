use Rattle.std.proofs.Common.{◌≡◌, ◌++◌, drop}
use Rattle.rules.specs.type_rules.Searches.{items_of}
use Rattle.virtual_calls.proofs.named_members.members.add_items.Given as goal

abbrev pub invariant-loop-m : goal.invariant-loop-m
invariant-loop-m l = l.items ++ items_of (drop l.m-index l.members) ≡ l.initial.items ++ items_of l.members
