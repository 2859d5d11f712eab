use Rattle.std.proofs.Common.{◌≡◌, ◌++◌, drop}
use Rattle.std.specs.List.{flat_map}
use Rattle.rules.specs.mark_rules.Roots.{keeps_method}
use Rattle.mark_members.proofs.mark_whole.methods.keep_methods.Given as goal

abbrev pub invariant-loop-m : goal.invariant-loop-m
invariant-loop-m l = l.facts ++ flat_map (keeps_method l.all l.t) (drop l.m-index l.rows) ≡ l.initial.facts ++ flat_map (keeps_method l.all l.t) l.rows
