use Rattle.std.proofs.Common.{◌≡◌, drop}
use Rattle.rules.specs.link_rules.Members.{home_from, methods_in}
use Rattle.type_tables.proofs.methods.method_home.Given as goal

abbrev pub invariant-loop-a : goal.invariant-loop-a
invariant-loop-a l = home_from methods_in l.a (drop l.a l.all) l.left ≡ home_from methods_in 0 l.all l.fn.id.0
