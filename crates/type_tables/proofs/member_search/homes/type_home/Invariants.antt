use Rattle.std.proofs.Common.{◌≡◌, drop}
use Rattle.il_base.specs.world_model.Worlds.{types_in}
use Rattle.rules.specs.link_rules.Members.{home_from}
use Rattle.type_tables.proofs.member_search.homes.type_home.Given as goal

abbrev pub invariant-loop-a : goal.invariant-loop-a
invariant-loop-a l = home_from types_in l.a (drop l.a l.all) l.left ≡ home_from types_in 0 l.all l.fn.id.0
