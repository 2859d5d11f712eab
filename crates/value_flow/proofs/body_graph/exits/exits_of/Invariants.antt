use Rattle.std.proofs.Common.{◌≡◌, ◌++◌, drop}
use Rattle.rules.specs.flow_rules.Exits.{exits_from}
use Rattle.value_flow.specs.body_graph.Methods.{setting_in}
use Rattle.value_flow.proofs.body_graph.exits.exits_of.Given as goal

abbrev pub invariant-loop-k : goal.invariant-loop-k
invariant-loop-k l =
    l.exits ++ exits_from l.m.world.now.recs (setting_in l.m) l.k (drop l.k l.m.body.now.code) ≡ exits_from l.m.world.now.recs (setting_in l.m) 0 l.m.body.now.code
