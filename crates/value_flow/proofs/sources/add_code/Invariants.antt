use Rattle.std.proofs.Common.{◌≡◌, drop}
use Rattle.std.specs.List.{flat_map}
use Rattle.rules.specs.link_rules.Cycles.{add_all}
use Rattle.rules.specs.flow_rules.Sources.{same_source}
use Rattle.rules.specs.flow_rules.Moves.{sources_by}
use Rattle.value_flow.specs.body_graph.Methods.{setting_in}
use Rattle.value_flow.proofs.sources.add_code.Given as goal

abbrev pub invariant-loop-i : goal.invariant-loop-i
invariant-loop-i l =
    add_all same_source l.sources (flat_map (sources_by l.m.world.now.recs (setting_in l.m) l.owner) (drop l.i-index l.m.body.now.code))
    ≡ add_all same_source l.initial.sources (flat_map (sources_by l.m.world.now.recs (setting_in l.m) l.owner) l.m.body.now.code)
