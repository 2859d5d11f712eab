use Rattle.std.proofs.Common.{◌≡◌, ◌++◌, drop}
use Rattle.std.specs.List.{flat_map}
use Rattle.il_base.specs.declared.world_model.world.Home.{Home}
use Rattle.marking.specs.Starting.{core_fact}
use Rattle.marking.proofs.starts.add_core.Given as goal

abbrev pub invariant-loop-home : goal.invariant-loop-home
invariant-loop-home l =
    l.facts ++ flat_map (λ (h : Home). core_fact l.world.recs h.item) (drop l.home-index l.world.homes) ≡ l.initial.facts ++ flat_map (λ (h : Home). core_fact l.world.recs h.item) l.world.homes
