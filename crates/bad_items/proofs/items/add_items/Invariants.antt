use Rattle.std.proofs.Common.{◌≡◌, ◌++◌, drop}
use Rattle.std.specs.List.{flat_map}
use Rattle.il_base.specs.declared.world_model.world.Home.{Home}
use Rattle.base_laws.specs.flaw_laws.Listed.{item_flaws}
use Rattle.bad_items.specs.Programs.{recs_in, has}
use Rattle.bad_items.proofs.items.add_items.Given as goal

abbrev pub invariant-loop-home : goal.invariant-loop-home
invariant-loop-home l =
    l.flaws ++ flat_map (λ (h : Home). item_flaws (recs_in l.program) (has l.program) h.item) (drop l.home-index l.home-items)
    ≡ l.initial.flaws ++ flat_map (λ (h : Home). item_flaws (recs_in l.program) (has l.program) h.item) l.home-items
