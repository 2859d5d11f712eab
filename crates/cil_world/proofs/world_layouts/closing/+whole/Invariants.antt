use Rattle.std.proofs.Common.{◌≡◌, drop}
use Rattle.std.specs.List.{list_all}
use Rattle.rules.specs.step_rules.Closing.{standing, is_whole}
use Rattle.rules.specs.view_rules.Methods.{head_query}
use Rattle.cil_world.proofs.world_layouts.closing.+whole.Given as goal

abbrev pub invariant-are_whole-loop-one : goal.invariant-are_whole-loop-one
invariant-are_whole-loop-one l =
    list_all (λ e. is_whole (standing (head_query l.definitions.recs) e)) (drop l.one-index l.types) ≡ list_all (λ e. is_whole (standing (head_query l.definitions.recs) e)) l.types
