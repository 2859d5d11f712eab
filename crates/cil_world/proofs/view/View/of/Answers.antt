use Rattle.std.proofs.Common.{◌≡◌, sym, subst, ◌∙◌}
use Rattle.il_base.specs.declared.world_model.world.World.{World}
use Rattle.cil_world.specs.Kept.{AreKept}
use Rattle.cil_world.proofs.view.View.of.Goals as goal

pub invariant_of-result : goal.invariant_of-result
invariant_of-result c =
    let same : c.in_ok-types.types ≡ c.in_ok-layouts.layouts = c.in_ok-types.ensures ∙ sym (c.in_ok-layouts.ensures ∙ c.in_ok-definitions.ensures) in
    (same, subst (λ (w : World). AreKept w.recs c.in_ok-kept.kept.items) (sym same) c.in_ok-kept.ensures)
