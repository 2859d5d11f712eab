use Rattle.std.proofs.Common.{◌≡◌, List, subst, ap, ◌∙◌}
use Rattle.std.specs.Prelude.{slice_get}
use Rattle.il_base.specs.declared.world_model.world.World.{World}
use Rattle.cil_world.specs.declared.world_layouts.kinds.TypeKind.{TypeKind}
use Rattle.cil_world.specs.world_layouts.Kinds.{kinds_from}
use Rattle.cil_world.proofs.lemmas.world_layouts.Kept.{kept}
use Rattle.cil_world.proofs.world_layouts.layouts.Layouts.kind.Goals as goal

pub returns : goal.returns
returns c =
    let made : c.self.inside.kinds.items ≡ kinds_from c.args.self.now.recs 0 c.args.self.now.recs =
    subst (λ (w : World). c.self.inside.kinds.items ≡ kinds_from w.recs 0 w.recs) c.self.view_is c.self.invariant in
    c.kind_in.ensures ∙ ap (λ (kinds : List TypeKind). slice_get kinds c.args.ty.0) (c.deref.ensures.value ∙ made) ∙ kept c.args.self.now.recs c.args.ty
