use Rattle.std.proofs.Common.{◌≡◌, Some, refl, sym, ◌∙◌}
use Rattle.std.specs.Prelude.{slice_get}
use Rattle.std.proofs.lemmas.Option.{slice_get_read}
use Rattle.cil_world.proofs.lemmas.world_types.Answered.{answered_by}
use Rattle.cil_world.proofs.world_types.answered.answer_in.Goals as goal

pub returns-then-is_same : goal.returns-then-is_same
returns-then-is_same c = λ recs are.
    let here : slice_get c.args.answers.now c.loop-a.a-index ≡ Some c.a-item.result = slice_get_read c.args.answers.now _ c.loop-a.a-index c.a-item.result refl c.loop-a-test.true c.a-item.is in
    answered_by recs c.a-item.result c.args.ty c.args.owner.now c.args.method (are c.loop-a.a-index c.a-item.result here) c.if-a-ty.true (sym c.is_same.ensures ∙ c.if-is_same.true) c.if-a-method.true
