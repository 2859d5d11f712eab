use Rattle.std.proofs.Common.{◌∙◌}
use Rattle.il_base.proofs.lemmas.core_table.Places.{found_here}
use Rattle.il_base.proofs.core_table.kinds.member_in.Goals as goal

pub returns-then-left-methods : goal.returns-then-left-methods
returns-then-left-methods c =
    found_here c.args.types.now c.loop-ty.ty-index c.loop-ty.left _ c.methods-methods.result.now c.owned.result
    c.loop-ty-test.true c.methods-methods.ensures.value c.if-left-methods.true c.owned.ensures
    ∙ c.loop-ty.invariant
