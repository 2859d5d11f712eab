use Rattle.std.proofs.Common.{◌≡◌}
use Rattle.std.specs.Prelude.{None}
use Rattle.value_flow.specs.stack_depths.Search.{depth_in}
use Rattle.value_flow.proofs.lemmas.stack_depths.Entering.{enters_new}
use Rattle.value_flow.proofs.stack_depths.search.Search.enter.Goals as goal

pub returns-in_ok-push-in-None : goal.returns-in_ok-push-in-None
returns-in_ok-push-in-None c =
    let none : depth_in c.args.self.now c.args.to ≡ None = cc (c.in-None.ensures) in
    rw (c.set.ensures, c.in_ok-push-in-None.ensures.ok) (enters_new c.args.self.now.found c.args.self.now.todo c.args.to c.args.depth c.requires none)
