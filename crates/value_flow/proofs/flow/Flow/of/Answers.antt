use Rattle.std.proofs.Common.{◌≡◌, ap, ◌∙◌}
use Rattle.std.specs.Prelude.{Some, IfSome}
use Rattle.il_base.specs.declared.world_model.world.World.{World}
use Rattle.rules.specs.flow_rules.Methods.{setting_of}
use Rattle.value_flow.specs.body_graph.Methods.{setting_in}
use Rattle.value_flow.proofs.Ending.{graph_of}
use Rattle.value_flow.proofs.flow.Flow.of.Goals as goal

pub of_method-requires-clause-graph : goal.of_method-requires-clause-graph
of_method-requires-clause-graph c =
    let is : IfSome c.in-Ok-Some.field-0 (λ m. m.world.now ≡ c.world-world.result.now) = c.in-Ok-Some.ensures.same in
    let same : c.in-Ok-Some.method.world.now ≡ c.world-world.result.now = rw (c.in-Ok-Some.field-0-is) at is in
    let found : Some (setting_in c.in-Ok-Some.method) ≡ setting_of c.world-world.result.now.recs c.args.m = rw (c.in-Ok-Some.field-0-is) at c.in-Ok-Some.ensures.is in
    graph_of c.args.types.now.recs c.in-Ok-Some.method.world.now.recs c.args.m c.args.graph.now (setting_in c.in-Ok-Some.method)
    (ap (λ (w : World). w.recs) (same ∙ c.world-world.ensures)) (found ∙ ap (λ (w : World). setting_of w.recs c.args.m) c.world-world.ensures) c.requires.graph
