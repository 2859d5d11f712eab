use Rattle.std.proofs.Common.{◌≡◌, ℕ, ◌≤◌, refl, ap, ◌∙◌, subst}
use Rattle.value_flow.specs.body_graph.Methods.{setting_in}
use Rattle.rules.specs.flow_rules.Flows.{slots_of, most_work, work_of}
use Rattle.value_flow.proofs.Ending.{work_is, flow_exactly}
use Rattle.value_flow.proofs.flow.Flow.of_method.Goals as goal

pub returns-then-found-gt-MOST_WORK : goal.returns-then-found-gt-MOST_WORK
returns-then-found-gt-MOST_WORK c = (
  c.if-found-gt-MOST_WORK.true,
  work_is c.args.m.now.world.now.recs (setting_in c.args.m.now) c.args.owner c.args.graph.now.depths c.in-Ok-slots_of.slots c.in-Ok.sources c.work_of-found.result
      (c.in-Ok-slots_of.ensures ∙ ap (slots_of (setting_in c.args.m.now)) c.depths.ensures) c.in-Ok.ensures (rw (c.len.ensures, c.len-2.ensures) at c.work_of-found.ensures),
)

pub returns : goal.returns
returns c =
    let work : c.work_of-found.result ≡ work_of c.args.m.now.world.now.recs (setting_in c.args.m.now) c.args.owner c.args.graph.now.depths =
    work_is c.args.m.now.world.now.recs (setting_in c.args.m.now) c.args.owner c.args.graph.now.depths c.in-Ok-slots_of.slots c.in-Ok.sources c.work_of-found.result
    (c.in-Ok-slots_of.ensures ∙ ap (slots_of (setting_in c.args.m.now)) c.depths.ensures) c.in-Ok.ensures (rw (c.len.ensures, c.len-2.ensures) at c.work_of-found.ensures) in
    record {
      graph = refl;
      sources = c.in-Ok.ensures;
      within = subst (λ (n : ℕ). n ≤ most_work) work c.if-found-gt-MOST_WORK.false;
      exact = flow_exactly c.args.m.now.world.now.recs (setting_in c.args.m.now) c.args.owner c.args.graph.now c.in-Ok-reached_of.reached c.requires.graph c.in-Ok-reached_of.ensures;
    }
