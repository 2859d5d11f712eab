use Rattle.std.proofs.Common.{ap, ◌∙◌}
use Rattle.il_base.specs.declared.cil_values.core_call.CoreCall.{CoreCall}
use Rattle.rules.specs.step_rules.Core.{with_result}
use Rattle.cil_core.proofs.resuming.with_result.Goals as goal

pub returns-in-AreEqual : goal.returns-in-AreEqual
returns-in-AreEqual g c = record {
  gives = λ give.
      ap (λ (k : CoreCall). with_result k (g.Q.Answers.queries c.args.q.now) c.args.args.now c.args.v c.args.st.now give) c.in-AreEqual.is
      ∙ c.equal_result.ensures.gives (g.Q.Answers.queries c.args.q.now) c.args.args.now c.args.printed.now.items give c.requires;
  frames = c.equal_result.ensures.frames;
}
