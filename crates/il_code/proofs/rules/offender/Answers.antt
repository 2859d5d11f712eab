use Rattle.std.proofs.Common.{sym, ◌∙◌}
use Rattle.il_base.specs.body_grammar.HandlerRules.{is_start}
use Rattle.il_code.proofs.RuleLoops.{none_offends, by_flags}
use Rattle.il_code.proofs.rules.offender.Goals as goal

pub returns-then-is_empty-clause-exact : goal.returns-then-is_empty-clause-exact
returns-then-is_empty-clause-exact c = none_offends (is_start c.args.code.now c.args.size) c.args.size c.args.all.now (sym c.is_empty.ensures ∙ c.if-is_empty.true)

pub returns-clause-exact : goal.returns-clause-exact
returns-clause-exact c =
    c.first_offender.ensures.exact
    ∙ by_flags c.deref.result.now c.in_ok-starts.starts.items (is_start c.args.code.now c.args.size) c.args.size c.args.all.now c.deref.ensures.value c.in_ok-starts.ensures
