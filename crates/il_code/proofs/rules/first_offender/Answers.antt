use Rattle.std.proofs.Common.{sym, ◌∙◌, false, get_or, arith}
use Rattle.il_base.specs.body_grammar.HandlerRules.{offender}
use Rattle.il_code.proofs.RuleLoops.{offends_alone, offends_pair, keeps_both, offends_none}
use Rattle.il_code.proofs.rules.first_offender.Goals as goal
use Rattle.il_code.proofs.rules.first_offender.Goals.{then-i-misfit-via-then-i-misfit, then-i-misfit-via-else-i-misfit+then-not-is_clause}

pub returns-then-i-misfit-clause-exact : goal.returns-then-i-misfit-clause-exact
returns-then-i-misfit-clause-exact c =
    let all = c.args.all.now in
    let total = offender (λ k. get_or c.args.starts.now k false) c.args.size all in
    elim c.then-i-misfit.branch [
      | then-i-misfit-via-then-i-misfit w ↦ offends_pair (λ k. get_or c.args.starts.now k false) c.args.size all c.loop-i.i c.args.misfit c.requires c.loop-i-test.true total c.loop-i.invariant.rest w.if-i-misfit.true
      | then-i-misfit-via-else-i-misfit+then-not-is_clause w ↦
          offends_alone (λ k. get_or c.args.starts.now k false) c.args.size all c.loop-i.i c.args.misfit c.requires c.loop-i-test.true total c.loop-i.invariant.rest (sym w.is_clause.ensures ∙ w.if-not-is_clause.true)
    ]

pub loop-i-preserved : goal.loop-i-preserved
loop-i-preserved c =
    let all = c.args.all.now in
    let total = offender (λ k. get_or c.args.starts.now k false) c.args.size all in
    record {
      rest = keeps_both (λ k. get_or c.args.starts.now k false) c.args.size all c.loop-i.i c.args.misfit c.requires c.loop-i-test.true total c.loop-i.invariant.rest c.loop-i.invariant.before c.if-i-misfit.false
          (sym c.is_clause.ensures ∙ c.if-not-is_clause.false);
      before = let le = c.loop-i.invariant.before in omega (arith, c.if-i-misfit.false);
    }

pub returns-clause-exact : goal.returns-clause-exact
returns-clause-exact c = sym (offends_none (λ k. get_or c.args.starts.now k false) c.args.size c.args.all.now c.loop-i.i c.loop-i-test.false) ∙ c.loop-i.invariant.rest
