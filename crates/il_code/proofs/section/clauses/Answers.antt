use Rattle.std.proofs.Common.{ℕ, ◌+◌, ◌-◌, List, [], length, sym, ap, ap₂, ◌∙◌, arith}
use Rattle.std.proofs.lemmas.List.{length-append}
use Rattle.il_base.specs.declared.body.Handler.{Handler}
use Rattle.il_base.specs.body_grammar.Bodies as grammar
use Rattle.il_code.proofs.ClauseLoop.{ends, goes_on, is_done, next_place}
use Rattle.il_code.proofs.section.clauses.Goals as goal

pub returns-in-Err-clause-exact : goal.returns-in-Err-clause-exact
returns-in-Err-clause-exact c =
    ends c.args.count c.loop.counter c.args.fat c.loop.place c.args.bytes.now c.loop.handlers c.in-Err.fault
    (grammar.clauses_after c.args.count c.args.fat c.args.at c.args.bytes.now []) c.loop-test.true (sym c.in-Err.ensures.exact) c.loop.invariant.left

pub loop-preserved : goal.loop-preserved
loop-preserved c =
    let more = goes_on c.args.count c.loop.counter c.args.fat c.loop.place c.args.bytes.now c.loop.handlers c.in-Ok.handler
    (grammar.clauses_after c.args.count c.args.fat c.args.at c.args.bytes.now []) c.loop-test.true (sym c.in-Ok.ensures.exact) c.loop.invariant.left in
    let size = c.clause_size-place.ensures in
    let pushed = c.in_ok-push-in-Ok.ensures.ok in
    record {
      left = ap₂ (λ (place : ℕ) (before : List Handler). grammar.clauses_after (c.args.count - (c.loop.counter + 1)) c.args.fat place c.args.bytes.now before)
          (ap (λ (s : ℕ). c.loop.place + s) size) pushed ∙ more;
      read = ap length pushed ∙ simp (length-append) (omega arith);
      place = next_place c.args.at c.loop.counter (grammar.clause_size c.args.fat) c.loop.place c.clause_size-place.result size c.loop.invariant.place;
      within = omega (arith, c.in-Ok.ensures.within);
    }

pub returns-clause-exact : goal.returns-clause-exact
returns-clause-exact c =
    is_done c.args.count c.loop.counter c.args.fat c.loop.place c.args.bytes.now c.loop.handlers
    (grammar.clauses_after c.args.count c.args.fat c.args.at c.args.bytes.now []) c.loop-test.false c.loop.invariant.left
