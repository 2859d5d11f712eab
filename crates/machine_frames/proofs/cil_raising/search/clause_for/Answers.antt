use Rattle.std.proofs.Common.{◌≡◌, ◌+◌, ◌<◌, ◌≤◌, List, length, drop, get_or, sym, ap, ◌∙◌, arith}
use Rattle.il_base.specs.declared.cil_values.resolved.Clause.{Clause}
use Rattle.rules.specs.step_rules.Words.{here_in}
use Rattle.rules.specs.step_rules.Raising.{clause_for}
use Rattle.machine_frames.specs.cil_raising.Searches.{look_by}
use Rattle.machine_frames.proofs.lemmas.cil_raising.Catching.{past_all, around, not_around}
use Rattle.machine_frames.proofs.cil_raising.search.clause_for.Goals as goal
use Rattle.machine_frames.proofs.cil_raising.search.clause_for.Goals.{then-is_around+in-Ok-Passes, else-is_around}

pub returns-in-Ok-Bad : goal.returns-in-Ok-Bad
returns-in-Ok-Bad g c =
    let q = g.Q.Answers.queries c.args.q.now in
    let here = here_in c.args.f.now c.args.body.now.method.now c.args.body.now.code.now in
    let cs = c.args.body.now.code.now.clauses in
    let x = c.index-clauses-n.result in
    let n = c.loop-n.n in
    let same : c.as_slice-clauses.result.now ≡ cs = c.as_slice-clauses.ensures in
    let within : n < length cs = omega (arith, ap length same) in
    let is : x ≡ get_or cs n x = c.index-clauses-n.is ∙ ap (λ (xs : List Clause). get_or xs n x) same in
    let rest = clause_for q here c.args.st.now c.args.a c.args.f.now.at (n + 1) (drop (n + 1) cs) in
    sym (ap (λ l. look_by l n rest) c.in-Ok-Bad.field-0-is) ∙ sym (c.in-Ok-Bad.ensures n rest)
    ∙ sym (around q here c.args.st.now c.args.a c.args.f.now.at cs n x within is (sym c.is_around.ensures ∙ c.if-is_around.true))
    ∙ c.loop-n.invariant

pub returns-in-Ok-Catches : goal.returns-in-Ok-Catches
returns-in-Ok-Catches g c =
    let q = g.Q.Answers.queries c.args.q.now in
    let here = here_in c.args.f.now c.args.body.now.method.now c.args.body.now.code.now in
    let cs = c.args.body.now.code.now.clauses in
    let x = c.index-clauses-n.result in
    let n = c.loop-n.n in
    let same : c.as_slice-clauses.result.now ≡ cs = c.as_slice-clauses.ensures in
    let within : n < length cs = omega (arith, ap length same) in
    let is : x ≡ get_or cs n x = c.index-clauses-n.is ∙ ap (λ (xs : List Clause). get_or xs n x) same in
    let rest = clause_for q here c.args.st.now c.args.a c.args.f.now.at (n + 1) (drop (n + 1) cs) in
    sym (ap (λ l. look_by l n rest) c.in-Ok-Catches.field-0-is) ∙ sym (c.in-Ok-Catches.ensures n rest)
    ∙ sym (around q here c.args.st.now c.args.a c.args.f.now.at cs n x within is (sym c.is_around.ensures ∙ c.if-is_around.true))
    ∙ c.loop-n.invariant

pub loop-n-preserved : goal.loop-n-preserved
loop-n-preserved g c =
    let q = g.Q.Answers.queries c.args.q.now in
    let here = here_in c.args.f.now c.args.body.now.method.now c.args.body.now.code.now in
    let cs = c.args.body.now.code.now.clauses in
    let x = c.index-clauses-n.result in
    let n = c.loop-n.n in
    let same : c.as_slice-clauses.result.now ≡ cs = c.as_slice-clauses.ensures in
    let within : n < length cs = omega (arith, ap length same) in
    let is : x ≡ get_or cs n x = c.index-clauses-n.is ∙ ap (λ (xs : List Clause). get_or xs n x) same in
    let rest = clause_for q here c.args.st.now c.args.a c.args.f.now.at (n + 1) (drop (n + 1) cs) in
    elim c.if-is_around.branch [
      | then-is_around+in-Ok-Passes w ↦
          sym (ap (λ l. look_by l n rest) w.in-Ok-Passes.field-0-is) ∙ sym (w.in-Ok-Passes.ensures n rest)
          ∙ sym (around q here c.args.st.now c.args.a c.args.f.now.at cs n x within is (sym c.is_around.ensures ∙ w.if-is_around.true))
          ∙ c.loop-n.invariant
      | else-is_around w ↦
          sym (not_around q here c.args.st.now c.args.a c.args.f.now.at cs n x within is (sym c.is_around.ensures ∙ w.if-is_around.false))
          ∙ c.loop-n.invariant
    ]

pub returns : goal.returns
returns g c =
    let q = g.Q.Answers.queries c.args.q.now in
    let here = here_in c.args.f.now c.args.body.now.method.now c.args.body.now.code.now in
    let cs = c.args.body.now.code.now.clauses in
    let same : c.as_slice-clauses.result.now ≡ cs = c.as_slice-clauses.ensures in
    let past : length cs ≤ c.loop-n.n = omega (arith, ap length same) in
    sym (past_all q here c.args.st.now c.args.a c.args.f.now.at cs c.loop-n.n past) ∙ c.loop-n.invariant
