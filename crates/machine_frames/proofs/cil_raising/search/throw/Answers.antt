use Rattle.std.proofs.Common.{◌≡◌, ℕ, ◌+◌, ◌≤◌, List, [], ◌∷◌, Option, length, drop, refl, sym, ap, subst, ◌∙◌, arith}
use Rattle.std.specs.Prelude.{IfOk}
use Rattle.il_base.specs.declared.core_table.names.CoreName.{CoreName}
use Rattle.il_base.specs.declared.cil_values.state.State.{State}
use Rattle.il_base.specs.declared.cil_values.frame.Frame.{Frame}
use Rattle.rules.specs.step_rules.Next.{Next}
use Rattle.rules.specs.step_rules.Raising.{passed_on, unwind}
use Rattle.machine_words.specs.cil_words.Steps.{next_of}
use Rattle.machine_frames.specs.cil_raising.Searches.{search_on}
use Rattle.machine_frames.proofs.lemmas.cil_raising.Ways.{ends}
use Rattle.machine_frames.proofs.lemmas.cil_raising.Searching.{search_begins, search_ends, at_bad, at_clause, at_none}
use Rattle.machine_frames.proofs.cil_raising.search.throw.Goals as goal

pub loop-k-init : goal.loop-k-init
loop-k-init g c = record {
  here = ap (λ (ns : List ℕ). search_on (g.Q.Answers.queries c.args.q.now) c.args.a c.args.a ns c.args.st.now (c.args.st.now.top ∷ c.args.st.now.below)) c.new-later.ensures ∙ search_begins (g.Q.Answers.queries c.args.q.now) c.args.a c.args.st.now;
  count = omega arith;
}

pub returns-in-Ok-BadClause : goal.returns-in-Ok-BadClause
returns-in-Ok-BadClause g c =
    let q = g.Q.Answers.queries c.args.q.now in
    ends _ _ _ c.stopped.ensures
    ∙ sym (at_bad q c.args.a c.loop-k.thrown c.loop-k.later c.loop-k.st c.loop-k.k (c.loop-k.st.top ∷ c.loop-k.st.below) c.in-Some.f.now c.in-Some.ensures (rw c.in-Ok-BadClause.field-0-is at c.in-Ok-BadClause.ensures))
    ∙ c.loop-k.invariant.here

pub returns-in-Ok-ByClause : goal.returns-in-Ok-ByClause
returns-in-Ok-ByClause g c =
    let q = g.Q.Answers.queries c.args.q.now in
    subst (λ (x : Next). IfOk c.unwind.result (λ out. next_of out c.unwind.new.st [] ≡ x))
    (ap (λ u. unwind q u c.loop-k.st) (sym (c.in_ok-u-in-Ok-ByClause.ensures c.in-Some.f.now refl))
    ∙ sym (at_clause q c.args.a c.loop-k.thrown c.loop-k.later c.loop-k.st c.loop-k.k (c.loop-k.st.top ∷ c.loop-k.st.below) c.in-Some.f.now c.in-Some.ensures c.in-Ok-ByClause.n (rw c.in-Ok-ByClause.field-0-is at c.in-Ok-ByClause.ensures))
    ∙ c.loop-k.invariant.here)
    c.unwind.ensures

pub loop-k-preserved : goal.loop-k-preserved
loop-k-preserved g c =
    let q = g.Q.Answers.queries c.args.q.now in
    let frames : List Frame = c.loop-k.st.top ∷ c.loop-k.st.below in
    let nothing = rw c.in-Ok-Nothing.field-0-is at c.in-Ok-Nothing.ensures in
    let f : ℕ → List ℕ → State → Next = λ b all t. search_on q c.args.a b all t (drop (c.loop-k.k + 1) frames) in
    record {
      here =
          (λ i. search_on q c.args.a c.in_ok-thrown.thrown c.passed_on.new.later c.passed_on.new.st (drop (c.loop-k.k + 1) (c.in_ok-thrown.ensures.frames.0 i ∷ c.in_ok-thrown.ensures.frames.1 i)))
          ∙ sym (c.in_ok-thrown.ensures.next f)
          ∙ ap (λ (o : Option CoreName). passed_on q o c.loop-k.thrown c.loop-k.later c.loop-k.st f) c.wrapper-outside.ensures
          ∙ sym (at_none q c.args.a c.loop-k.thrown c.loop-k.later c.loop-k.st c.loop-k.k frames c.in-Some.f.now c.in-Some.ensures nothing)
          ∙ c.loop-k.invariant.here;
      count = c.loop-k.invariant.count ∙ ap (λ (fs : List Frame). length fs + 1) (sym c.in_ok-thrown.ensures.frames.1);
    }

pub returns : goal.returns
returns g c =
    let q = g.Q.Answers.queries c.args.q.now in
    let past : length (c.loop-k.st.top ∷ c.loop-k.st.below) ≤ c.loop-k.k = omega (arith, c.loop-k.invariant.count) in
    subst (λ (x : Next). IfOk c.threw.result (λ out. next_of out c.loop-k.st [] ≡ x))
    (sym (search_ends q c.args.a c.loop-k.thrown c.loop-k.later c.loop-k.st c.loop-k.k (c.loop-k.st.top ∷ c.loop-k.st.below) past) ∙ c.loop-k.invariant.here)
    c.threw.ensures
