use Rattle.std.proofs.Common.{Ok, ◌-◌, ◌<◌, ◌≤◌, subst, arith}
use Rattle.rules.specs.step_rules.Step.{step}
use Rattle.rules.specs.step_rules.Run.{Outcome, run}
use Rattle.machine_words.specs.declared.cil_words.step_out.StepOut.{StepOut}
use Rattle.file_runs.specs.Steps.{TurnsTo}
use Rattle.file_runs.proofs.Turns.{Left, nothing_yet, grew_by_nothing, run_next, run_none, turn_goes_on, turn_ends, turn_fails, all_went, runs_out}
use Rattle.file_runs.proofs.running.steps.Goals as goal

pub loop-left-init : goal.loop-left-init
loop-left-init g c =
    let s = g.O.Sink.state c.args.out.now in
    nothing_yet (run (g.Q.Answers.queries c.args.q.now) c.args.n c.args.st.now) s (grew_by_nothing s.held)

pub loop-left-preserved : goal.loop-left-preserved
loop-left-preserved g c =
    let q = g.Q.Answers.queries c.args.q.now in
    let total = run q c.args.n c.args.st.now in
    let old = g.O.Sink.state c.args.out.now in
    let now = g.O.Sink.state c.loop-left.out in
    let s = c.quiet_steps.new.st in
    let some : 0 < c.loop-left.left = omega arith in
    let left = subst (λ (o : Outcome). Left total old now o) (run_next q c.loop-left.left c.in-Ok.made c.loop-left.st s some c.in-Ok.ensures.within c.in-Ok.ensures.steps) c.loop-left.invariant in
    turn_goes_on total old now (g.O.Sink.state c.turn.new.out) (step q s) c.turn.new.st (run q (c.loop-left.left - c.in-Ok.made - 1)) left (subst (λ (o : StepOut). TurnsTo (step q s) c.turn.new.st now (g.O.Sink.state c.turn.new.out) (Ok o)) c.in-Ok-Went.field-0-is c.in-Ok-Went.ensures)

pub returns-in-Ok-Over : goal.returns-in-Ok-Over
returns-in-Ok-Over g c =
    let q = g.Q.Answers.queries c.args.q.now in
    let total = run q c.args.n c.args.st.now in
    let old = g.O.Sink.state c.args.out.now in
    let now = g.O.Sink.state c.loop-left.out in
    let s = c.quiet_steps.new.st in
    let some : 0 < c.loop-left.left = omega arith in
    let left = subst (λ (o : Outcome). Left total old now o) (run_next q c.loop-left.left c.in-Ok.made c.loop-left.st s some c.in-Ok.ensures.within c.in-Ok.ensures.steps) c.loop-left.invariant in
    turn_ends total old now (g.O.Sink.state c.turn.new.out) (step q s) c.turn.new.st c.in-Ok-Over.end (run q (c.loop-left.left - c.in-Ok.made - 1)) left (subst (λ (o : StepOut). TurnsTo (step q s) c.turn.new.st now (g.O.Sink.state c.turn.new.out) (Ok o)) c.in-Ok-Over.field-0-is c.in-Ok-Over.ensures)

pub returns-in-Err : goal.returns-in-Err
returns-in-Err g c =
    let q = g.Q.Answers.queries c.args.q.now in
    runs_out (run q c.args.n c.args.st.now) (g.O.Sink.state c.args.out.now) (g.O.Sink.state c.loop-left.out) (run q c.loop-left.left c.loop-left.st) c.loop-left.invariant

pub returns-in-Err-turn : goal.returns-in-Err-turn
returns-in-Err-turn g c =
    let q = g.Q.Answers.queries c.args.q.now in
    let total = run q c.args.n c.args.st.now in
    let old = g.O.Sink.state c.args.out.now in
    let now = g.O.Sink.state c.loop-left.out in
    let s = c.quiet_steps.new.st in
    let some : 0 < c.loop-left.left = omega arith in
    let left = subst (λ (o : Outcome). Left total old now o) (run_next q c.loop-left.left c.in-Ok.made c.loop-left.st s some c.in-Ok.ensures.within c.in-Ok.ensures.steps) c.loop-left.invariant in
    turn_fails total old now (g.O.Sink.state c.turn.new.out) (step q s) c.turn.new.st c.in-Err-turn.fault (run q (c.loop-left.left - c.in-Ok.made - 1)) left c.in-Err-turn.ensures

pub returns : goal.returns
returns g c =
    let q = g.Q.Answers.queries c.args.q.now in
    let none : c.loop-left.left ≤ 0 = omega arith in
    all_went (run q c.args.n c.args.st.now) (g.O.Sink.state c.args.out.now) (g.O.Sink.state c.loop-left.out) (run q c.loop-left.left c.loop-left.st) (run_none q c.loop-left.left c.loop-left.st none) c.loop-left.invariant
