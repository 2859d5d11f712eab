use Rattle.std.proofs.Common.{sym, ap, ◌∙◌, arith}
use Rattle.std.specs.Prelude.{bytes_eq}
use Rattle.std.specs.HashSet.{contains_by}
use Rattle.std.specs.List.{list_any}
use Rattle.link_faults.proofs.FirstMet.{met_first, met_passed, met_here, met_later}
use Rattle.link_faults.proofs.repeats.first_repeat.Goals as goal
use Rattle.link_faults.proofs.repeats.first_repeat.Goals.{in-Some+else-contains+in_ok-insert, in_default}

pub loop-at-init : goal.loop-at-init
loop-at-init c = met_first _ _ (λ code. ap (list_any (λ k. bytes_eq code k.now)) c.new-met.ensures.empty)

pub returns-then-contains : goal.returns-then-contains
returns-then-contains c =
    met_here (λ code. contains_by (λ k. bytes_eq code k.now) c.loop-at.met) (λ code. contains_by (λ k. bytes_eq code k.now) c.loop-at.met) c.args.codes.now c.loop-at.at c.index-codes-at.result _
    (omega arith) c.index-codes-at.is c.loop-at.invariant c.in-Some.code c.in-Some.is
    (rw (← c.as_slice-code.ensures) (sym c.contains.ensures ∙ c.if-contains.true))

pub loop-at-preserved : goal.loop-at-preserved
loop-at-preserved c =
    elim c.match-code.branch [
      | in-Some+else-contains+in_ok-insert w ↦
          met_later (λ code. contains_by (λ k. bytes_eq code k.now) c.loop-at.met) (λ code. contains_by (λ k. bytes_eq code k.now) c.match-code.met) c.args.codes.now c.loop-at.at c.index-codes-at.result _
          (omega arith) c.index-codes-at.is c.loop-at.invariant w.in-Some.code w.in-Some.is
          (rw (← w.as_slice-code.ensures) (sym w.contains.ensures ∙ w.if-contains.false))
          (λ other. rw (w.met-is, ← w.as_slice-code.ensures) (w.in_ok-insert.ensures.updates.0 (record { ref_ptr = (0, 0); now = other })))
      | in_default w ↦
          rw w.met-is
          (met_passed (λ code. contains_by (λ k. bytes_eq code k.now) c.loop-at.met) (λ code. contains_by (λ k. bytes_eq code k.now) c.loop-at.met) c.args.codes.now c.loop-at.at c.index-codes-at.result _
          (omega arith) c.index-codes-at.is c.loop-at.invariant w.in_default.is)
    ]
