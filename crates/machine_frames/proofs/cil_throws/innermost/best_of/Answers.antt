use Rattle.std.proofs.Common.{◌+◌, ◌≤◌, Bool, Option, Some, drop, length, sym, ap, ◌∙◌, arith}
use Rattle.std.specs.Prelude.{if◌then◌else◌}
use Rattle.rules.specs.step_rules.Throws.{Placed, innermost_from}
use Rattle.machine_frames.specs.cil_throws.Blocks.{best_by}
use Rattle.machine_frames.proofs.lemmas.cil_throws.Handling.{better_next, none_left}
use Rattle.machine_frames.proofs.cil_throws.innermost.best_of.Goals as goal
use Rattle.machine_frames.proofs.cil_throws.innermost.best_of.Goals.{then-is_better, else-is_better}

pub loop-n-preserved : goal.loop-n-preserved
loop-n-preserved c =
    let cs = c.args.clauses.now in
    let n = c.loop-n.n in
    let x = c.index-clauses-n.result in
    let rest = λ (b : Option Placed). innermost_from c.args.at b (n + 1) (drop (n + 1) cs) in
    let next = better_next c.args.at (best_by c.loop-n.best) n cs x c.loop-n-test.true c.index-clauses-n.is in
    elim c.if-is_better.branch [
      | then-is_better w ↦
          ap (λ b. rest (best_by b)) w.best-is
          ∙ sym (ap rest (c.is_better.ensures n ∙ ap (λ (r : Bool). if r then Some (record { place = n; clause = x }) else best_by c.loop-n.best) w.if-is_better.true))
          ∙ sym next ∙ c.loop-n.invariant
      | else-is_better w ↦
          ap (λ b. rest (best_by b)) w.best-is
          ∙ sym (ap rest (c.is_better.ensures n ∙ ap (λ (r : Bool). if r then Some (record { place = n; clause = x }) else best_by c.loop-n.best) w.if-is_better.false))
          ∙ sym next ∙ c.loop-n.invariant
    ]

pub returns : goal.returns
returns c =
    let past : length c.args.clauses.now ≤ c.loop-n.n = omega arith in
    sym (none_left c.args.at (best_by c.loop-n.best) c.loop-n.n c.args.clauses.now past) ∙ c.loop-n.invariant
