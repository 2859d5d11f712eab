use Rattle.std.proofs.Common.{sym, ◌∙◌, ap, arith, ◌∷◌, ◌-◌}
use Rattle.rules.specs.step_rules.Raising.{is_unwound}
use Rattle.machine_frames.proofs.lemmas.cil_raising.Placing.{places_past, places_in, places_out}
use Rattle.machine_frames.proofs.cil_raising.clauses.unwound.Goals as goal

pub loop-n-init : goal.loop-n-init
loop-n-init c = c.new-places.ensures ∙ sym (places_past (is_unwound c.args.at) c.args.clauses.now)

pub loop-n-preserved-in-Continue-1 : goal.loop-n-preserved-in-Continue-1
loop-n-preserved-in-Continue-1 c =
    c.in_ok-push.ensures.ok ∙ ap (λ ns. (c.loop-n.n - 1) ∷ ns) c.loop-n.invariant
    ∙ sym (places_in (is_unwound c.args.at) c.args.clauses.now c.loop-n.n c.index-clauses-n.result (omega arith) (omega arith) c.index-clauses-n.is (sym c.is_unwound.ensures ∙ c.if-is_unwound.true))

pub loop-n-preserved : goal.loop-n-preserved
loop-n-preserved c =
    c.loop-n.invariant
    ∙ sym (places_out (is_unwound c.args.at) c.args.clauses.now c.loop-n.n c.index-clauses-n.result (omega arith) (omega arith) c.index-clauses-n.is (sym c.is_unwound.ensures ∙ c.if-is_unwound.false))
