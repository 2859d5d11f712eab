use Rattle.std.proofs.Common.{ℕ, sym, ap, ◌∙◌}
use Rattle.rules.specs.mark_rules.Attributes.{is_core_ref_within}
use Rattle.mark_parts.proofs.lemmas.mark_core_refs.Climbing.{ref_none, ref_here, ref_next, ref_end}
use Rattle.mark_parts.proofs.mark_core_refs.refs.is_core_ref.Goals as goal

pub returns-in_default : goal.returns-in_default
returns-in_default c =
    ref_none c.args.rec.now c.len-count.result c.loop.counter c.loop.at c.args.token c.loop.invariant c.loop-test.true (sym c.in_default.ensures)
    ∙ ap (λ (n : ℕ). is_core_ref_within c.args.rec.now n c.args.token) c.len-count.ensures

pub returns-then-is_core_scope : goal.returns-then-is_core_scope
returns-then-is_core_scope c =
    ref_here c.args.rec.now c.len-count.result c.loop.counter c.loop.at c.args.token c.loop.invariant c.in-Some.scope c.loop-test.true (sym c.in-Some.ensures) (sym c.is_core_scope.ensures ∙ c.if-is_core_scope.true)
    ∙ ap (λ (n : ℕ). is_core_ref_within c.args.rec.now n c.args.token) c.len-count.ensures

pub loop-preserved : goal.loop-preserved
loop-preserved c =
    ref_next c.args.rec.now c.len-count.result c.loop.counter c.loop.at c.args.token c.loop.invariant c.in-Some.scope c.loop-test.true (sym c.in-Some.ensures) (sym c.is_core_scope.ensures ∙ c.if-is_core_scope.false)

pub returns : goal.returns
returns c =
    ref_end c.args.rec.now c.len-count.result c.loop.counter c.loop.at c.args.token c.loop.invariant c.loop-test.false
    ∙ ap (λ (n : ℕ). is_core_ref_within c.args.rec.now n c.args.token) c.len-count.ensures
