use Rattle.std.proofs.Common.{ℕ, List, Bool, ap, ◌∙◌}
use Rattle.rules.specs.type_rules.Texts.{full_name_of}
use Rattle.merge_plan.specs.Taken.{has_in}
use Rattle.merge_plan.proofs.Freeing.{free_found, free_more}
use Rattle.merge_plan.proofs.taken.free_name.Goals as goal

pub returns-then-not-is_there : goal.returns-then-not-is_there
returns-then-not-is_there c =
    let test : List ℕ → Bool = λ n. has_in c.args.taken.now (full_name_of c.args.namespace.now n) in
    free_found test c.args.name.now c.loop-k.k c.args.most c.in_ok-numbered.numbered _ c.in_ok-is_there.is_there c.loop-k-test.true c.in_ok-numbered.ensures
    (c.in_ok-is_there.ensures ∙ ap test c.as_slice.ensures) c.if-not-is_there.true c.loop-k.invariant

pub loop-k-preserved : goal.loop-k-preserved
loop-k-preserved c =
    let test : List ℕ → Bool = λ n. has_in c.args.taken.now (full_name_of c.args.namespace.now n) in
    free_more test c.args.name.now c.loop-k.k c.args.most c.in_ok-numbered.numbered _ c.in_ok-is_there.is_there c.loop-k-test.true c.in_ok-numbered.ensures
    (c.in_ok-is_there.ensures ∙ ap test c.as_slice.ensures) c.if-not-is_there.false c.loop-k.invariant
