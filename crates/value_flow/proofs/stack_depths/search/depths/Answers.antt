use Rattle.std.proofs.Common.{◌∙◌, ap, sym, length, eqb-true}
use Rattle.std.specs.Prelude.{None}
use Rattle.std.proofs.lemmas.List.{length-replicate}
use Rattle.value_flow.proofs.lemmas.stack_depths.Searching.{bad_none, first, all_found}
use Rattle.value_flow.proofs.stack_depths.search.depths.Goals as goal

pub returns-then-is_empty : goal.returns-then-is_empty
returns-then-is_empty c = bad_none c.args.exits.now c.args.most (eqb-true (length c.args.exits.now) 0 (sym c.is_empty.ensures ∙ c.if-is_empty.true))

pub loop-at-init : goal.loop-at-init
loop-at-init c =
    first c.args.exits.now c.args.most (length c.args.exits.now) c.in_ok-search.search c.enter.new.self c.in_ok-search.ensures.found
    (ap length c.in_ok-search.ensures.found ∙ length-replicate (length c.args.exits.now) None) c.in_ok-enter.field-0 c.in_ok-enter.ensures

pub returns-then-not-right : goal.returns-then-not-right
returns-then-not-right c = rw c.if-not-right.true at c.in_ok-right.ensures

pub returns : goal.returns
returns c = all_found c.args.exits.now c.args.most c.loop-at.search c.loop-at.invariant c.in_default.ensures.0
