use Rattle.std.proofs.Common.{rules, ◌≡◌, length, arith}
use Rattle.merge_plan.proofs.lemmas.method_places.Addresses.{none_left, all_placed}
use Rattle.merge_plan.proofs.method_places.places.placed_methods.Goals as goal

pub returns : goal.returns
returns c =
    let f = c.in-None.ensures.steps.0 in
    let rest = c.loop-row.row-iterator.rest.items in
    let long : length rest ≡ c.loop-row.row-iterator.rest.len = search rules in
    all_placed c.args.rows rest (record { rows = c.loop-row.done; size = c.loop-row.size }) (none_left rest (omega (arith, f, long))) c.loop-row.invariant.rows c.loop-row.invariant.size
