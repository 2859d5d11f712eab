use Rattle.std.proofs.Common.{rules, ◌≡◌, length, arith}
use Rattle.record_writer.proofs.lemmas.row_writer.RowEnd.{no_more, none_left}
use Rattle.record_writer.proofs.row_writer.cells.row_cells.Goals as goal

pub returns : goal.returns
returns c =
    let f = c.in-None.ensures.steps.0 in
    let long : length c.loop-value.value-iterator.rest.items ≡ c.loop-value.value-iterator.rest.len = search rules in
    no_more _ _ _ _ (none_left _ (omega (arith, f, long))) c.loop-value.invariant
