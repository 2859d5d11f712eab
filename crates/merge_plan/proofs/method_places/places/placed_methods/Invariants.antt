use Rattle.std.proofs.Common.{◌≡◌, ◌<◌, ◌++◌}
use Rattle.merge_plan.specs.method_places.Places.{rows_from, size_from}
use Rattle.merge_plan.proofs.method_places.places.placed_methods.Given as goal

abbrev pub invariant-loop-row : goal.invariant-loop-row
invariant-loop-row l = record {
  rows : l.done ++ rows_from l.size l.row-iterator.rest.items ≡ rows_from 0 l.fn.rows;
  size : size_from l.size l.row-iterator.rest.items ≡ size_from 0 l.fn.rows;
  fits : l.size < 4294967296;
}
