-- One table more has its place, and the next one begins where it ends.
use Rattle.std.proofs.Common.{◌≡◌, ◌+◌, ◌<◌, length, get_or, arith, length-set, get_or-set_same, ◌∙◌}
use Rattle.il_base.specs.cli_format.Tables.{table_place}
use Rattle.meta_tables.proofs.Rows.{place_more, places_more}
use Rattle.meta_tables.proofs.layout.Layout.read.Goals as goal

pub loop-t-preserved : goal.loop-t-preserved
loop-t-preserved c =
    let here = c.loop-t.invariant.places c.loop-t.t (omega arith) in
    let is : get_or c.loop-t.places c.loop-t.t 0 + c.table_size.result ≡ table_place c.read-counts.result (c.loop-t.t + 1)
    = grind (arith, place_more, here) in
    let lt : c.loop-t.t + 1 < length c.loop-t.places = omega arith in
    record {
      size = length-set c.loop-t.places (c.loop-t.t + 1) (get_or c.loop-t.places c.loop-t.t 0 + c.table_size.result) ∙ c.loop-t.invariant.size;
      places = places_more c.read-counts.result c.loop-t.places c.loop-t.t (get_or c.loop-t.places c.loop-t.t 0 + c.table_size.result) lt c.loop-t.invariant.places is;
      near = rw get_or-set_same (omega arith);
    }
