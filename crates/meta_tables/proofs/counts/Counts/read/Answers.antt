-- One table more has its row count.
use Rattle.std.proofs.Common.{◌≡◌, arith, length-set, ◌∙◌}
use Rattle.il_base.specs.cli_format.Tables.{rows_of}
use Rattle.meta_tables.proofs.Rows.{counting, rows_more}
use Rattle.meta_tables.proofs.counts.Counts.read.Goals as goal

pub loop-t-preserved : goal.loop-t-preserved
loop-t-preserved c =
    let is : c.row_count.result ≡ rows_of c.args.stream.now c.loop-t.t = grind (arith, counting) in
    record {
      size = length-set c.loop-t.rows c.loop-t.t c.row_count.result ∙ c.loop-t.invariant.size;
      rows = rows_more c.args.stream.now c.loop-t.rows c.loop-t.t c.row_count.result (omega arith) c.loop-t.invariant.rows is;
      place = grind (arith, counting);
      within = omega arith;
    }
