use Rattle.std.proofs.Common.{arith, ap, sym, ◌∙◌, ◌+◌}
use Rattle.rules.specs.link_rules.Types.{encloser}
use Rattle.resolver.proofs.lemmas.type_links.Named.{row_step, rows_all}
use Rattle.resolver.proofs.type_links.names.type_rows.Goals as goal

pub loop-row-preserved : goal.loop-row-preserved
loop-row-preserved c = record {
  counted = c.in_ok-at.ensures ∙ ap (λ n. n + 1) c.loop-row.invariant.counted;
  rows = λ q. row_step c.args.rec.now c.as_slice-row-items.result.now c.loop-row.row-index c.row-item.result (omega arith) c.row-item.is
      (record { around = c.get-around.result; name = record { namespace = c.as_slice.result; name = c.as_slice-in-loop-row.result } })
      (c.get-around.ensures ∙ c.requires c.loop-row.at ∙ ap (encloser c.args.rec.now) c.loop-row.invariant.counted)
      c.as_slice.ensures c.as_slice-in-loop-row.ensures q _ _ _ (rw (sym c.loop-row.invariant.counted) (c.in_ok-keep_first.ensures q)) (c.loop-row.invariant.rows q);
}

pub returns : goal.returns
returns c = λ q. rows_all c.args.rec.now q _ c.loop-row.row-index c.as_slice-row-items.result.now (omega arith) c.as_slice-row-items.ensures (c.loop-row.invariant.rows q)
