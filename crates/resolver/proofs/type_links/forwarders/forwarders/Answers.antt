use Rattle.std.proofs.Common.{arith, sym, eq-eqb, ◌∙◌}
use Rattle.std.proofs.lemmas.Bool.{ne_eqb}
use Rattle.il_base.specs.world_model.Tokens.{table_of}
use Rattle.resolver.proofs.lemmas.type_links.Forwarded.{forwarder_step, forwarder_skip, forwarders_all}
use Rattle.resolver.proofs.type_links.forwarders.forwarders.Goals as goal
use Rattle.resolver.proofs.type_links.forwarders.forwarders.Goals.{then-table_of-eq-ASSEMBLY_REF+in_ok-keep_first, else-table_of-eq-ASSEMBLY_REF}

pub loop-row-preserved : goal.loop-row-preserved
loop-row-preserved c = λ q. elim c.if-table_of-eq-ASSEMBLY_REF.branch [
  | then-table_of-eq-ASSEMBLY_REF+in_ok-keep_first w ↦
      rw w.rows-is (forwarder_step c.as_slice-row-items.result.now c.loop-row.row-index c.row-item.result (omega arith) c.row-item.is
      (record { namespace = c.as_slice.result; name = c.as_slice-in-loop-row.result }) c.as_slice.ensures c.as_slice-in-loop-row.ensures (eq-eqb (table_of c.row-item.result.implementation) 35 (sym c.table_of.ensures ∙ w.if-table_of-eq-ASSEMBLY_REF.true)) q _ _ _
      (rw (sym w.index_in.ensures) (w.in_ok-keep_first.ensures q)) (c.loop-row.invariant q))
  | else-table_of-eq-ASSEMBLY_REF w ↦
      rw w.rows-is (forwarder_skip c.as_slice-row-items.result.now c.loop-row.row-index c.row-item.result (omega arith) c.row-item.is (ne_eqb (table_of c.row-item.result.implementation) 35 (λ e. w.if-table_of-eq-ASSEMBLY_REF.false (c.table_of.ensures ∙ e))) q _ _ (c.loop-row.invariant q))
]

pub returns : goal.returns
returns c = λ q. forwarders_all c.args.rec.now q _ c.loop-row.row-index c.as_slice-row-items.result.now (omega arith) c.as_slice-row-items.ensures (c.loop-row.invariant q)
