use Rattle.std.proofs.Common.{List, sym, ap, subst, ◌∙◌}
use Rattle.std.specs.Prelude.{slice_get, IfOk}
use Rattle.il_base.specs.declared.world_model.record.AsmRec.{AsmRec}
use Rattle.il_base.specs.declared.world_model.world.World.{World}
use Rattle.merge_plan.specs.Kept.{kept_by}
use Rattle.merged_tables.specs.Parts.{output_by}
use Rattle.restrict.specs.Plans.{HasNewNames}
use Rattle.restrict.specs.Rows.{AreOutputRows}
use Rattle.restrict.proofs.restricting.rows_left.Goals as goal

pub output_rows-requires-clause-same : goal.output_rows-requires-clause-same
output_rows-requires-clause-same c = ap (λ (w : World). w.recs) c.in_ok-marker.ensures.world ∙ sym (c.in_ok-index.ensures.all ∙ c.as_slice-recs.ensures)

pub output_rows-requires-clause-plan : goal.output_rows-requires-clause-plan
output_rows-requires-clause-plan c =
    subst (λ (rs : List AsmRec). HasNewNames rs (kept_by c.args.kept.now) c.args.plan.now) (sym (c.in_ok-index.ensures.all ∙ c.as_slice-recs.ensures)) c.requires.plan

pub output_rows-requires-clause-first : goal.output_rows-requires-clause-first
output_rows-requires-clause-first c = ap (λ (rs : List AsmRec). slice_get rs 0) (c.in_ok-index.ensures.all ∙ c.as_slice-recs.ensures) ∙ c.requires.first

pub returns : goal.returns
returns c =
    subst (λ (rs : List AsmRec). IfOk c.output_rows.result (AreOutputRows c.args.plan.now.internal (output_by rs (kept_by c.args.kept.now)) c.args.first.now))
    (c.in_ok-index.ensures.all ∙ c.as_slice-recs.ensures) c.output_rows.ensures
