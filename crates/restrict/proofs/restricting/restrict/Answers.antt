use Rattle.std.proofs.Common.{List, sym, ap, ◌∙◌}
use Rattle.std.specs.Prelude.{slice_get}
use Rattle.il_base.specs.declared.world_model.record.AsmRec.{AsmRec}
use Rattle.merge_plan.specs.Kept.{kept_by}
use Rattle.restrict.proofs.Making.{left_is}
use Rattle.restrict.proofs.restricting.restrict.Goals as goal

pub rows_left-requires-clause-first : goal.rows_left-requires-clause-first
rows_left-requires-clause-first c = ap (λ (rs : List AsmRec). slice_get rs 0) (sym c.as_slice-recs.ensures) ∙ sym c.in-Some.ensures

pub returns : goal.returns
returns c =
    left_is c.args.plan.now.internal c.args.world.now.recs (kept_by c.args.kept.now) c.in-Some.first.now c.in_ok-own.own c.in_ok-rows.rows c.made.result
    (ap (λ (rs : List AsmRec). slice_get rs 0) (sym c.as_slice-recs.ensures) ∙ sym c.in-Some.ensures) c.in_ok-own.ensures c.in_ok-rows.ensures c.made.ensures
