use Rattle.std.proofs.Common.{◌≡◌, ◌++◌, ◌-◌, ℕ, List, length, take, ap, ◌∙◌, arith}
use Rattle.il_base.specs.declared.world_model.members.MethodImplRow.{MethodImplRow}
use Rattle.il_base.specs.declared.world_model.record.AsmRec.{AsmRec}
use Rattle.mark_parts.specs.mark_tables.Assemblies.{all_of}
use Rattle.rules.specs.merge_rules.Sorted.{by_key}
use Rattle.merge_plan.specs.Kept.{all_from, kept_by}
use Rattle.merge_plan.proofs.Ranging.{all_step, all_end}
use Rattle.merged_tables.specs.merged_impls.Impls.{impls_in, method_impls_by}
use Rattle.merged_tables.proofs.lemmas.merged_impls.Places.{front_here}
use Rattle.merged_tables.proofs.merged_impls.rows.method_impls.Goals as goal

pub push_impls-requires-clause-here : goal.push_impls-requires-clause-here
push_impls-requires-clause-here c =
    let recs = all_of c.args.marker.now in
    let items : c.inputs-rec-items.result.now ≡ take (length recs - 1) recs = c.inputs-rec-items.ensures ∙ ap (λ (rs : List AsmRec). take (length rs - 1) rs) c.as_slice-recs.ensures in
    front_here (length recs - 1) recs c.inputs-rec-items.result.now c.loop-a.a c.in_ok-place.place c.rec-item.result items (omega arith) c.rec-item.is c.in_ok-place.ensures

pub loop-a-preserved : goal.loop-a-preserved
loop-a-preserved c =
    let f = impls_in (all_of c.args.marker.now) (kept_by c.args.kept.now) c.args.tables.now c.args.tokens.now in
    let items = c.inputs-rec-items.result.now in
    all_step f items c.loop-a.a c.rec-item.result c.loop-a.rows.items c.push_impls.new.rows.items (all_from f 0 items) (omega arith) c.rec-item.is
    (c.in_ok-push_impls.ensures ∙ ap (λ (k : ℕ). c.loop-a.rows.items ++ f k c.rec-item.result) c.in_ok-place.ensures) c.loop-a.invariant

pub returns : goal.returns
unfolding method_impls_by
returns c =
    let recs = all_of c.args.marker.now in
    let items : c.inputs-rec-items.result.now ≡ take (length recs - 1) recs = c.inputs-rec-items.ensures ∙ ap (λ (rs : List AsmRec). take (length rs - 1) rs) c.as_slice-recs.ensures in
    c.from_vec.ensures ∙ c.in_ok-sorted.ensures
    ∙ ap (λ (rows : List MethodImplRow). by_key (λ (row : MethodImplRow). row.class) rows)
    (all_end (impls_in recs (kept_by c.args.kept.now) c.args.tables.now c.args.tokens.now) recs c.inputs-rec-items.result.now c.loop-a.a c.loop-a.rows.items items c.loop-a-test.false c.loop-a.invariant)
