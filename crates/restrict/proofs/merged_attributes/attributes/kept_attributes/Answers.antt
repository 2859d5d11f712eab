use Rattle.std.proofs.Common.{◌≡◌, ◌-◌, List, length, map, take, ap, ◌∙◌, arith}
use Rattle.il_base.specs.declared.world_model.record.AsmRec.{AsmRec}
use Rattle.mark_parts.specs.mark_tables.Assemblies.{all_of}
use Rattle.merge_plan.proofs.Ranging.{all_end}
use Rattle.restrict.proofs.lemmas.merged_attributes.Places.{front_here}
use Rattle.restrict.specs.merged_attributes.Attributes.{told, in_key_order, attributes_in, attributes_by}
use Rattle.restrict.proofs.merged_attributes.attributes.kept_attributes.Goals as goal

pub push_attributes-requires-clause-here : goal.push_attributes-requires-clause-here
push_attributes-requires-clause-here c =
    let recs = all_of c.args.world.now.marker.now in
    let items : c.inputs-rec-items.result.now ≡ take (length recs - 1) recs = c.inputs-rec-items.ensures ∙ ap (λ (rs : List AsmRec). take (length rs - 1) rs) c.requires.same in
    front_here (length recs - 1) recs c.inputs-rec-items.result.now c.loop-a.a c.in_ok-place.place c.rec-item.result items (omega arith) c.rec-item.is c.in_ok-place.ensures

pub returns : goal.returns
unfolding attributes_by
returns c =
    let recs = all_of c.args.world.now.marker.now in
    let items : c.inputs-rec-items.result.now ≡ take (length recs - 1) recs = c.inputs-rec-items.ensures ∙ ap (λ (rs : List AsmRec). take (length rs - 1) rs) c.requires.same in
    c.in_ok-sorted.ensures ∙ ap in_key_order (all_end (attributes_in c.args.tables.now recs) recs c.inputs-rec-items.result.now c.loop-a.a (map told c.loop-a.all.items) items c.loop-a-test.false c.loop-a.invariant)
