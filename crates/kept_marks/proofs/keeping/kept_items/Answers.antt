use Rattle.std.proofs.Common.{List, subst}
use Rattle.il_base.specs.declared.world_model.record.AsmRec.{AsmRec}
use Rattle.merge_plan.specs.declared.kept.KeptItems.{KeptItems}
use Rattle.kept_marks.specs.Keeping.{KeepsMarked}
use Rattle.kept_marks.proofs.Told.{kept_told}
use Rattle.kept_marks.proofs.keeping.kept_items.Goals as goal

pub returns : goal.returns
returns c =
    let kept : KeptItems = record {
      assemblies = c.in_ok-assemblies.assemblies;
      types = c.in_ok-types.types;
      methods = c.in_ok-methods.methods;
      fields = c.in_ok-fields.fields;
      properties = c.in_ok-properties.properties;
      events = c.in_ok-events.events;
      interfaces = c.in_ok-interfaces.interfaces;
    } in
    subst (λ (recs : List AsmRec). KeepsMarked recs c.args.marked.now kept) c.as_slice-all.ensures
    (kept_told c.as_slice-all.result.now c.args.marked.now kept c.in_ok-assemblies.ensures c.in_ok-types.ensures c.in_ok-methods.ensures c.in_ok-fields.ensures c.in_ok-properties.ensures c.in_ok-events.ensures c.in_ok-interfaces.ensures)
