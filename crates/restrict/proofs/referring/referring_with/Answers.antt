use Rattle.std.proofs.Common.{◌≡◌, ◌++◌, List, map, sym, ap, subst, ◌∙◌}
use Rattle.il_base.specs.declared.world_model.record.AsmRec.{AsmRec}
use Rattle.mark_parts.specs.mark_tables.Assemblies.{all_of}
use Rattle.rules.specs.merge_rules.Order.{Met, met_by_types}
use Rattle.rules.specs.merge_rules.Attributes as rules
use Rattle.merge_plan.specs.Kept.{kept_by}
use Rattle.restrict.specs.declared.merged_attributes.attributes.Attribute.{Attribute}
use Rattle.restrict.specs.merged_attributes.Attributes.{told, attributes_by, met_by}
use Rattle.restrict.specs.output_references.References.{AreReferencesOf}
use Rattle.merged_tables.specs.Parts.{output_by}
use Rattle.restrict.proofs.referring.referring_with.Goals as goal

pub kept_attributes-requires-clause-same : goal.kept_attributes-requires-clause-same
kept_attributes-requires-clause-same c = sym c.requires.same

pub output_references-requires-clause-same : goal.output_references-requires-clause-same
output_references-requires-clause-same c = c.requires.scoped ∙ sym c.requires.same

pub returns : goal.returns
returns c =
    let recs = c.args.index.now.all.now in
    let kept = kept_by c.args.kept.now in
    let tables = c.args.tables.now in
    let o = output_by recs kept in
    let all = c.in_ok-attributes.attributes.items in
    let are = c.attributes_tell.ensures.attributes recs kept tables c.requires.tables in
    let made : map told all ≡ attributes_by tables recs = c.in_ok-attributes.ensures ∙ ap (attributes_by tables) c.requires.same in
    let met : c.in_ok-mets.mets ≡ o.mets =
    c.in_ok-mets.ensures ∙ ap (λ (rs : List AsmRec). met_by_types rs kept ++ map met_by (map told c.as_slice-each.result.now)) c.requires.same
    ∙ ap (λ (xs : List Attribute). met_by_types recs kept ++ map met_by (map told xs)) c.as_slice-each.ensures.value
    ∙ ap (λ (xs : List rules.Attribute). met_by_types recs kept ++ map met_by xs) made
    ∙ ap (λ (ms : List Met). met_by_types recs kept ++ ms) are.mets in
    let references = c.in_ok-references.references in
    record {
      attributes = made ∙ are.attributes;
      references = subst (λ (rs : List AsmRec). AreReferencesOf rs o.mets references) c.requires.same
          (subst (λ (ms : List Met). AreReferencesOf (all_of c.args.world.now.marker.now) ms references) met c.in_ok-references.ensures);
    }
