use Rattle.std.proofs.Common.{List, ap, ◌∙◌}
use Rattle.il_base.specs.declared.world_model.record.AsmRec.{AsmRec}
use Rattle.rules.specs.merge_rules.Numbers.{kept_fields, kept_properties, kept_events}
use Rattle.rules.specs.merge_rules.Rows.{kept_params}
use Rattle.merged_tables.specs.merged_members.Members.{fields_by, params_by, properties_by, events_by}
use Rattle.merged_tables.specs.merged_types.Types.{type_defs_by}
use Rattle.merged_tables.specs.Parts.{output_in}
use Rattle.merged_tables.proofs.items.item_rows.Goals as goal

pub returns : goal.returns
returns c =
    let p = c.args.parts.now in
    let o = output_in p in
    let tokens = p.tokens.now in
    let items = p.tables.now.items in
    let are = c.requires in
    let kept = are.tables.items in
    let told = c.members_tell.ensures o tokens are.tokens in
    record {
      types = c.in_ok-types.ensures ∙ ap (λ (recs : List AsmRec). type_defs_by recs p.plan.now items tokens) are.all ∙ c.types_tell.ensures o tokens p.plan.now items are.tokens are.plan kept;
      fields = c.in_ok-fields.ensures ∙ ap (fields_by o.recs tokens) (c.rows-kept_fields.ensures ∙ kept.fields) ∙ told.fields (kept_fields o.recs o.kept);
      params = c.in_ok-params.ensures ∙ ap (params_by o.recs) (c.rows-kept_params.ensures ∙ kept.params) ∙ told.params (kept_params o.recs o.kept);
      properties = c.in_ok-properties.ensures ∙ ap (properties_by o.recs tokens) (c.rows-kept_properties.ensures ∙ kept.properties) ∙ told.properties (kept_properties o.recs o.kept);
      events = c.in_ok-events.ensures ∙ ap (events_by o.recs tokens) (c.rows-kept_events.ensures ∙ kept.events) ∙ told.events (kept_events o.recs o.kept);
    }
