use Rattle.std.proofs.Common.{List, ap, ◌∙◌}
use Rattle.std.specs.List.{flat_map}
use Rattle.rules.specs.declared.link_rules.row_at.RowAt.{RowAt}
use Rattle.rules.specs.merge_rules.Numbers.{kept_types, kept_methods, kept_fields, kept_properties, kept_events}
use Rattle.rules.specs.merge_rules.Rows.{params_of, kept_params}
use Rattle.merge_plan.proofs.kept_tables.tables.ItemTables.of.Goals as goal

pub returns : goal.returns
unfolding kept_types kept_methods kept_fields kept_properties kept_events kept_params
returns c = record {
  types = c.in_ok-types.ensures;
  fields = c.in_ok-fields.ensures;
  methods = c.in_ok-methods.ensures;
  params = c.in_ok-params.ensures ∙ c.in_ok-rows.ensures ∙ ap (λ (ms : List RowAt). flat_map (params_of c.args.recs.now) ms) (c.rows.ensures ∙ c.in_ok-methods.ensures);
  properties = c.in_ok-properties.ensures;
  events = c.in_ok-events.ensures;
}
