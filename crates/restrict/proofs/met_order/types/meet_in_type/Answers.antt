use Rattle.std.proofs.Common.{◌≡◌, suc, List, ◌++◌, ap, ◌∙◌}
use Rattle.std.specs.List.{flat_map}
use Rattle.il_base.specs.declared.table.TheConstants.{TYPE_DEF, METHOD_DEF}
use Rattle.il_base.specs.world_model.Tokens.{token_of}
use Rattle.rules.specs.declared.link_rules.row_at.RowAt.{RowAt}
use Rattle.rules.specs.type_rules.Rows.{methods_of_type}
use Rattle.rules.specs.mark_rules.Places.{method_item}
use Rattle.mark_parts.specs.mark_tables.Assemblies.{all_of}
use Rattle.rules.specs.merge_rules.Order.{Met, met_extends, met_interfaces, met_method_row, met_constraints, met_impls, those}
use Rattle.merge_plan.specs.Kept.{kept_by}
use Rattle.restrict.specs.met_order.Types.{fields_met, properties_met, events_met, code_met, last_met}
use Rattle.restrict.proofs.lemmas.met_order.Lists.{nine_put}
use Rattle.restrict.proofs.met_order.types.meet_in_type.Goals as goal

pub returns : goal.returns
returns c =
    let recs = all_of c.args.world.now.marker.now in
    let kept = kept_by c.args.kept.now in
    let at = c.args.at in
    let methods : List RowAt = those recs kept (method_item recs) (methods_of_type recs at) in
    let are : c.as_slice.result.now ≡ methods = c.as_slice.ensures.value ∙ c.in_ok-methods.ensures in
    c.in_ok-meet_last.ensures
    ∙ ap (λ (l : List Met). l ++ last_met recs kept at) (c.in_ok-meet_code.ensures ∙ (λ i. c.in_ok-meet_first.ensures i ++ code_met recs at (are i)))
    ∙ nine_put c.args.mets.now (met_extends recs at) (met_interfaces recs kept at) (fields_met recs kept at) (flat_map (met_method_row recs) methods) (met_constraints recs at (token_of TYPE_DEF (suc at.row)))
    (flat_map (λ (m : RowAt). met_constraints recs m (token_of METHOD_DEF (suc m.row))) methods) (properties_met recs kept at) (events_met recs kept at) (met_impls recs kept at)
