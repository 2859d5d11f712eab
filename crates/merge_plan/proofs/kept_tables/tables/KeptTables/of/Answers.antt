use Rattle.std.proofs.Common.{◌≡◌, List, map, ap, subst, ◌∙◌}
use Rattle.rules.specs.merge_rules.Rows as rows
use Rattle.rules.specs.merge_rules.Rows.{places, kept_interfaces, kept_generic_params, kept_constraints}
use Rattle.merge_plan.specs.Kept.{kept_by}
use Rattle.merge_plan.specs.kept_tables.Order.{sorted_of}
use Rattle.merge_plan.specs.kept_tables.Tables.{impls_by, params_by, constraints_by}
use Rattle.merge_plan.specs.kept_tables.Kept.{IsTableOf}
use Rattle.merge_plan.proofs.kept_tables.tables.KeptTables.of.Goals as goal

pub returns : goal.returns
unfolding kept_interfaces kept_generic_params kept_constraints
returns c =
    let recs = c.args.recs.now in
    let kept = kept_by c.args.kept.now in
    let items = c.in_ok-items.ensures in
    let impls : map sorted_of c.in_ok-impls.impls.items ≡ kept_interfaces recs kept = c.in_ok-impls.ensures ∙ ap (impls_by recs kept) items.types in
    let params : map sorted_of c.in_ok-params.params.items ≡ kept_generic_params recs kept = c.in_ok-params.ensures ∙ (λ i. params_by (items.types i) (items.methods i) recs) in
    let bounds : map sorted_of c.in_ok-bounds.bounds.items ≡ kept_constraints recs kept =
    c.in_ok-bounds.ensures ∙ (λ i. constraints_by ((c.in_ok-generic_params.ensures.numbers ∙ ap places params) i) recs) in
    record {
      items = items;
      interfaces = subst (λ (s : List rows.SortedRow). IsTableOf s c.in_ok-interfaces.interfaces) impls c.in_ok-interfaces.ensures;
      generic_params = subst (λ (s : List rows.SortedRow). IsTableOf s c.in_ok-generic_params.generic_params) params c.in_ok-generic_params.ensures;
      constraints = subst (λ (s : List rows.SortedRow). IsTableOf s c.in_ok-constraints.constraints) bounds c.in_ok-constraints.ensures;
    }
