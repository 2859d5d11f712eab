use Rattle.std.proofs.Common.{ap, ◌∙◌}
use Rattle.merged_tables.specs.merged_sorted.Owned.{interfaces_by, generic_params_by, constraints_by}
use Rattle.merged_tables.specs.Parts.{output_in}
use Rattle.merged_tables.proofs.owned.owned_rows.Goals as goal

pub returns : goal.returns
returns c =
    let p = c.args.parts.now in
    let o = output_in p in
    let tokens = p.tokens.now in
    let told = c.sorted_tell.ensures o tokens p.tables.now c.requires.tokens c.requires.tables in
    record {
      interfaces = c.in_ok-interfaces.ensures ∙ ap (interfaces_by o.recs tokens) c.as_slice-kept_impls.ensures.value ∙ told.interfaces;
      generic_params = c.in_ok-generic_params.ensures ∙ ap (generic_params_by o.recs) c.as_slice-kept_params.ensures.value ∙ told.generic_params;
      constraints = c.in_ok-constraints.ensures ∙ ap (constraints_by o.recs tokens) c.as_slice-kept_constraints.ensures.value ∙ told.constraints;
    }
