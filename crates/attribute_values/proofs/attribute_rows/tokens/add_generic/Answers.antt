use Rattle.std.proofs.Common.{ℕ, ◌++◌, List, ap, ◌∙◌}
use Rattle.mark_parts.specs.mark_tables.Assemblies.{rec_of}
use Rattle.attribute_values.proofs.lemmas.attribute_rows.Grouping.{params_grouped}
use Rattle.attribute_values.proofs.attribute_rows.tokens.add_generic.Goals as goal

pub returns : goal.returns
returns c =
    let asm = c.args.asm.now in
    c.in_ok-add_param_rows.ensures
    ∙ ap (λ (xs : List ℕ). c.args.tokens.now.items ++ xs)
    (params_grouped (rec_of asm) asm.owners.now.params c.requires.owners.params c.args.owner c.rows_with-rows.result.now c.rows_with-rows.ensures)
