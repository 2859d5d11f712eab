use Rattle.std.proofs.Common.{◌++◌, List, ap, ◌∙◌}
use Rattle.rules.specs.mark_rules.Naming.{Part}
use Rattle.mark_parts.specs.mark_tables.Assemblies.{recs_of, place_of, rec_of}
use Rattle.mark_parts.proofs.Constraining.{params_grouped}
use Rattle.mark_parts.proofs.constraints.add_constraints.Goals as goal

pub returns : goal.returns
returns c =
    let asm = c.args.asm.now in
    c.in_ok-add_param_rows.ensures
    ∙ ap (λ (xs : List Part). c.args.parts.now ++ xs)
    (params_grouped (recs_of asm) (place_of asm) (rec_of asm) asm.owners.now.params c.requires.owners.params c.args.owner c.rows_with-rows.result.now c.rows_with-rows.ensures)
