use Rattle.std.proofs.Common.{◌++◌, List, ap, ◌∙◌}
use Rattle.rules.specs.mark_rules.Naming.{Part}
use Rattle.mark_parts.specs.mark_tables.Assemblies.{recs_of, place_of, rec_of}
use Rattle.mark_parts.proofs.Constraining.{constraints_grouped}
use Rattle.mark_parts.proofs.constraints.add_constraints_at.Goals as goal

pub returns : goal.returns
returns c =
    let asm = c.args.asm.now in
    c.in_ok-add_constraint_rows.ensures
    ∙ ap (λ (xs : List Part). c.args.parts.now ++ xs)
    (constraints_grouped (recs_of asm) (place_of asm) (rec_of asm) asm.owners.now.constraints c.requires.owners.constraints c.args.k c.in_ok-token.token c.in_ok-token.ensures c.rows_with-rows.result.now c.rows_with-rows.ensures)
