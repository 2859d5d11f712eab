use Rattle.std.proofs.Common.{◌≡◌, ℕ, suc, ◌∷◌, [], ◌++◌, List, append_assoc}
use Rattle.il_base.specs.declared.table.TheConstants.{GENERIC_PARAM}
use Rattle.il_base.specs.world_model.Tokens.{token_of}
use Rattle.rules.specs.type_rules.Rows.{each_row}
use Rattle.rules.specs.mark_rules.Attributes.{constraint_token}
use Rattle.mark_parts.specs.mark_tables.Assemblies.{rec_of}
use Rattle.attribute_values.proofs.lemmas.attribute_rows.Grouping.{constraints_grouped}
use Rattle.attribute_values.proofs.attribute_rows.tokens.add_param_row.Goals as goal

put : (out new last xs ys : List ℕ) (x y : ℕ) → new ≡ out ++ x ∷ [] → last ≡ new ++ xs → x ≡ y → xs ≡ ys → last ≡ out ++ y ∷ ys
put out new last xs ys x y n l e f = rw (l, n, e, f) (append_assoc out (y ∷ []) ys)

pub returns : goal.returns
returns c =
    let asm = c.args.asm.now in
    put c.args.tokens.now.items _ _ _ (each_row (constraint_token (token_of GENERIC_PARAM (suc c.args.k))) (rec_of asm).generic_param_constraint) c.in_ok-token.token (token_of GENERIC_PARAM (suc c.args.k))
    c.in_ok-push.ensures.items c.in_ok-add_constraint_rows.ensures c.in_ok-token.ensures
    (constraints_grouped (rec_of asm) asm.owners.now.constraints c.requires.owners.constraints c.args.k c.in_ok-token.token c.in_ok-token.ensures c.rows_with-rows.result.now c.rows_with-rows.ensures)
