-- What a MethodDef token of an input names, and its token in the output.
use Rattle.std.proofs.Common.{◌≡◌, ◌<◌, ◌≤◌, ℕ, zero, suc, ◌+◌, ◌%◌, Bool, true, false, List, [], ◌∷◌, length, map, Option, Some, None, refl, sym, ap, subst, ◌∙◌, arith}
use Rattle.std.specs.Prelude.{slice_get, nat_lt, ◌==◌, ◌||◌, if◌then◌else◌}
use Rattle.std.specs.List.{position_from, range_with_len}
use Rattle.std.specs.Option.{option_map, option_and_then}
use Rattle.std.proofs.lemmas.Bool.{lt-ltb, le-ltb, eqb-true, eq-eqb, ne_eqb}
use Rattle.il_base.specs.declared.ids.TypeId.{TypeId}
use Rattle.il_base.specs.declared.ids.MethodId.{MethodId}
use Rattle.il_base.specs.declared.table.TheConstants.{METHOD_DEF, MEMBER_REF, METHOD_SPEC}
use Rattle.il_base.specs.declared.world_model.known.Known.{Known}
use Rattle.il_base.specs.declared.world_model.known.Known.TheVariants.{Good, Bad}
use Rattle.il_base.specs.declared.world_model.known.BadKind.TheVariants.{Outside}
use Rattle.il_base.specs.declared.world_model.expr.TypeExpr.{TypeExpr, fold-TypeExpr, fold-roll-TypeExpr}
use Rattle.il_base.specs.declared.world_model.expr.TypeExpr.TheOpen.{TypeExpr-F}
use Rattle.il_base.specs.declared.world_model.expr.TypeExpr.TheVariants as expr
use Rattle.il_base.specs.declared.world_model.expr.MethodUse.{MethodUse}
use Rattle.il_base.specs.declared.world_model.types.TypeDefRow.{TypeDefRow}
use Rattle.il_base.specs.declared.world_model.record.AsmRec.{AsmRec}
use Rattle.il_base.specs.world_model.Tokens.{token_of, table_of, row_of, row_index, index_from, index_in}
use Rattle.il_base.specs.world_model.Exprs.{deepest, levels_layer, levels}
use Rattle.il_base.specs.world_model.Worlds.{rows_before, type_id, row_below}
use Rattle.rules.specs.declared.link_rules.row_at.RowAt.{RowAt}
use Rattle.rules.specs.link_rules.Types.{at_row}
use Rattle.rules.specs.link_rules.Signatures.{prim_at, definition_expr}
use Rattle.rules.specs.link_rules.Members.{methods_in, own_args, param_count, Found, most_levels, method_use, owns_method, own_member, with_own_args, own_type, method_def_use, ref_use_at, def_use_at, generic_method}
use Rattle.rules.specs.merge_rules.Keys.{MethodKey, own_method, found_method, is_plain_owner, method_key}
use Rattle.rules.specs.merge_rules.Refs.{row_token}
use Rattle.merge_laws.proofs.lemmas.merged_tokens.OwnMethods.{key_some}

-- ---- a type in itself has at most two levels

prim_levels : (n : ℕ) → levels (expr.Prim n) ≡ 1
unfolding levels
prim_levels n = ap (fold-TypeExpr ℕ levels_layer) (sym (expr.rolls-Prim n)) ∙ fold-roll-TypeExpr ℕ levels_layer (TypeExpr-F.Prim n)

def_levels : (t : TypeId) → levels (expr.Def t) ≡ 1
unfolding levels
def_levels t = ap (fold-TypeExpr ℕ levels_layer) (sym (expr.rolls-Def t)) ∙ fold-roll-TypeExpr ℕ levels_layer (TypeExpr-F.Def t)

var_levels : (n : ℕ) → levels (expr.Var n) ≡ 1
unfolding levels
var_levels n = ap (fold-TypeExpr ℕ levels_layer) (sym (expr.rolls-Var n)) ∙ fold-roll-TypeExpr ℕ levels_layer (TypeExpr-F.Var n)

inst_levels : (t : TypeId) (args : List TypeExpr) → levels (expr.Inst t args) ≡ suc (deepest (map levels args))
unfolding levels
inst_levels t args = ap (fold-TypeExpr ℕ levels_layer) (sym (expr.rolls-Inst t args)) ∙ fold-roll-TypeExpr ℕ levels_layer (TypeExpr-F.Inst t args)

vars_flat : (ns : List ℕ) → deepest (map levels (map (λ k. expr.Var k) ns)) ≤ 1
vars_flat [] = omega arith
vars_flat (n ∷ ns) = let one = var_levels n in let more = vars_flat ns in omega (arith, one, more)

module _ (recs : List AsmRec) where
  flat_by : (at : RowAt) (o : Option ℕ) → levels (elim o [ Some n ↦ expr.Prim n | None ↦ expr.Def (type_id recs at.asm at.row) ]) ≤ 2
  flat_by at None = let one = def_levels (type_id recs at.asm at.row) in omega (arith, one)
  flat_by at (Some n) = let one = prim_levels n in omega (arith, one)

  definition_flat : (at : RowAt) → levels (definition_expr recs at) ≤ 2
  unfolding definition_expr
  definition_flat at = flat_by at (prim_at recs at)

  own_flat_by : (at : RowAt) (n : ℕ) → levels (with_own_args recs at n) ≤ 2
  own_flat_by at zero = definition_flat at
  own_flat_by at (suc n) =
      let one = inst_levels (type_id recs at.asm at.row) (own_args (suc n)) in
      let more = vars_flat (range_with_len 0 (suc n)) in
      omega (arith, one, more)

  own_flat : (rec : AsmRec) (at : RowAt) → levels (own_type recs rec at) ≤ 2
  unfolding own_type
  own_flat rec at = own_flat_by at (param_count rec at.row)

  -- ---- so a method of a type has a use

  abbrev number_of : ℕ → ℕ → MethodId
  number_of a k = record { 0 = rows_before methods_in recs a + k }

  used : (x : Found) → levels x.owner ≤ 2 → method_use recs (Some x) ≡ Good (record { method = number_of x.at.asm x.at.row; owner = x.owner; args = [] })
  used x le =
      ap (λ (b : Bool). if b then Bad (Outside 5) else Good (record { method = number_of x.at.asm x.at.row; owner = x.owner; args = [] })) (le-ltb most_levels (levels x.owner) (omega (arith, le)))

  module _ (a : ℕ) (rec : AsmRec) (k j : ℕ) (owner : position_from (owns_method (suc k)) 0 rec.type_def ≡ Some j) where
    abbrev own_use : MethodUse
    own_use = record { method = number_of a k; owner = own_type recs rec (at_row a j); args = [] }

    def_named : method_def_use recs a rec k ≡ Good own_use
    unfolding method_def_use
    def_named =
        ap (λ (o : Option ℕ). method_use recs (option_map (λ t. record { at = at_row a k; owner = own_type recs rec (at_row a t) }) o)) owner
        ∙ used (record { at = at_row a k; owner = own_type recs rec (at_row a j) }) (own_flat rec (at_row a j))

    below_is : k < methods_in rec → row_below (methods_in rec) (Some k) ≡ Some k
    below_is lt = ap (λ (b : Bool). if b then Some k else None) (lt-ltb k (methods_in rec) lt)

    table_by : (token : ℕ) (b : Bool) → (table_of token == METHOD_DEF) ≡ b → (if b then row_index token else None) ≡ Some k → (table_of token == METHOD_DEF) ≡ true
    table_by token true e h = e
    table_by token false e h = absurd (cc)

    pub own_table : (token : ℕ) → index_in METHOD_DEF token ≡ Some k → (table_of token == METHOD_DEF) ≡ true
    own_table token h = table_by token (table_of token == METHOD_DEF) refl h

    token_named : (token : ℕ) → index_in METHOD_DEF token ≡ Some k → k < methods_in rec → generic_method recs a rec token ≡ Good own_use
    unfolding generic_method
    token_named token h lt =
        ap (λ (b : Bool). if b then def_use_at recs a rec (row_below (methods_in rec) (index_in METHOD_DEF token)) else ref_use_at recs a rec (option_and_then (slice_get rec.member_ref) (index_in MEMBER_REF token))) (own_table token h)
        ∙ ap (λ (o : Option ℕ). def_use_at recs a rec (row_below (methods_in rec) o)) h ∙ ap (def_use_at recs a rec) (below_is lt) ∙ def_named

    not_spec : (token : ℕ) → index_in METHOD_DEF token ≡ Some k → (table_of token == METHOD_SPEC) ≡ false
    not_spec token h = let six = eqb-true (table_of token) METHOD_DEF (own_table token h) in ne_eqb (table_of token) METHOD_SPEC (λ e. absurd (omega (arith, e, six)))

    pub own_key : (token : ℕ) → index_in METHOD_DEF token ≡ Some k → k < methods_in rec → slice_get recs a ≡ Some rec → suc a < length recs → method_key recs a rec token ≡ Some (own_method (number_of a k))
    own_key token h lt there input =
        key_some recs a rec there input token own_use (not_spec token h) (token_named token h lt)
        ∙ ap (λ (b : Bool). Some (if b || is_plain_owner recs (own_type recs rec (at_row a j)) then own_method (number_of a k) else found_method (number_of a k) (own_type recs rec (at_row a j)))) (own_table token h)

-- ---- a token of the output

pub row_named : (r : ℕ) → suc r < 16777216 → index_in METHOD_DEF (row_token METHOD_DEF (Some r)) ≡ Some r
row_named r lt =
    let whole : token_of METHOD_DEF (suc r) % 4294967296 ≡ token_of METHOD_DEF (suc r) = omega (arith, lt) in
    let t : table_of (token_of METHOD_DEF (suc r)) ≡ METHOD_DEF = omega (arith, lt) in
    let n : row_of (token_of METHOD_DEF (suc r)) ≡ suc r = omega (arith, lt) in
    ap (index_in METHOD_DEF) whole ∙ ap (λ (b : Bool). if b then row_index (token_of METHOD_DEF (suc r)) else None) (eq-eqb (table_of (token_of METHOD_DEF (suc r))) METHOD_DEF t) ∙ ap index_from n
