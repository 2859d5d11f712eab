-- A type with its own parameters for its arguments: put in, they change nothing.
use Rattle.std.proofs.Common.{◌≡◌, ℕ, zero, suc, ◌+◌, List, [], ◌∷◌, map, length, Option, Some, None, refl, sym, ap, ◌∙◌, arith}
use Rattle.std.proofs.Common as common
use Rattle.std.specs.List.{flat_map, range_with_len}
use Rattle.std.specs.Option.{option_map, option_and_then}
use Rattle.il_base.specs.declared.ids.TypeId.{TypeId}
use Rattle.il_base.specs.declared.world_model.expr.TypeExpr.{TypeExpr, ind-TypeExpr, out-TypeExpr, roll-TypeExpr, roll-out-TypeExpr}
use Rattle.il_base.specs.declared.world_model.expr.TypeExpr.TheOpen.{TypeExpr-F}
use Rattle.il_base.specs.declared.world_model.expr.TypeExpr.TheVariants as expr
use Rattle.il_base.specs.declared.world_model.record.AsmRec.{AsmRec}
use Rattle.il_base.specs.world_model.Exprs.{arg_or, subst}
use Rattle.il_base.proofs.lemmas.world_model.ExprLayers.{subst_prim, subst_def, subst_inst, subst_array, subst_by_ref, subst_var, subst_mvar, subst_mod}
use Rattle.rules.specs.link_rules.Members.{type_home, array_type, owner_of, args_in, args_of, own_args, open_in, open_parent, base_at, base_of}
use Rattle.rules.specs.link_rules.Cycles.{listed, home_of, interfaces_at}
use Rattle.rules.specs.type_rules.Subtypes.{interfaces_of}
use Rattle.base_laws.proofs.lemmas.type_laws.Upwards.{out_is, owner_as}
use Rattle.base_laws.proofs.lemmas.change_laws.Exprs.{With, plain_parts}

-- ---- arguments that are the parameters themselves

abbrev pub Stands : List TypeExpr → Type 0
Stands targs = (n : ℕ) → arg_or targs n (expr.Var n) ≡ expr.Var n

none_stands : Stands []
none_stands zero = refl
none_stands (suc n) = refl

own_from : (i len n : ℕ) → arg_or (map (λ k. expr.Var k) (range_with_len i len)) n (expr.Var (i + n)) ≡ expr.Var (i + n)
own_from i zero zero = refl
own_from i zero (suc n) = refl
own_from i (suc len) zero = let z : i ≡ i + 0 = omega arith in ap (λ (k : ℕ). expr.Var k) z
own_from i (suc len) (suc n) =
    let z : i + suc n ≡ i + 1 + n = omega arith in
    ap (λ (k : ℕ). arg_or (map (λ k. expr.Var k) (range_with_len (i + 1) len)) n (expr.Var k)) z ∙ own_from (i + 1) len n ∙ ap (λ (k : ℕ). expr.Var k) (sym z)

own_stands : (len : ℕ) → Stands (own_args len)
own_stands len n =
    let z : 0 + n ≡ n = omega arith in
    common.subst (λ (k : ℕ). arg_or (own_args len) n (expr.Var k) ≡ expr.Var k) z (own_from 0 len n)

module _ (targs : List TypeExpr) (stands : Stands targs) where
  abbrev put : TypeExpr → TypeExpr
  put = subst targs []

  abbrev Same : TypeExpr → Type 0
  Same e = put e ≡ e

  args_same : (xs : List (With Same)) → map put (map (λ e. e.0) xs) ≡ map (λ e. e.0) xs
  args_same [] = refl
  args_same (x ∷ xs) = λ i. x.1 i ∷ args_same xs i

  no_argument : (n : ℕ) → arg_or [] n (expr.MVar n) ≡ expr.MVar n
  no_argument zero = refl
  no_argument (suc n) = refl

  same_rolled : (y : TypeExpr-F (With Same)) → Same (roll-TypeExpr (plain_parts Same y))
  same_rolled (TypeExpr-F.Prim n) = common.subst Same (sym (expr.rolls-Prim n)) (subst_prim targs [] n)
  same_rolled (TypeExpr-F.Def t) = common.subst Same (sym (expr.rolls-Def t)) (subst_def targs [] t)
  same_rolled (TypeExpr-F.Inst t xs) =
      common.subst Same (sym (expr.rolls-Inst t (map (λ e. e.0) xs))) (subst_inst targs [] t (map (λ e. e.0) xs) ∙ ap (expr.Inst t) (args_same xs))
  same_rolled (TypeExpr-F.Array x) = common.subst Same (sym (expr.rolls-Array x.0)) (subst_array targs [] x.0 ∙ ap expr.Array x.1)
  same_rolled (TypeExpr-F.ByRef x) = common.subst Same (sym (expr.rolls-ByRef x.0)) (subst_by_ref targs [] x.0 ∙ ap expr.ByRef x.1)
  same_rolled (TypeExpr-F.Var n) = common.subst Same (sym (expr.rolls-Var n)) (subst_var targs [] n ∙ stands n)
  same_rolled (TypeExpr-F.MVar n) = common.subst Same (sym (expr.rolls-MVar n)) (subst_mvar targs [] n ∙ no_argument n)
  same_rolled (TypeExpr-F.Mod required by x) =
      common.subst Same (sym (expr.rolls-Mod required by x.0)) (subst_mod targs [] required by x.0 ∙ ap (expr.Mod required by) x.1)

  pub put_same : (e : TypeExpr) → put e ≡ e
  put_same = ind-TypeExpr Same (λ x y is. common.subst (λ z. Same (roll-TypeExpr z)) is (same_rolled y))

  pub puts_same : (es : List TypeExpr) → map put es ≡ es
  puts_same [] = refl
  puts_same (e ∷ es) = λ i. put_same e i ∷ puts_same es i

  pub put_option : (o : Option TypeExpr) → option_map put o ≡ o
  put_option None = refl
  put_option (Some e) = ap (λ (x : TypeExpr). Some x) (put_same e)

-- ---- a type whose arguments are so

abbrev pub IsOpen : TypeExpr → Type 0
IsOpen e = Stands (args_of e)

args_as : (x : TypeExpr-F TypeExpr) (e : TypeExpr) → roll-TypeExpr x ≡ e → args_of e ≡ args_in x
unfolding args_of
args_as x e is = ap args_in (out_is x e is)

open_as : (x : TypeExpr-F TypeExpr) (e : TypeExpr) → roll-TypeExpr x ≡ e → Stands (args_in x) → IsOpen e
open_as x e is h = common.subst Stands (sym (args_as x e is)) h

pub def_open : (t : TypeId) → IsOpen (expr.Def t)
def_open t = open_as (TypeExpr-F.Def t) (expr.Def t) (expr.rolls-Def t) none_stands

module _ (recs : List AsmRec) where
  array_open : (e : TypeExpr) (x : TypeExpr) → roll-TypeExpr (TypeExpr-F.Array x) ≡ e → (o : Option TypeId) → IsOpen (elim o [ Some t ↦ expr.Def t | None ↦ e ])
  array_open e x is None = open_as (TypeExpr-F.Array x) e is none_stands
  array_open e x is (Some t) = def_open t

  in_open : (e : TypeExpr) (x : TypeExpr-F TypeExpr) → roll-TypeExpr x ≡ e → IsOpen (open_in recs e x)
  in_open e (TypeExpr-F.Prim n) is = open_as (TypeExpr-F.Prim n) e is none_stands
  in_open e (TypeExpr-F.Def t) is = open_as (TypeExpr-F.Def t) e is none_stands
  in_open e (TypeExpr-F.Inst t args) is =
      open_as (TypeExpr-F.Inst t (own_args (length args))) (expr.Inst t (own_args (length args))) (expr.rolls-Inst t (own_args (length args))) (own_stands (length args))
  in_open e (TypeExpr-F.Array x) is = array_open e x is (array_type recs)
  in_open e (TypeExpr-F.ByRef x) is = open_as (TypeExpr-F.ByRef x) e is none_stands
  in_open e (TypeExpr-F.Var n) is = open_as (TypeExpr-F.Var n) e is none_stands
  in_open e (TypeExpr-F.MVar n) is = open_as (TypeExpr-F.MVar n) e is none_stands
  in_open e (TypeExpr-F.Mod required by x) is = open_as (TypeExpr-F.Mod required by x) e is none_stands

  pub parent_open : (e : TypeExpr) → IsOpen (open_parent recs e)
  unfolding open_parent
  parent_open e = in_open e (out-TypeExpr e) (roll-out-TypeExpr e)

  -- ---- it has the definition that it had

  def_owner : (t : TypeId) → owner_of recs (expr.Def t) ≡ Some t
  def_owner t = owner_as recs [] (TypeExpr-F.Def t) (expr.Def t) (expr.rolls-Def t)

  array_owner : (e : TypeExpr) (x : TypeExpr) → roll-TypeExpr (TypeExpr-F.Array x) ≡ e → (o : Option TypeId) → array_type recs ≡ o
      → owner_of recs (elim o [ Some t ↦ expr.Def t | None ↦ e ]) ≡ owner_of recs e
  array_owner e x is None of = refl
  array_owner e x is (Some t) of = def_owner t ∙ sym of ∙ sym (owner_as recs [] (TypeExpr-F.Array x) e is)

  in_owner : (e : TypeExpr) (x : TypeExpr-F TypeExpr) → roll-TypeExpr x ≡ e → owner_of recs (open_in recs e x) ≡ owner_of recs e
  in_owner e (TypeExpr-F.Prim n) is = refl
  in_owner e (TypeExpr-F.Def t) is = refl
  in_owner e (TypeExpr-F.Inst t args) is =
      owner_as recs [] (TypeExpr-F.Inst t (own_args (length args))) (expr.Inst t (own_args (length args))) (expr.rolls-Inst t (own_args (length args)))
      ∙ sym (owner_as recs [] (TypeExpr-F.Inst t args) e is)
  in_owner e (TypeExpr-F.Array x) is = array_owner e x is (array_type recs) refl
  in_owner e (TypeExpr-F.ByRef x) is = refl
  in_owner e (TypeExpr-F.Var n) is = refl
  in_owner e (TypeExpr-F.MVar n) is = refl
  in_owner e (TypeExpr-F.Mod required by x) is = refl

  parent_owner : (e : TypeExpr) → owner_of recs (open_parent recs e) ≡ owner_of recs e
  unfolding open_parent
  parent_owner e = in_owner e (out-TypeExpr e) (roll-out-TypeExpr e)

  pub parent_home : (e : TypeExpr) → home_of recs (open_parent recs e) ≡ home_of recs e
  parent_home e = ap (option_and_then (type_home recs)) (parent_owner e)

  -- what its rows name is what its definition's rows name
  pub open_base : (e : TypeExpr) → IsOpen e → base_of recs e ≡ option_and_then (base_at recs) (home_of recs e)
  unfolding base_of
  open_base e h = put_option (args_of e) h (option_and_then (base_at recs) (home_of recs e))

  pub open_interfaces : (e : TypeExpr) → IsOpen e → interfaces_of recs e ≡ flat_map (interfaces_at recs) (listed (home_of recs e))
  unfolding interfaces_of
  open_interfaces e h = puts_same (args_of e) h (flat_map (interfaces_at recs) (listed (home_of recs e)))
