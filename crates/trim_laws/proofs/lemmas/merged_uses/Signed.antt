-- Signatures of methods: their equality, and that they are apart after a move where they were before.
use Rattle.std.proofs.Common.{◌≡◌, ℕ, zero, suc, Bool, true, false, nat_eq, ◌&&◌, List, [], ◌∷◌, map, refl, sym, ap, subst, ◌∙◌}
use Rattle.std.specs.Cmp.{first_so, second_so}
use Rattle.std.proofs.lemmas.Bool.{eq-eqb, eqb-true, and_from}
use Rattle.il_base.specs.declared.world_model.expr.TypeExpr.{TypeExpr, ind-TypeExpr, roll-TypeExpr}
use Rattle.il_base.specs.declared.world_model.expr.TypeExpr.TheOpen.{TypeExpr-F}
use Rattle.il_base.specs.declared.world_model.expr.TypeExpr.TheVariants as expr
use Rattle.il_base.specs.world_model.Exprs.{levels, deepest, same_bool, same_expr, same_exprs}
use Rattle.il_base.proofs.lemmas.world_model.ExprLayers.{levels_def, levels_inst, levels_array, levels_by_ref, levels_mod}
use Rattle.il_base.proofs.lemmas.world_model.SameExpr.{same_only, same_self, all_decide}
use Rattle.rules.specs.declared.link_rules.member_type.MethodType.{MethodType}
use Rattle.rules.specs.link_rules.Signatures.{subst_method, same_method_type}
use Rattle.token_keys.proofs.lemmas.key_codes.SameSig.{same_bools}
use Rattle.run_laws.proofs.lemmas.marked_call_laws.Opened.{Stands, put_same, puts_same}
use Rattle.rules.specs.change_rules.Change.{Rho, Undone}
use Rattle.rules.specs.change_rules.Moves.{move_expr, move_exprs}
use Rattle.base_laws.proofs.lemmas.change_laws.Exprs.{With, plain_parts, expr_back, exprs_back, move_prim, move_def, move_inst, move_array, move_by_ref, move_var, move_mvar, move_mod}
use Rattle.rules.specs.world_change_rules.Rows.{move_method_type}

-- ---- equality

own_bool : (a : Bool) → same_bool a a ≡ true
own_bool true = refl
own_bool false = refl

pub method_only : (a b : MethodType) → same_method_type a b ≡ true → a ≡ b
unfolding same_method_type
method_only a b h =
    let p : Bool = same_bool a.this b.this in
    let q : Bool = nat_eq a.generic b.generic in
    let r : Bool = same_expr a.ret b.ret in
    let s : Bool = same_exprs a.params b.params in
    let three = first_so (p && q && r) s h in
    let two = first_so (p && q) r three in
    let this : a.this ≡ b.this = same_bools a.this b.this (first_so p q two) in
    let generic : a.generic ≡ b.generic = eqb-true a.generic b.generic (second_so p q two) in
    let ret : a.ret ≡ b.ret = same_only a.ret b.ret (second_so (p && q) r three) in
    let params : a.params ≡ b.params = (all_decide a.params b.params).0 (second_so (p && q && r) s h) in
    λ i. record { this = this i; generic = generic i; ret = ret i; params = params i }

pub method_self : (a : MethodType) → same_method_type a a ≡ true
unfolding same_method_type
method_self a =
    let p : Bool = same_bool a.this a.this in
    let q : Bool = nat_eq a.generic a.generic in
    let r : Bool = same_expr a.ret a.ret in
    let s : Bool = same_exprs a.params a.params in
    and_from (p && q && r) s (and_from (p && q) r (and_from p q (own_bool a.this) (eq-eqb a.generic a.generic refl)) (same_self a.ret)) ((all_decide a.params a.params).1 refl)

-- ---- parameters as arguments

pub none_stands : Stands []
none_stands zero = refl
none_stands (suc n) = refl

pub method_put : (targs : List TypeExpr) → Stands targs → (a : MethodType) → subst_method targs a ≡ a
unfolding subst_method
method_put targs stands a = λ i. record { this = a.this; generic = a.generic; ret = put_same targs stands a.ret i; params = puts_same targs stands a.params i }

-- ---- under new numbers

module _ (back rho : Rho) (u : Undone back rho) where
  pub expr_apart : (a b : TypeExpr) → move_expr rho a ≡ move_expr rho b → a ≡ b
  expr_apart a b e = sym (expr_back back rho u a) ∙ ap (move_expr back) e ∙ expr_back back rho u b

  pub method_apart : (a b : MethodType) → move_method_type rho a ≡ move_method_type rho b → a ≡ b
  method_apart a b e =
      let this : a.this ≡ b.this = ap (λ (m : MethodType). m.this) e in
      let generic : a.generic ≡ b.generic = ap (λ (m : MethodType). m.generic) e in
      let ret : a.ret ≡ b.ret = expr_apart a.ret b.ret (ap (λ (m : MethodType). m.ret) e) in
      let params : a.params ≡ b.params =
      sym (exprs_back back rho u a.params) ∙ ap (λ (m : MethodType). move_exprs back m.params) e ∙ exprs_back back rho u b.params in
      λ i. record { this = this i; generic = generic i; ret = ret i; params = params i }

module _ (r : Rho) where
  abbrev Stays : TypeExpr → Type 0
  Stays e = levels (move_expr r e) ≡ levels e

  levels_args : (xs : List (With Stays)) → map levels (move_exprs r (map (λ e. e.0) xs)) ≡ map levels (map (λ e. e.0) xs)
  levels_args [] = refl
  levels_args (x ∷ xs) = λ i. x.1 i ∷ levels_args xs i

  levels_rolled : (y : TypeExpr-F (With Stays)) → Stays (roll-TypeExpr (plain_parts Stays y))
  levels_rolled (TypeExpr-F.Prim n) = subst Stays (sym (expr.rolls-Prim n)) (ap levels (move_prim r n))
  levels_rolled (TypeExpr-F.Def t) = subst Stays (sym (expr.rolls-Def t)) (ap levels (move_def r t) ∙ levels_def _ ∙ sym (levels_def t))
  levels_rolled (TypeExpr-F.Inst t xs) =
      let args : List TypeExpr = map (λ e. e.0) xs in
      subst Stays (sym (expr.rolls-Inst t args)) (ap levels (move_inst r t args) ∙ levels_inst _ (move_exprs r args) ∙ ap (λ (ns : List ℕ). suc (deepest ns)) (levels_args xs) ∙ sym (levels_inst t args))
  levels_rolled (TypeExpr-F.Array x) = subst Stays (sym (expr.rolls-Array x.0)) (ap levels (move_array r x.0) ∙ levels_array (move_expr r x.0) ∙ ap suc x.1 ∙ sym (levels_array x.0))
  levels_rolled (TypeExpr-F.ByRef x) = subst Stays (sym (expr.rolls-ByRef x.0)) (ap levels (move_by_ref r x.0) ∙ levels_by_ref (move_expr r x.0) ∙ ap suc x.1 ∙ sym (levels_by_ref x.0))
  levels_rolled (TypeExpr-F.Var n) = subst Stays (sym (expr.rolls-Var n)) (ap levels (move_var r n))
  levels_rolled (TypeExpr-F.MVar n) = subst Stays (sym (expr.rolls-MVar n)) (ap levels (move_mvar r n))
  levels_rolled (TypeExpr-F.Mod required by x) =
      subst Stays (sym (expr.rolls-Mod required by x.0)) (ap levels (move_mod r required by x.0) ∙ levels_mod required _ (move_expr r x.0) ∙ ap suc x.1 ∙ sym (levels_mod required by x.0))

  pub levels_moved : (e : TypeExpr) → levels (move_expr r e) ≡ levels e
  levels_moved = ind-TypeExpr Stays (λ x y is. subst (λ z. Stays (roll-TypeExpr z)) is (levels_rolled y))
