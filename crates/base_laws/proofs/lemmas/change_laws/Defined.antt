-- Types that name only definitions that are kept: what is kept is such a type, and one stays such with arguments put in.
use Rattle.std.proofs.Common.{◌≡◌, ℕ, zero, suc, Bool, ◌&&◌, List, [], ◌∷◌, map, refl, sym, ap, ◌∙◌}
use Rattle.std.proofs.Common as common
use Rattle.std.specs.Prelude.{IsTrue}
use Rattle.std.specs.List.{list_all}
use Rattle.std.specs.Cmp.{first_so, second_so}
use Rattle.std.proofs.lemmas.Bool.{and_from}
use Rattle.il_base.specs.declared.ids.TypeId.{TypeId}
use Rattle.il_base.specs.declared.world_model.expr.TypeExpr.{TypeExpr, fold-roll-TypeExpr, ind-TypeExpr, roll-TypeExpr}
use Rattle.il_base.specs.declared.world_model.expr.TypeExpr.TheFolds.{map-TypeExpr}
use Rattle.il_base.specs.declared.world_model.expr.TypeExpr.TheOpen.{TypeExpr-F}
use Rattle.il_base.specs.declared.world_model.expr.TypeExpr.TheVariants as expr
use Rattle.il_base.specs.world_model.Exprs.{arg_or, subst}
use Rattle.il_base.proofs.lemmas.world_model.ExprLayers.{subst_prim, subst_def, subst_inst, subst_array, subst_by_ref, subst_var, subst_mvar, subst_mod}
use Rattle.rules.specs.change_rules.Change.{Keep}
use Rattle.rules.specs.change_rules.Keeps.{Names, both, names_layer, names_of, keeps_expr, shows_expr, itself, defined_layer, keeps_defined}
use Rattle.base_laws.proofs.lemmas.change_laws.Exprs.{With, plain_parts}
use Rattle.base_laws.proofs.lemmas.change_laws.Subst.{names_rolled}

module _ (k : Keep) where
  -- ---- by the outermost construct

  pub defined_rolled : (x : TypeExpr-F TypeExpr) → keeps_defined k (roll-TypeExpr x) ≡ defined_layer k (map-TypeExpr TypeExpr Bool (keeps_defined k) x)
  unfolding keeps_defined
  defined_rolled x = fold-roll-TypeExpr Bool (defined_layer k) x

  defined_inst : (t : TypeId) (args : List TypeExpr) → keeps_defined k (expr.Inst t args) ≡ (k.typ t.0 && list_all itself (map (keeps_defined k) args))
  defined_inst t args = ap (keeps_defined k) (sym (expr.rolls-Inst t args)) ∙ defined_rolled (TypeExpr-F.Inst t args)

  defined_array : (e : TypeExpr) → keeps_defined k (expr.Array e) ≡ keeps_defined k e
  defined_array e = ap (keeps_defined k) (sym (expr.rolls-Array e)) ∙ defined_rolled (TypeExpr-F.Array e)

  defined_by_ref : (e : TypeExpr) → keeps_defined k (expr.ByRef e) ≡ keeps_defined k e
  defined_by_ref e = ap (keeps_defined k) (sym (expr.rolls-ByRef e)) ∙ defined_rolled (TypeExpr-F.ByRef e)

  defined_mod : (required : Bool) (by : TypeId) (e : TypeExpr) → keeps_defined k (expr.Mod required by e) ≡ (k.typ by.0 && keeps_defined k e)
  defined_mod required by e = ap (keeps_defined k) (sym (expr.rolls-Mod required by e)) ∙ defined_rolled (TypeExpr-F.Mod required by e)

  -- ---- what is kept

  abbrev IsDefined : TypeExpr → Type 0
  IsDefined e = IsTrue (keeps_expr k e) → IsTrue (keeps_defined k e)

  args_defined : (xs : List (With IsDefined)) → IsTrue (list_all both (map (names_of k) (map (λ e. e.0) xs))) → IsTrue (list_all itself (map (keeps_defined k) (map (λ e. e.0) xs)))
  args_defined [] h = refl
  args_defined (x ∷ xs) h =
      let n : Names = names_of k x.0 in
      let rest : Bool = list_all both (map (names_of k) (map (λ e. e.0) xs)) in
      and_from _ _ (x.1 (first_so n.kept n.shown (first_so (both n) rest h))) (args_defined xs (second_so (both n) rest h))

  layer_defined : (y : TypeExpr-F (With IsDefined)) → IsTrue (names_layer k (map-TypeExpr TypeExpr Names (names_of k) (plain_parts IsDefined y))).kept
      → IsTrue (defined_layer k (map-TypeExpr TypeExpr Bool (keeps_defined k) (plain_parts IsDefined y)))
  layer_defined (TypeExpr-F.Prim n) h = refl
  layer_defined (TypeExpr-F.Def t) h = h
  layer_defined (TypeExpr-F.Inst t xs) h =
      let rest : Bool = list_all both (map (names_of k) (map (λ e. e.0) xs)) in
      and_from (k.typ t.0) _ (first_so (k.typ t.0) rest h) (args_defined xs (second_so (k.typ t.0) rest h))
  layer_defined (TypeExpr-F.Array x) h = x.1 h
  layer_defined (TypeExpr-F.ByRef x) h = x.1 h
  layer_defined (TypeExpr-F.Var n) h = refl
  layer_defined (TypeExpr-F.MVar n) h = refl
  layer_defined (TypeExpr-F.Mod required by x) h =
      let kept : Bool = keeps_expr k x.0 in
      and_from (k.typ by.0) _ (first_so (k.typ by.0) kept h) (x.1 (second_so (k.typ by.0) kept h))

  rolled_defined : (y : TypeExpr-F (With IsDefined)) → IsDefined (roll-TypeExpr (plain_parts IsDefined y))
  rolled_defined y h =
      let x : TypeExpr-F TypeExpr = plain_parts IsDefined y in
      defined_rolled x ∙ layer_defined y (sym (ap (λ (n : Names). n.kept) (names_rolled k x)) ∙ h)

  pub kept_defined : (e : TypeExpr) → IsTrue (keeps_expr k e) → IsTrue (keeps_defined k e)
  kept_defined = ind-TypeExpr IsDefined (λ x y is. common.subst (λ z. IsDefined (roll-TypeExpr z)) is (rolled_defined y))

  -- ---- with arguments put in

  arg_defined : (args : List TypeExpr) (n : ℕ) (other : TypeExpr) → IsTrue (list_all (shows_expr k) args) → IsTrue (keeps_defined k other) → IsTrue (keeps_defined k (arg_or args n other))
  arg_defined [] zero other a h = h
  arg_defined [] (suc n) other a h = h
  arg_defined (x ∷ xs) zero other a h =
      let n : Names = names_of k x in
      kept_defined x (first_so n.kept n.shown (first_so (both n) (list_all (shows_expr k) xs) a))
  arg_defined (x ∷ xs) (suc n) other a h = arg_defined xs n other (second_so (shows_expr k x) (list_all (shows_expr k) xs) a) h

  module _ (targs margs : List TypeExpr) (ts : IsTrue (list_all (shows_expr k) targs)) (ms : IsTrue (list_all (shows_expr k) margs)) where
    abbrev StaysDefined : TypeExpr → Type 0
    StaysDefined e = IsTrue (keeps_defined k e) → IsTrue (keeps_defined k (subst targs margs e))

    args_stay_defined : (xs : List (With StaysDefined)) → IsTrue (list_all itself (map (keeps_defined k) (map (λ e. e.0) xs)))
        → IsTrue (list_all itself (map (keeps_defined k) (map (subst targs margs) (map (λ e. e.0) xs))))
    args_stay_defined [] h = refl
    args_stay_defined (x ∷ xs) h =
        let b : Bool = keeps_defined k x.0 in
        let rest : Bool = list_all itself (map (keeps_defined k) (map (λ e. e.0) xs)) in
        and_from _ _ (x.1 (first_so b rest h)) (args_stay_defined xs (second_so b rest h))

    inst_stays_defined : (t : TypeId) (xs : List (With StaysDefined)) → IsTrue (k.typ t.0 && list_all itself (map (keeps_defined k) (map (λ e. e.0) xs)))
        → IsTrue (k.typ t.0 && list_all itself (map (keeps_defined k) (map (subst targs margs) (map (λ e. e.0) xs))))
    inst_stays_defined t xs h =
        let rest : Bool = list_all itself (map (keeps_defined k) (map (λ e. e.0) xs)) in
        and_from (k.typ t.0) _ (first_so (k.typ t.0) rest h) (args_stay_defined xs (second_so (k.typ t.0) rest h))

    mod_stays_defined : (by : TypeId) (x : With StaysDefined) → IsTrue (k.typ by.0 && keeps_defined k x.0) → IsTrue (k.typ by.0 && keeps_defined k (subst targs margs x.0))
    mod_stays_defined by x h = and_from (k.typ by.0) _ (first_so (k.typ by.0) (keeps_defined k x.0) h) (x.1 (second_so (k.typ by.0) (keeps_defined k x.0) h))

    -- from one equation to another
    between : (e f : TypeExpr) (a b : Bool) → keeps_defined k e ≡ a → subst targs margs e ≡ f → keeps_defined k f ≡ b → (IsTrue a → IsTrue b) → StaysDefined e
    between e f a b ea is eb s h = ap (keeps_defined k) is ∙ eb ∙ s (sym ea ∙ h)

    stays_rolled : (y : TypeExpr-F (With StaysDefined)) → StaysDefined (roll-TypeExpr (plain_parts StaysDefined y))
    stays_rolled (TypeExpr-F.Prim n) = common.subst StaysDefined (sym (expr.rolls-Prim n)) (λ h. ap (keeps_defined k) (subst_prim targs margs n) ∙ h)
    stays_rolled (TypeExpr-F.Def t) = common.subst StaysDefined (sym (expr.rolls-Def t)) (λ h. ap (keeps_defined k) (subst_def targs margs t) ∙ h)
    stays_rolled (TypeExpr-F.Inst t xs) =
        let args : List TypeExpr = map (λ e. e.0) xs in
        common.subst StaysDefined (sym (expr.rolls-Inst t args))
        (between (expr.Inst t args) _ _ _ (defined_inst t args) (subst_inst targs margs t args) (defined_inst t (map (subst targs margs) args)) (inst_stays_defined t xs))
    stays_rolled (TypeExpr-F.Array x) = common.subst StaysDefined (sym (expr.rolls-Array x.0)) (between (expr.Array x.0) _ _ _ (defined_array x.0) (subst_array targs margs x.0) (defined_array (subst targs margs x.0)) x.1)
    stays_rolled (TypeExpr-F.ByRef x) = common.subst StaysDefined (sym (expr.rolls-ByRef x.0)) (between (expr.ByRef x.0) _ _ _ (defined_by_ref x.0) (subst_by_ref targs margs x.0) (defined_by_ref (subst targs margs x.0)) x.1)
    stays_rolled (TypeExpr-F.Var n) = common.subst StaysDefined (sym (expr.rolls-Var n)) (λ h. ap (keeps_defined k) (subst_var targs margs n) ∙ arg_defined targs n (expr.Var n) ts h)
    stays_rolled (TypeExpr-F.MVar n) = common.subst StaysDefined (sym (expr.rolls-MVar n)) (λ h. ap (keeps_defined k) (subst_mvar targs margs n) ∙ arg_defined margs n (expr.MVar n) ms h)
    stays_rolled (TypeExpr-F.Mod required by x) =
        common.subst StaysDefined (sym (expr.rolls-Mod required by x.0))
        (between (expr.Mod required by x.0) _ _ _ (defined_mod required by x.0) (subst_mod targs margs required by x.0) (defined_mod required by (subst targs margs x.0)) (mod_stays_defined by x))

    pub subst_stays_defined : (e : TypeExpr) → IsTrue (keeps_defined k e) → IsTrue (keeps_defined k (subst targs margs e))
    subst_stays_defined = ind-TypeExpr StaysDefined (λ x y is. common.subst (λ z. StaysDefined (roll-TypeExpr z)) is (stays_rolled y))
