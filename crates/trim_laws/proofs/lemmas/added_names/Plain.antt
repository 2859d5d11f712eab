-- Types that name those that only modifiers use (II.7.1.1) in modifiers alone.
use Rattle.std.proofs.Common.{◌≡◌, ℕ, zero, suc, List, [], ◌∷◌, ◌++◌, map, Bool, true, false, Option, Some, None, refl, sym, ap, subst, ◌∙◌, ◌&&◌}
use Rattle.std.specs.Prelude.{slice_get, ◌==◌, if◌then◌else◌}
use Rattle.std.specs.List.{flat_map, list_all}
use Rattle.std.specs.Option.{option_and_then}
use Rattle.std.specs.Cmp.{first_so, second_so}
use Rattle.std.proofs.lemmas.Bool.{and_from}
use Rattle.il_base.specs.declared.ids.TypeId.{TypeId}
use Rattle.il_base.specs.declared.sig.Sig.{Sig, fold-roll-Sig, ind-Sig, roll-Sig}
use Rattle.il_base.specs.declared.sig.Sig.TheFolds.{map-Sig}
use Rattle.il_base.specs.declared.sig.Sig.TheOpen.{Sig-F}
use Rattle.il_base.specs.declared.sig.Sig.TheVariants as sig
use Rattle.il_base.specs.declared.world_model.known.Known.{Known}
use Rattle.il_base.specs.declared.world_model.known.Known.TheVariants.{Good, Bad}
use Rattle.il_base.specs.declared.world_model.known.BadKind.TheVariants.{Unresolved}
use Rattle.il_base.specs.declared.world_model.expr.TypeExpr.{TypeExpr, fold-TypeExpr, fold-roll-TypeExpr, ind-TypeExpr, out-TypeExpr, roll-TypeExpr, roll-out-TypeExpr}
use Rattle.il_base.specs.declared.world_model.expr.TypeExpr.TheFolds.{map-TypeExpr}
use Rattle.il_base.specs.declared.world_model.expr.TypeExpr.TheOpen.{TypeExpr-F}
use Rattle.il_base.specs.declared.world_model.expr.TypeExpr.TheVariants as expr
use Rattle.il_base.specs.declared.world_model.types.TypeSpecRow.{TypeSpecRow}
use Rattle.il_base.specs.declared.world_model.record.AsmRec.{AsmRec}
use Rattle.il_base.specs.world_model.Exprs as exprs
use Rattle.il_base.specs.world_model.Exprs.{arg_or}
use Rattle.il_base.proofs.lemmas.world_model.ExprLayers.{subst_prim, subst_def, subst_inst, subst_array, subst_by_ref, subst_var, subst_mvar, subst_mod}
use Rattle.rules.specs.link_rules.CoreNames.{modifiers}
use Rattle.rules.specs.link_rules.Members.{args_in, args_of}
use Rattle.base_laws.proofs.lemmas.change_laws.Exprs.{With, plain_parts}
use Rattle.rules.specs.merge_rules.Keys.{is_value, made_layer, made_sig}
use Rattle.rules.specs.merge_rules.Refs.{numbers_in}
use Rattle.trim_laws.proofs.lemmas.added_names.Modifiers.{is_listed, Fine, fine_none, fine_one, fine_listed, fine_modifier, fine_join, IsFine, of_layer}

module _ (recs : List AsmRec) where
  abbrev pub itself : Bool → Bool
  itself b = b

  abbrev pub plain_layer : TypeExpr-F Bool → Bool
  plain_layer (TypeExpr-F.Prim n) = true
  plain_layer (TypeExpr-F.Def t) = is_listed recs (suc t.0)
  plain_layer (TypeExpr-F.Inst t args) = is_listed recs (suc t.0) && list_all itself args
  plain_layer (TypeExpr-F.Array x) = x
  plain_layer (TypeExpr-F.ByRef x) = x
  plain_layer (TypeExpr-F.Var n) = true
  plain_layer (TypeExpr-F.MVar n) = true
  plain_layer (TypeExpr-F.Mod required by x) = x

  unfoldable pub is_plain : TypeExpr → Bool
  is_plain = fold-TypeExpr Bool plain_layer

  abbrev pub Plain : TypeExpr → Type 0
  Plain e = is_plain e ≡ true

  abbrev pub ArePlain : List TypeExpr → Type 0
  ArePlain es = list_all itself (map is_plain es) ≡ true

  plain_rolled : (x : TypeExpr-F TypeExpr) → is_plain (roll-TypeExpr x) ≡ plain_layer (map-TypeExpr TypeExpr Bool is_plain x)
  unfolding is_plain
  plain_rolled x = fold-roll-TypeExpr Bool plain_layer x

  plain_is : (x : TypeExpr-F TypeExpr) (e : TypeExpr) → roll-TypeExpr x ≡ e → is_plain e ≡ plain_layer (map-TypeExpr TypeExpr Bool is_plain x)
  plain_is x e f = ap is_plain (sym f) ∙ plain_rolled x

  -- by the outermost construct
  pub plain_out : (e : TypeExpr) → is_plain e ≡ plain_layer (map-TypeExpr TypeExpr Bool is_plain (out-TypeExpr e))
  plain_out e = plain_is (out-TypeExpr e) e (roll-out-TypeExpr e)

  pub plain_prim : (n : ℕ) → Plain (expr.Prim n)
  plain_prim n = plain_is (TypeExpr-F.Prim n) (expr.Prim n) (expr.rolls-Prim n)

  pub plain_def : (t : TypeId) → is_plain (expr.Def t) ≡ is_listed recs (suc t.0)
  plain_def t = plain_is (TypeExpr-F.Def t) (expr.Def t) (expr.rolls-Def t)

  pub plain_inst : (t : TypeId) (args : List TypeExpr) → is_plain (expr.Inst t args) ≡ (is_listed recs (suc t.0) && list_all itself (map is_plain args))
  plain_inst t args = plain_is (TypeExpr-F.Inst t args) (expr.Inst t args) (expr.rolls-Inst t args)

  pub plain_array : (e : TypeExpr) → is_plain (expr.Array e) ≡ is_plain e
  plain_array e = plain_is (TypeExpr-F.Array e) (expr.Array e) (expr.rolls-Array e)

  pub plain_by_ref : (e : TypeExpr) → is_plain (expr.ByRef e) ≡ is_plain e
  plain_by_ref e = plain_is (TypeExpr-F.ByRef e) (expr.ByRef e) (expr.rolls-ByRef e)

  pub plain_var : (n : ℕ) → Plain (expr.Var n)
  plain_var n = plain_is (TypeExpr-F.Var n) (expr.Var n) (expr.rolls-Var n)

  pub plain_mvar : (n : ℕ) → Plain (expr.MVar n)
  plain_mvar n = plain_is (TypeExpr-F.MVar n) (expr.MVar n) (expr.rolls-MVar n)

  pub plain_mod : (required : Bool) (by : TypeId) (e : TypeExpr) → is_plain (expr.Mod required by e) ≡ is_plain e
  plain_mod required by e = plain_is (TypeExpr-F.Mod required by e) (expr.Mod required by e) (expr.rolls-Mod required by e)

  pub inst_plain : (t : TypeId) (args : List TypeExpr) → is_listed recs (suc t.0) ≡ true → ArePlain args → Plain (expr.Inst t args)
  inst_plain t args h g = plain_inst t args ∙ and_from (is_listed recs (suc t.0)) (list_all itself (map is_plain args)) h g

  -- ---- arguments put in

  args_by : (x : TypeExpr-F TypeExpr) → plain_layer (map-TypeExpr TypeExpr Bool is_plain x) ≡ true → ArePlain (args_in x)
  args_by (TypeExpr-F.Inst t args) h = second_so (is_listed recs (suc t.0)) (list_all itself (map is_plain args)) h
  args_by (TypeExpr-F.Prim n) h = refl
  args_by (TypeExpr-F.Def t) h = refl
  args_by (TypeExpr-F.Array x) h = refl
  args_by (TypeExpr-F.ByRef x) h = refl
  args_by (TypeExpr-F.Var n) h = refl
  args_by (TypeExpr-F.MVar n) h = refl
  args_by (TypeExpr-F.Mod required by x) h = refl

  pub args_plain : (e : TypeExpr) → Plain e → ArePlain (args_of e)
  unfolding args_of
  args_plain e h = args_by (out-TypeExpr e) (sym (plain_out e) ∙ h)

  arg_plain : (args : List TypeExpr) (n : ℕ) (other : TypeExpr) → ArePlain args → Plain other → Plain (arg_or args n other)
  arg_plain [] zero other a h = h
  arg_plain [] (suc n) other a h = h
  arg_plain (x ∷ xs) zero other a h = first_so (is_plain x) (list_all itself (map is_plain xs)) a
  arg_plain (x ∷ xs) (suc n) other a h = arg_plain xs n other (second_so (is_plain x) (list_all itself (map is_plain xs)) a) h

  module _ (targs : List TypeExpr) (ts : ArePlain targs) where
    abbrev put : TypeExpr → TypeExpr
    put = exprs.subst targs []

    abbrev Stays : TypeExpr → Type 0
    Stays e = Plain e → Plain (put e)

    args_stay : (xs : List (With Stays)) → ArePlain (map (λ e. e.0) xs) → ArePlain (map put (map (λ e. e.0) xs))
    args_stay [] h = refl
    args_stay (x ∷ xs) h =
        let r : Bool = list_all itself (map is_plain (map (λ e. e.0) xs)) in
        and_from (is_plain (put x.0)) (list_all itself (map is_plain (map put (map (λ e. e.0) xs)))) (x.1 (first_so (is_plain x.0) r h)) (args_stay xs (second_so (is_plain x.0) r h))

    stays_inst : (t : TypeId) (xs : List (With Stays)) → Stays (expr.Inst t (map (λ e. e.0) xs))
    stays_inst t xs h =
        let args : List TypeExpr = map (λ e. e.0) xs in
        let g = sym (plain_inst t args) ∙ h in
        ap is_plain (subst_inst targs [] t args)
        ∙ inst_plain t (map put args) (first_so (is_listed recs (suc t.0)) (list_all itself (map is_plain args)) g) (args_stay xs (second_so (is_listed recs (suc t.0)) (list_all itself (map is_plain args)) g))

    stays_rolled : (y : TypeExpr-F (With Stays)) → Stays (roll-TypeExpr (plain_parts Stays y))
    stays_rolled (TypeExpr-F.Prim n) = subst Stays (sym (expr.rolls-Prim n)) (λ h. ap is_plain (subst_prim targs [] n) ∙ h)
    stays_rolled (TypeExpr-F.Def t) = subst Stays (sym (expr.rolls-Def t)) (λ h. ap is_plain (subst_def targs [] t) ∙ h)
    stays_rolled (TypeExpr-F.Inst t xs) = subst Stays (sym (expr.rolls-Inst t (map (λ e. e.0) xs))) (stays_inst t xs)
    stays_rolled (TypeExpr-F.Array x) = subst Stays (sym (expr.rolls-Array x.0)) (λ h. ap is_plain (subst_array targs [] x.0) ∙ plain_array (put x.0) ∙ x.1 (sym (plain_array x.0) ∙ h))
    stays_rolled (TypeExpr-F.ByRef x) = subst Stays (sym (expr.rolls-ByRef x.0)) (λ h. ap is_plain (subst_by_ref targs [] x.0) ∙ plain_by_ref (put x.0) ∙ x.1 (sym (plain_by_ref x.0) ∙ h))
    stays_rolled (TypeExpr-F.Var n) = subst Stays (sym (expr.rolls-Var n)) (λ h. ap is_plain (subst_var targs [] n) ∙ arg_plain targs n (expr.Var n) ts h)
    stays_rolled (TypeExpr-F.MVar n) = subst Stays (sym (expr.rolls-MVar n)) (λ h. ap is_plain (subst_mvar targs [] n) ∙ arg_plain [] n (expr.MVar n) refl h)
    stays_rolled (TypeExpr-F.Mod required by x) =
        subst Stays (sym (expr.rolls-Mod required by x.0)) (λ h. ap is_plain (subst_mod targs [] required by x.0) ∙ plain_mod required by (put x.0) ∙ x.1 (sym (plain_mod required by x.0) ∙ h))

    all_stay : (e : TypeExpr) → Stays e
    all_stay = ind-TypeExpr Stays (λ x y is. subst (λ z. Stays (roll-TypeExpr z)) is (stays_rolled y))

  pub put_plain : (e b : TypeExpr) → Plain e → Plain b → Plain (exprs.subst (args_of e) [] b)
  put_plain e b h g = all_stay (args_of e) (args_plain e h) b g

  -- ---- signatures that are made of types

  abbrev made : TypeExpr → Sig
  made = made_sig recs

  abbrev IsMade : TypeExpr → Type 0
  IsMade e = Plain e → IsFine recs (made e)

  args_made : (xs : List (With IsMade)) → ArePlain (map (λ e. e.0) xs) → Fine recs (flat_map (λ ns. ns) (map numbers_in (map made (map (λ e. e.0) xs)))) (flat_map (λ ns. ns) (map modifiers (map made (map (λ e. e.0) xs))))
  args_made [] h = fine_none recs []
  args_made (x ∷ xs) h =
      let r : Bool = list_all itself (map is_plain (map (λ e. e.0) xs)) in
      fine_join recs (numbers_in (made x.0)) (modifiers (made x.0)) (flat_map (λ ns. ns) (map numbers_in (map made (map (λ e. e.0) xs)))) (flat_map (λ ns. ns) (map modifiers (map made (map (λ e. e.0) xs))))
      (x.1 (first_so (is_plain x.0) r h)) (args_made xs (second_so (is_plain x.0) r h))

  layer_made : (y : TypeExpr-F (With IsMade)) → plain_layer (map-TypeExpr TypeExpr Bool is_plain (plain_parts IsMade y)) ≡ true → IsFine recs (made_layer recs (map-TypeExpr TypeExpr Sig made (plain_parts IsMade y)))
  layer_made (TypeExpr-F.Prim n) h = of_layer recs (Sig-F.Prim n) (sig.Prim n) (sig.rolls-Prim n) (fine_none recs [])
  layer_made (TypeExpr-F.Def t) h =
      let v : Bool = is_value recs t in of_layer recs (Sig-F.Named v (suc t.0)) (sig.Named v (suc t.0)) (sig.rolls-Named v (suc t.0)) (fine_one recs (suc t.0) h)
  layer_made (TypeExpr-F.Inst t xs) h =
      let v : Bool = is_value recs t in
      let es : List TypeExpr = map (λ e. e.0) xs in
      let ss : List Sig = map made es in
      let all : Bool = list_all itself (map is_plain es) in
      of_layer recs (Sig-F.Inst v (suc t.0) ss) (sig.Inst v (suc t.0) ss) (sig.rolls-Inst v (suc t.0) ss)
      (fine_listed recs (suc t.0) (flat_map (λ ns. ns) (map numbers_in ss)) (flat_map (λ ns. ns) (map modifiers ss)) (first_so (is_listed recs (suc t.0)) all h) (args_made xs (second_so (is_listed recs (suc t.0)) all h)))
  layer_made (TypeExpr-F.Array x) h = of_layer recs (Sig-F.Array (made x.0)) (sig.Array (made x.0)) (sig.rolls-Array (made x.0)) (x.1 h)
  layer_made (TypeExpr-F.ByRef x) h = of_layer recs (Sig-F.ByRef (made x.0)) (sig.ByRef (made x.0)) (sig.rolls-ByRef (made x.0)) (x.1 h)
  layer_made (TypeExpr-F.Var n) h = of_layer recs (Sig-F.Var n) (sig.Var n) (sig.rolls-Var n) (fine_none recs [])
  layer_made (TypeExpr-F.MVar n) h = of_layer recs (Sig-F.MVar n) (sig.MVar n) (sig.rolls-MVar n) (fine_none recs [])
  layer_made (TypeExpr-F.Mod required by x) h =
      of_layer recs (Sig-F.Mod required (suc by.0) (made x.0)) (sig.Mod required (suc by.0) (made x.0)) (sig.rolls-Mod required (suc by.0) (made x.0))
      (fine_modifier recs (suc by.0) (numbers_in (made x.0)) (modifiers (made x.0)) (x.1 h))

  rolled_made : (y : TypeExpr-F (With IsMade)) → IsMade (roll-TypeExpr (plain_parts IsMade y))
  unfolding made_sig
  rolled_made y h =
      subst (λ (s : Sig). IsFine recs s) (sym (fold-roll-TypeExpr Sig (made_layer recs) (plain_parts IsMade y)))
      (layer_made y (sym (plain_rolled (plain_parts IsMade y)) ∙ h))

  pub made_fine : (e : TypeExpr) → Plain e → IsFine recs (made_sig recs e)
  made_fine = ind-TypeExpr IsMade (λ x y is. subst (λ z. IsMade (roll-TypeExpr z)) is (rolled_made y))
