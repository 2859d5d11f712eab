-- Closed types of fields move, where the heads of kept types stay (II.9.8).
use Rattle.std.proofs.Common.{◌≡◌, ℕ, Bool, true, false, ◌&&◌, List, [], ◌∷◌, length, map, Option, Some, refl, sym, ap, subst, ◌∙◌}
use Rattle.std.specs.Prelude.{IsTrue}
use Rattle.std.specs.List.{list_all}
use Rattle.std.specs.Option.{option_map}
use Rattle.std.specs.Cmp.{first_so, second_so}
use Rattle.il_base.specs.declared.world_model.expr.TypeExpr.{TypeExpr, fold-roll-TypeExpr, ind-TypeExpr, roll-TypeExpr}
use Rattle.il_base.specs.declared.world_model.expr.TypeExpr.TheFolds.{map-TypeExpr}
use Rattle.il_base.specs.declared.world_model.expr.TypeExpr.TheOpen.{TypeExpr-F}
use Rattle.il_base.specs.world_model.Exprs as exprs
use Rattle.il_base.specs.declared.cil_values.definition.Head.{Head}
use Rattle.rules.specs.step_rules.Closing.{plain, whole_if, alone_if, takes, is_whole, Standing, standing_layer, standing, if_so, closed_cell_by}
use Rattle.rules.specs.change_rules.Change.{Change}
use Rattle.rules.specs.change_rules.Moves.{move_expr, move_exprs}
use Rattle.rules.specs.change_rules.Keeps.{Names, both, names_layer, names_of, keeps_expr, shows_expr}
use Rattle.base_laws.proofs.lemmas.change_laws.Exprs.{With, plain_parts, moved_in, move_rolled}
use Rattle.base_laws.proofs.lemmas.change_laws.Subst.{subst_moves, subst_stays, names_rolled}
use Rattle.run_laws.proofs.lemmas.lock_words.Types.{plain_moved, plain_stays}

module _ (k : Change) (after before : ℕ → Option Head) (a : (t : ℕ) → IsTrue (k.keep.typ t) → after (k.rho.typ t) ≡ before t) where
  abbrev StandsAlike : TypeExpr → Type 0
  StandsAlike e = IsTrue (keeps_expr k.keep e) → standing after (move_expr k.rho e) ≡ standing before e

  standing_rolled : (q : ℕ → Option Head) (x : TypeExpr-F TypeExpr) → standing q (roll-TypeExpr x) ≡ standing_layer q (map-TypeExpr TypeExpr Standing (standing q) x)
  unfolding standing
  standing_rolled q x = fold-roll-TypeExpr Standing (standing_layer q) x

  stand_args : (xs : List (With StandsAlike)) → IsTrue (list_all both (map (names_of k.keep) (map (λ e. e.0) xs)))
      → map (standing after) (move_exprs k.rho (map (λ e. e.0) xs)) ≡ map (standing before) (map (λ e. e.0) xs)
  stand_args [] h = refl
  stand_args (x ∷ xs) h =
      let n : Names = names_of k.keep x.0 in
      let rest : Bool = list_all both (map (names_of k.keep) (map (λ e. e.0) xs)) in
      λ i. x.1 (first_so n.kept n.shown (first_so (both n) rest h)) i ∷ stand_args xs (second_so (both n) rest h) i

  stand_layer : (y : TypeExpr-F (With StandsAlike)) → IsTrue (names_layer k.keep (map-TypeExpr TypeExpr Names (names_of k.keep) (plain_parts StandsAlike y))).kept
      → standing_layer after (map-TypeExpr TypeExpr Standing (standing after) (moved_in k.rho (plain_parts StandsAlike y))) ≡ standing_layer before (map-TypeExpr TypeExpr Standing (standing before) (plain_parts StandsAlike y))
  stand_layer (TypeExpr-F.Prim n) h = refl
  stand_layer (TypeExpr-F.Def t) h = ap (λ o. whole_if (takes o 0)) (a t.0 h)
  stand_layer (TypeExpr-F.Inst t xs) h =
      let rest : Bool = list_all both (map (names_of k.keep) (map (λ e. e.0) xs)) in
      let args : map (standing after) (move_exprs k.rho (map (λ e. e.0) xs)) ≡ map (standing before) (map (λ e. e.0) xs) = stand_args xs (second_so (k.keep.typ t.0) rest h) in
      λ i. whole_if (takes (a t.0 (first_so (k.keep.typ t.0) rest h) i) (length (args i)) && list_all is_whole (args i))
  stand_layer (TypeExpr-F.Array x) h = ap (λ s. whole_if (is_whole s)) (x.1 h)
  stand_layer (TypeExpr-F.ByRef x) h = ap alone_if (x.1 h)
  stand_layer (TypeExpr-F.Var n) h = refl
  stand_layer (TypeExpr-F.MVar n) h = refl
  stand_layer (TypeExpr-F.Mod required by x) h = x.1 (second_so (k.keep.typ by.0) _ h)

  stand_rolled : (y : TypeExpr-F (With StandsAlike)) → StandsAlike (roll-TypeExpr (plain_parts StandsAlike y))
  stand_rolled y h =
      let x : TypeExpr-F TypeExpr = plain_parts StandsAlike y in
      ap (standing after) (move_rolled k.rho x) ∙ standing_rolled after (moved_in k.rho x)
      ∙ stand_layer y (sym (ap (λ (n : Names). n.kept) (names_rolled k.keep x)) ∙ h) ∙ sym (standing_rolled before x)

  standing_moved : (e : TypeExpr) → IsTrue (keeps_expr k.keep e) → standing after (move_expr k.rho e) ≡ standing before e
  standing_moved = ind-TypeExpr StandsAlike (λ x y is. subst (λ z. StandsAlike (roll-TypeExpr z)) is (stand_rolled y))

  module _ (targs : List TypeExpr) (ts : IsTrue (list_all (shows_expr k.keep) targs)) where
    abbrev In : TypeExpr → TypeExpr
    In e = plain (exprs.subst targs [] e)

    in_stays : (e : TypeExpr) → IsTrue (keeps_expr k.keep e) → IsTrue (keeps_expr k.keep (In e))
    in_stays e h = (plain_stays k.keep (exprs.subst targs [] e)).kept ((subst_stays k.keep targs [] ts refl e).kept h)

    in_moves : (e : TypeExpr) → plain (exprs.subst (move_exprs k.rho targs) [] (move_expr k.rho e)) ≡ move_expr k.rho (In e)
    in_moves e = ap plain (sym (subst_moves k.rho targs [] e)) ∙ plain_moved k.rho (exprs.subst targs [] e)

    so_moved : (b : Bool) (c : TypeExpr) → if_so b (move_expr k.rho c) ≡ option_map (move_expr k.rho) (if_so b c)
    so_moved true c = refl
    so_moved false c = refl

    pub closed_cell_moved : (e : TypeExpr) → IsTrue (keeps_expr k.keep e)
        → closed_cell_by after (move_exprs k.rho targs) [] (move_expr k.rho e) ≡ option_map (move_expr k.rho) (closed_cell_by before targs [] e)
    unfolding closed_cell_by
    closed_cell_moved e h =
        ap (λ (c : TypeExpr). if_so (is_whole (standing after c)) c) (in_moves e)
        ∙ ap (λ s. if_so (is_whole s) (move_expr k.rho (In e))) (standing_moved (In e) (in_stays e h))
        ∙ so_moved (is_whole (standing before (In e))) (In e)

    so_is : (b : Bool) (c d : TypeExpr) → if_so b c ≡ Some d → c ≡ d
    so_is true c d e = cc
    so_is false c d e = cc

    pub closed_cell_kept : (e c : TypeExpr) → IsTrue (keeps_expr k.keep e) → closed_cell_by before targs [] e ≡ Some c → IsTrue (keeps_expr k.keep c)
    unfolding closed_cell_by
    closed_cell_kept e c h is = subst (λ (d : TypeExpr). IsTrue (keeps_expr k.keep d)) (so_is (is_whole (standing before (In e))) (In e) c is) (in_stays e h)
