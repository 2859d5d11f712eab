-- The definition of a kept type moves with it, and is kept.
use Rattle.std.proofs.Common.{◌≡◌, ℕ, Bool, true, false, List, [], ◌∷◌, map, Option, Some, None, refl, sym, ap, subst, ◌∙◌}
use Rattle.std.specs.Prelude.{IsTrue, ◌&&◌}
use Rattle.std.specs.List.{list_all}
use Rattle.std.specs.Option.{option_map, option_and_then}
use Rattle.std.specs.Cmp.{first_so, second_so}
use Rattle.il_base.specs.declared.ids.TypeId.{TypeId}
use Rattle.il_base.specs.declared.world_model.expr.TypeExpr.{TypeExpr, out-TypeExpr, roll-out-TypeExpr}
use Rattle.il_base.specs.declared.world_model.expr.TypeExpr.TheFolds.{map-TypeExpr}
use Rattle.il_base.specs.declared.world_model.expr.TypeExpr.TheOpen.{TypeExpr-F}
use Rattle.il_base.specs.declared.world_model.record.AsmRec.{AsmRec}
use Rattle.il_base.specs.world_model.Worlds.{types_in}
use Rattle.rules.specs.declared.link_rules.row_at.RowAt.{RowAt}
use Rattle.rules.specs.link_rules.Members.{type_home, owner_in, owner_of, args_in, args_of}
use Rattle.rules.specs.link_rules.Cycles.{home_of}
use Rattle.rules.specs.change_rules.Change.{Keep, Change}
use Rattle.rules.specs.change_rules.Moves.{move_type, move_expr, move_exprs}
use Rattle.rules.specs.change_rules.Keeps.{Names, both, names_layer, names_of, keeps_expr, shows_expr}
use Rattle.base_laws.proofs.lemmas.change_laws.Exprs.{moved_in, out_moved}
use Rattle.base_laws.proofs.lemmas.change_laws.Subst.{names_rolled}
use Rattle.rules.specs.world_change_rules.Places.{Places, PlacesMove, keeps_type_row}
use Rattle.rules.specs.world_change_rules.Rows.{CoreMoves, RowsMove}
use Rattle.rules.specs.world_change_rules.Kept.{KeepsRows}
use Rattle.run_laws.proofs.lemmas.query_laws.Ids.{has_number}

-- ---- a type by its outermost construct

pub names_out : (k : Keep) (e : TypeExpr) → names_of k e ≡ names_layer k (map-TypeExpr TypeExpr Names (names_of k) (out-TypeExpr e))
names_out k e = ap (names_of k) (sym (roll-out-TypeExpr e)) ∙ names_rolled k (out-TypeExpr e)

all_shown : (k : Keep) (es : List TypeExpr) → IsTrue (list_all both (map (names_of k) es)) → IsTrue (list_all (shows_expr k) es)
all_shown k [] h = refl
all_shown k (e ∷ es) h =
    let b : Bool = both (names_of k e) in
    let r : Bool = list_all both (map (names_of k) es) in
    both_true (shows_expr k e) (list_all (shows_expr k) es) (first_so b r h) (all_shown k es (second_so b r h))
  where
    both_true : (a b : Bool) → IsTrue a → IsTrue b → IsTrue (a && b)
    both_true true b h g = g
    both_true false b h g = absurd (cc)

pub args_in_shown : (k : Keep) (x : TypeExpr-F TypeExpr) → IsTrue (names_layer k (map-TypeExpr TypeExpr Names (names_of k) x)).kept → IsTrue (list_all (shows_expr k) (args_in x))
args_in_shown k (TypeExpr-F.Prim n) h = refl
args_in_shown k (TypeExpr-F.Def t) h = refl
args_in_shown k (TypeExpr-F.Inst t args) h = all_shown k args (second_so (k.typ t.0) (list_all both (map (names_of k) args)) h)
args_in_shown k (TypeExpr-F.Array x) h = refl
args_in_shown k (TypeExpr-F.ByRef x) h = refl
args_in_shown k (TypeExpr-F.Var n) h = refl
args_in_shown k (TypeExpr-F.MVar n) h = refl
args_in_shown k (TypeExpr-F.Mod required by x) h = refl

-- the arguments of a kept type are shown
pub args_shown : (k : Keep) (e : TypeExpr) → IsTrue (keeps_expr k e) → IsTrue (list_all (shows_expr k) (args_of e))
unfolding args_of
args_shown k e h = args_in_shown k (out-TypeExpr e) (subst (λ (n : Names). IsTrue n.kept) (names_out k e) h)

args_in_moved : (k : Change) (x : TypeExpr-F TypeExpr) → args_in (moved_in k.rho x) ≡ move_exprs k.rho (args_in x)
args_in_moved k (TypeExpr-F.Prim n) = refl
args_in_moved k (TypeExpr-F.Def t) = refl
args_in_moved k (TypeExpr-F.Inst t args) = refl
args_in_moved k (TypeExpr-F.Array x) = refl
args_in_moved k (TypeExpr-F.ByRef x) = refl
args_in_moved k (TypeExpr-F.Var n) = refl
args_in_moved k (TypeExpr-F.MVar n) = refl
args_in_moved k (TypeExpr-F.Mod required by x) = refl

pub args_moved : (k : Change) (e : TypeExpr) → args_of (move_expr k.rho e) ≡ move_exprs k.rho (args_of e)
unfolding args_of
args_moved k e = ap args_in (out_moved k.rho e) ∙ args_in_moved k (out-TypeExpr e)

-- ---- a type's definition, by places and the core library alone

module _ (k : Change) (kept : RowAt → Bool) (p : Places) (after before : List AsmRec) (places : PlacesMove k p after before) (core : CoreMoves k after before) (keeps : KeepsRows k.keep kept before) where
  owner_in_moved : (x : TypeExpr-F TypeExpr) → owner_in after (moved_in k.rho x) ≡ option_map (move_type k.rho) (owner_in before x)
  owner_in_moved (TypeExpr-F.Prim n) = core.prims n
  owner_in_moved (TypeExpr-F.Def t) = refl
  owner_in_moved (TypeExpr-F.Inst t args) = refl
  owner_in_moved (TypeExpr-F.Array x) = core.array
  owner_in_moved (TypeExpr-F.ByRef x) = refl
  owner_in_moved (TypeExpr-F.Var n) = refl
  owner_in_moved (TypeExpr-F.MVar n) = refl
  owner_in_moved (TypeExpr-F.Mod required by x) = refl

  owner_goes : (e : TypeExpr) → owner_of after (move_expr k.rho e) ≡ option_map (move_type k.rho) (owner_of before e)
  unfolding owner_of
  owner_goes e = ap (owner_in after) (out_moved k.rho e) ∙ owner_in_moved (out-TypeExpr e)

  owner_in_kept : (x : TypeExpr-F TypeExpr) (t : TypeId) → IsTrue (names_layer k.keep (map-TypeExpr TypeExpr Names (names_of k.keep) x)).kept → owner_in before x ≡ Some t → IsTrue (k.keep.typ t.0)
  owner_in_kept (TypeExpr-F.Prim n) t h e = keeps.prims n t e
  owner_in_kept (TypeExpr-F.Def s) t h e = let same : s ≡ t = cc in subst (λ (x : TypeId). IsTrue (k.keep.typ x.0)) same h
  owner_in_kept (TypeExpr-F.Inst s args) t h e =
      let same : s ≡ t = cc in subst (λ (x : TypeId). IsTrue (k.keep.typ x.0)) same (first_so (k.keep.typ s.0) (list_all both (map (names_of k.keep) args)) h)
  owner_in_kept (TypeExpr-F.Array x) t h e = keeps.array t e
  owner_in_kept (TypeExpr-F.ByRef x) t h e = absurd (cc)
  owner_in_kept (TypeExpr-F.Var n) t h e = absurd (cc)
  owner_in_kept (TypeExpr-F.MVar n) t h e = absurd (cc)
  owner_in_kept (TypeExpr-F.Mod required by x) t h e = absurd (cc)

  owner_stays : (e : TypeExpr) (t : TypeId) → IsTrue (keeps_expr k.keep e) → owner_of before e ≡ Some t → IsTrue (k.keep.typ t.0)
  unfolding owner_of
  owner_stays e t h is = owner_in_kept (out-TypeExpr e) t (subst (λ (n : Names). IsTrue n.kept) (names_out k.keep e) h) is

  home_by : (o : Option TypeId) → ((t : TypeId) → o ≡ Some t → IsTrue (k.keep.typ t.0))
      → option_and_then (type_home after) (option_map (move_type k.rho) o) ≡ option_map p.typ (option_and_then (type_home before) o)
  home_by None h = refl
  home_by (Some t) h = places.type_homes t.0 (h t refl)

  pub home_goes : (e : TypeExpr) → IsTrue (keeps_expr k.keep e) → home_of after (move_expr k.rho e) ≡ option_map p.typ (home_of before e)
  home_goes e h = ap (option_and_then (type_home after)) (owner_goes e) ∙ home_by (owner_of before e) (λ t is. owner_stays e t h is)

  kept_by : (o : Option TypeId) (at : RowAt) → ((t : TypeId) → o ≡ Some t → IsTrue (k.keep.typ t.0)) → option_and_then (type_home before) o ≡ Some at → IsTrue (keeps_type_row k.keep before at)
  kept_by None at h e = absurd (cc)
  kept_by (Some t) at h e = subst (λ (n : ℕ). IsTrue (k.keep.typ n)) (sym (has_number types_in before t.0 at e)) (h t refl)

  pub home_stays : (e : TypeExpr) (at : RowAt) → IsTrue (keeps_expr k.keep e) → home_of before e ≡ Some at → IsTrue (keeps_type_row k.keep before at)
  home_stays e at h is = kept_by (owner_of before e) at (λ t o. owner_stays e t h o) is

-- ---- where all rows move

module _ (k : Change) (kept : RowAt → Bool) (p : Places) (after before : List AsmRec) (r : RowsMove k kept p after before) (keeps : KeepsRows k.keep kept before) where
  pub owner_moved : (e : TypeExpr) → owner_of after (move_expr k.rho e) ≡ option_map (move_type k.rho) (owner_of before e)
  owner_moved e = owner_goes k kept p after before r.places r.core keeps e

  pub owner_kept : (e : TypeExpr) (t : TypeId) → IsTrue (keeps_expr k.keep e) → owner_of before e ≡ Some t → IsTrue (k.keep.typ t.0)
  owner_kept e t h is = owner_stays k kept p after before r.places r.core keeps e t h is

  pub home_moved : (e : TypeExpr) → IsTrue (keeps_expr k.keep e) → home_of after (move_expr k.rho e) ≡ option_map p.typ (home_of before e)
  home_moved e h = home_goes k kept p after before r.places r.core keeps e h

  pub home_kept : (e : TypeExpr) (at : RowAt) → IsTrue (keeps_expr k.keep e) → home_of before e ≡ Some at → IsTrue (keeps_type_row k.keep before at)
  home_kept e at h is = home_stays k kept p after before r.places r.core keeps e at h is
