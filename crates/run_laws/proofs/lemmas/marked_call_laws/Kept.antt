-- The definitions of a kept type and of its bases are kept.
use Rattle.std.proofs.Common.{◌≡◌, Bool, List, map, Option, Some, None, refl, sym, subst}
use Rattle.std.specs.Prelude.{IsTrue}
use Rattle.std.specs.List.{list_all}
use Rattle.std.specs.Option.{option_and_then}
use Rattle.std.specs.Cmp.{first_so}
use Rattle.il_base.specs.declared.ids.TypeId.{TypeId}
use Rattle.il_base.specs.declared.world_model.expr.TypeExpr.{TypeExpr, out-TypeExpr}
use Rattle.il_base.specs.declared.world_model.expr.TypeExpr.TheFolds.{map-TypeExpr}
use Rattle.il_base.specs.declared.world_model.expr.TypeExpr.TheOpen.{TypeExpr-F}
use Rattle.il_base.specs.declared.world_model.record.AsmRec.{AsmRec}
use Rattle.il_base.specs.world_model.Worlds.{types_in}
use Rattle.rules.specs.declared.link_rules.row_at.RowAt.{RowAt}
use Rattle.rules.specs.link_rules.Members.{type_home, owner_in, owner_of, base_at}
use Rattle.rules.specs.link_rules.Cycles.{home_of}
use Rattle.rules.specs.change_rules.Change.{Keep}
use Rattle.rules.specs.change_rules.Keeps.{Names, both, names_layer, names_of, keeps_expr}
use Rattle.rules.specs.world_change_rules.Places.{keeps_type_row}
use Rattle.rules.specs.world_change_rules.Kept.{KeepsRows}
use Rattle.run_laws.proofs.lemmas.query_laws.Ids.{has_number}
use Rattle.run_laws.proofs.lemmas.query_laws.Homes.{names_out}

module _ (k : Keep) (kept : RowAt → Bool) (recs : List AsmRec) (keeps : KeepsRows k kept recs) where
  owner_in_kept : (x : TypeExpr-F TypeExpr) (t : TypeId) → IsTrue (names_layer k (map-TypeExpr TypeExpr Names (names_of k) x)).kept → owner_in recs x ≡ Some t → IsTrue (k.typ t.0)
  owner_in_kept (TypeExpr-F.Prim n) t h e = keeps.prims n t e
  owner_in_kept (TypeExpr-F.Def s) t h e = let same : s ≡ t = cc in subst (λ (x : TypeId). IsTrue (k.typ x.0)) same h
  owner_in_kept (TypeExpr-F.Inst s args) t h e =
      let same : s ≡ t = cc in subst (λ (x : TypeId). IsTrue (k.typ x.0)) same (first_so (k.typ s.0) (list_all both (map (names_of k) args)) h)
  owner_in_kept (TypeExpr-F.Array x) t h e = keeps.array t e
  owner_in_kept (TypeExpr-F.ByRef x) t h e = absurd (cc)
  owner_in_kept (TypeExpr-F.Var n) t h e = absurd (cc)
  owner_in_kept (TypeExpr-F.MVar n) t h e = absurd (cc)
  owner_in_kept (TypeExpr-F.Mod required by x) t h e = absurd (cc)

  owner_kept : (e : TypeExpr) (t : TypeId) → IsTrue (keeps_expr k e) → owner_of recs e ≡ Some t → IsTrue (k.typ t.0)
  unfolding owner_of
  owner_kept e t h is = owner_in_kept (out-TypeExpr e) t (subst (λ (n : Names). IsTrue n.kept) (names_out k e) h) is

  kept_by : (o : Option TypeId) (at : RowAt) → ((t : TypeId) → o ≡ Some t → IsTrue (k.typ t.0)) → option_and_then (type_home recs) o ≡ Some at → IsTrue (keeps_type_row k recs at)
  kept_by None at h e = absurd (cc)
  kept_by (Some t) at h e = subst (λ n. IsTrue (k.typ n)) (sym (has_number types_in recs t.0 at e)) (h t refl)

  pub home_kept : (e : TypeExpr) (at : RowAt) → IsTrue (keeps_expr k e) → home_of recs e ≡ Some at → IsTrue (keeps_type_row k recs at)
  home_kept e at h is = kept_by (owner_of recs e) at (λ t o. owner_kept e t h o) is

  pub base_kept : (x to : RowAt) (b : TypeExpr) → IsTrue (keeps_type_row k recs x) → base_at recs x ≡ Some b → home_of recs b ≡ Some to → IsTrue (keeps_type_row k recs to)
  base_kept x to b h at is = home_kept b to (keeps.bases x b h at) is
