-- The sites of the arguments in a type, by its outermost construct.
use Rattle.std.proofs.Common.{◌≡◌, ℕ, ◌++◌, Bool, List, map, Option, ap, ◌∙◌}
use Rattle.std.proofs.lemmas.List.{append-nil}
use Rattle.il_base.specs.declared.ids.TypeId.{TypeId}
use Rattle.il_base.specs.declared.ids.Place.{Place}
use Rattle.il_base.specs.declared.world_model.expr.TypeExpr.{TypeExpr}
use Rattle.il_base.specs.declared.world_model.expr.TypeExpr.TheVariants as expr
use Rattle.il_base.specs.declared.world_model.record.AsmRec.{AsmRec}
use Rattle.rules.specs.declared.site_rules.site.Site.{Site}
use Rattle.rules.specs.site_rules.Arguments.{Argument, argument, sites_from, type_argument_sites}
use Rattle.rules.proofs.lemmas.site_rules.Layers.{argument_prim, argument_def, argument_inst, argument_array, argument_by_ref, argument_var, argument_mvar, argument_mod}
use Rattle.requirements.specs.declared.generic_sites.arguments.Generic.TheVariants as generic
use Rattle.requirements.specs.generic_sites.Asked.{target_of, asked_kinds}

module _ (recs : List AsmRec) (owner : Option TypeId) (place : Place) (out : List Site) where
  pub put_prim : (n : ℕ) → out ++ type_argument_sites recs owner place (expr.Prim n) ≡ out
  unfolding type_argument_sites
  put_prim n = ap (λ (a : Argument). out ++ a.sites) (argument_prim recs owner place n) ∙ append-nil out

  pub put_def : (t : TypeId) → out ++ type_argument_sites recs owner place (expr.Def t) ≡ out
  unfolding type_argument_sites
  put_def t = ap (λ (a : Argument). out ++ a.sites) (argument_def recs owner place t) ∙ append-nil out

  pub put_inst : (t : TypeId) (args : List TypeExpr) → out ++ type_argument_sites recs owner place (expr.Inst t args) ≡ out ++ sites_from place (target_of (generic.Type t)) (asked_kinds recs (generic.Type t)) 0 (map (argument recs owner place) args)
  unfolding type_argument_sites
  put_inst t args = ap (λ (a : Argument). out ++ a.sites) (argument_inst recs owner place t args)

  pub put_array : (e : TypeExpr) → out ++ type_argument_sites recs owner place (expr.Array e) ≡ out ++ type_argument_sites recs owner place e
  unfolding type_argument_sites
  put_array e = ap (λ (a : Argument). out ++ a.sites) (argument_array recs owner place e)

  pub put_by_ref : (e : TypeExpr) → out ++ type_argument_sites recs owner place (expr.ByRef e) ≡ out ++ type_argument_sites recs owner place e
  unfolding type_argument_sites
  put_by_ref e = ap (λ (a : Argument). out ++ a.sites) (argument_by_ref recs owner place e)

  pub put_var : (n : ℕ) → out ++ type_argument_sites recs owner place (expr.Var n) ≡ out
  unfolding type_argument_sites
  put_var n = ap (λ (a : Argument). out ++ a.sites) (argument_var recs owner place n) ∙ append-nil out

  pub put_mvar : (n : ℕ) → out ++ type_argument_sites recs owner place (expr.MVar n) ≡ out
  unfolding type_argument_sites
  put_mvar n = ap (λ (a : Argument). out ++ a.sites) (argument_mvar recs owner place n) ∙ append-nil out

  pub put_mod : (required : Bool) (by : TypeId) (e : TypeExpr) → out ++ type_argument_sites recs owner place (expr.Mod required by e) ≡ out ++ type_argument_sites recs owner place e
  unfolding type_argument_sites
  put_mod required by e = ap (λ (a : Argument). out ++ a.sites) (argument_mod recs owner place required by e)

-- what is put at the end, one level of a type at a time
pub ruleset arguing = (put_prim, put_def, put_inst, put_array, put_by_ref, put_var, put_mvar, put_mod)
