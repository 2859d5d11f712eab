-- A type as an argument, by its outermost construct.
use Rattle.std.proofs.Common.{◌≡◌, ℕ, Bool, List, [], map, Option, sym, ap, ◌∙◌}
use Rattle.il_base.specs.declared.ids.TypeId.{TypeId}
use Rattle.il_base.specs.declared.ids.Place.{Place}
use Rattle.il_base.specs.declared.world_model.expr.TypeExpr.{TypeExpr, fold-TypeExpr, fold-roll-TypeExpr}
use Rattle.il_base.specs.declared.world_model.expr.TypeExpr.TheOpen.{TypeExpr-F}
use Rattle.il_base.specs.declared.world_model.expr.TypeExpr.TheVariants as expr
use Rattle.il_base.specs.declared.world_model.record.AsmRec.{AsmRec}
use Rattle.il_base.specs.world_model.Worlds.{prim_type}
use Rattle.rules.specs.link_rules.Members.{array_type}
use Rattle.rules.specs.declared.flow_rules.source.Source.TheVariants as source
use Rattle.rules.specs.flow_rules.Sources.{own_parameter}
use Rattle.rules.specs.declared.site_rules.target.Target.TheVariants as target
use Rattle.rules.specs.site_rules.Kinds.{type_kinds}
use Rattle.rules.specs.site_rules.Arguments.{Argument, known_type, argument_layer, argument, sites_from}

module _ (recs : List AsmRec) (owner : Option TypeId) (place : Place) where
  pub argument_prim : (n : ℕ) → argument recs owner place (expr.Prim n) ≡ record { known = known_type (prim_type recs n); sites = [] }
  unfolding argument
  argument_prim n =
      ap (fold-TypeExpr Argument (argument_layer recs owner place)) (sym (expr.rolls-Prim n)) ∙ fold-roll-TypeExpr Argument (argument_layer recs owner place) (TypeExpr-F.Prim n)

  pub argument_def : (t : TypeId) → argument recs owner place (expr.Def t) ≡ record { known = source.KnownType t; sites = [] }
  unfolding argument
  argument_def t =
      ap (fold-TypeExpr Argument (argument_layer recs owner place)) (sym (expr.rolls-Def t)) ∙ fold-roll-TypeExpr Argument (argument_layer recs owner place) (TypeExpr-F.Def t)

  pub argument_inst : (t : TypeId) (args : List TypeExpr) → argument recs owner place (expr.Inst t args) ≡ record { known = source.KnownType t; sites = sites_from place (λ k. target.TypeArg t k) (type_kinds recs t) 0 (map (argument recs owner place) args) }
  unfolding argument
  argument_inst t args =
      ap (fold-TypeExpr Argument (argument_layer recs owner place)) (sym (expr.rolls-Inst t args)) ∙ fold-roll-TypeExpr Argument (argument_layer recs owner place) (TypeExpr-F.Inst t args)

  pub argument_array : (e : TypeExpr) → argument recs owner place (expr.Array e) ≡ record { known = known_type (array_type recs); sites = (argument recs owner place e).sites }
  unfolding argument
  argument_array e =
      ap (fold-TypeExpr Argument (argument_layer recs owner place)) (sym (expr.rolls-Array e)) ∙ fold-roll-TypeExpr Argument (argument_layer recs owner place) (TypeExpr-F.Array e)

  pub argument_by_ref : (e : TypeExpr) → argument recs owner place (expr.ByRef e) ≡ record { known = source.Opaque; sites = (argument recs owner place e).sites }
  unfolding argument
  argument_by_ref e =
      ap (fold-TypeExpr Argument (argument_layer recs owner place)) (sym (expr.rolls-ByRef e)) ∙ fold-roll-TypeExpr Argument (argument_layer recs owner place) (TypeExpr-F.ByRef e)

  pub argument_var : (n : ℕ) → argument recs owner place (expr.Var n) ≡ record { known = own_parameter owner n; sites = [] }
  unfolding argument
  argument_var n =
      ap (fold-TypeExpr Argument (argument_layer recs owner place)) (sym (expr.rolls-Var n)) ∙ fold-roll-TypeExpr Argument (argument_layer recs owner place) (TypeExpr-F.Var n)

  pub argument_mvar : (n : ℕ) → argument recs owner place (expr.MVar n) ≡ record { known = source.MethodParam n; sites = [] }
  unfolding argument
  argument_mvar n =
      ap (fold-TypeExpr Argument (argument_layer recs owner place)) (sym (expr.rolls-MVar n)) ∙ fold-roll-TypeExpr Argument (argument_layer recs owner place) (TypeExpr-F.MVar n)

  pub argument_mod : (required : Bool) (by : TypeId) (e : TypeExpr) → argument recs owner place (expr.Mod required by e) ≡ argument recs owner place e
  unfolding argument
  argument_mod required by e =
      ap (fold-TypeExpr Argument (argument_layer recs owner place)) (sym (expr.rolls-Mod required by e)) ∙ fold-roll-TypeExpr Argument (argument_layer recs owner place) (TypeExpr-F.Mod required by e)

pub ruleset laying = (argument_prim, argument_def, argument_inst, argument_array, argument_by_ref, argument_var, argument_mvar, argument_mod)
