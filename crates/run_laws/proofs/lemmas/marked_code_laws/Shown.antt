-- A type is shown where its definition, those of its elements and modifiers, and its generic arguments are.
use Rattle.std.proofs.Common.{◌≡◌, Bool, List, [], ◌∷◌, ◌⊎◌, inl, inr, sym, subst}
use Rattle.std.specs.Prelude.{IsTrue}
use Rattle.il_base.specs.declared.ids.TypeId.{TypeId}
use Rattle.il_base.specs.declared.ids.Item.TheVariants as item
use Rattle.il_base.specs.declared.world_model.expr.TypeExpr.{TypeExpr, fold-roll-TypeExpr, ind-TypeExpr, roll-TypeExpr}
use Rattle.il_base.specs.declared.world_model.expr.TypeExpr.TheFolds.{map-TypeExpr}
use Rattle.il_base.specs.declared.world_model.expr.TypeExpr.TheOpen.{TypeExpr-F}
use Rattle.il_base.specs.declared.world_model.record.AsmRec.{AsmRec}
use Rattle.base_laws.proofs.lemmas.type_laws.Within.{In}
use Rattle.rules.specs.mark_rules.Facts.{Fact}
use Rattle.rules.specs.mark_rules.Facts.Fact.{marked, shown}
use Rattle.rules.specs.mark_rules.Naming.{types_in}
use Rattle.rules.specs.mark_rules.Shown.{Within, within_layer, within, arguments_in, shown_layer, definitions_in}
use Rattle.rules.specs.change_rules.Keeps.{shows_expr}
use Rattle.base_laws.proofs.lemmas.change_laws.Exprs.{With, plain_parts}
use Rattle.run_laws.specs.marked_laws.Flags.{keep_of}
use Rattle.run_laws.proofs.lemmas.marked_laws.Flags.{typ_is, shown_is}
use Rattle.run_laws.proofs.lemmas.marked_laws.Named.{within_rolled, all_are_types, shown_by_parts}

definitions_rolled : (x : TypeExpr-F TypeExpr) → definitions_in (roll-TypeExpr x) ≡ shown_layer (map-TypeExpr TypeExpr (List TypeId) definitions_in x)
unfolding definitions_in
definitions_rolled x = fold-roll-TypeExpr (List TypeId) shown_layer x

abbrev Parted : TypeExpr → Type 0
Parted e = (t : TypeId) → In t (within e).all → In t (definitions_in e) ⊎ In t (arguments_in e)

inst_parted : (d t : TypeId) (args : List TypeId) → (t ≡ d) ⊎ In t args → In t (d ∷ []) ⊎ In t args
inst_parted d t args (inl e) = inl (inl e)
inst_parted d t args (inr i) = inr i

mod_more : (by t : TypeId) (xs ys : List TypeId) → In t xs ⊎ In t ys → In t (by ∷ xs) ⊎ In t ys
mod_more by t xs ys (inl i) = inl (inr i)
mod_more by t xs ys (inr i) = inr i

mod_parted : (by t : TypeId) (all xs ys : List TypeId) → (In t all → In t xs ⊎ In t ys) → (t ≡ by) ⊎ In t all → In t (by ∷ xs) ⊎ In t ys
mod_parted by t all xs ys more (inl e) = inl (inl e)
mod_parted by t all xs ys more (inr i) = mod_more by t xs ys (more i)

layer : (y : TypeExpr-F (With Parted)) (t : TypeId) → In t (within_layer (map-TypeExpr TypeExpr Within within (plain_parts Parted y))).all
    → In t (shown_layer (map-TypeExpr TypeExpr (List TypeId) definitions_in (plain_parts Parted y))) ⊎ In t (within_layer (map-TypeExpr TypeExpr Within within (plain_parts Parted y))).arguments
layer (TypeExpr-F.Prim n) t i = absurd i
layer (TypeExpr-F.Def d) t i = inl i
layer (TypeExpr-F.Inst d xs) t i = inst_parted d t _ i
layer (TypeExpr-F.Array x) t i = x.1 t i
layer (TypeExpr-F.ByRef x) t i = x.1 t i
layer (TypeExpr-F.Var n) t i = absurd i
layer (TypeExpr-F.MVar n) t i = absurd i
layer (TypeExpr-F.Mod required by x) t i = mod_parted by t (within x.0).all (definitions_in x.0) (arguments_in x.0) (x.1 t) i

moved : (x : TypeExpr-F TypeExpr) (t : TypeId) → In t (shown_layer (map-TypeExpr TypeExpr (List TypeId) definitions_in x)) ⊎ In t (within_layer (map-TypeExpr TypeExpr Within within x)).arguments
    → In t (definitions_in (roll-TypeExpr x)) ⊎ In t (arguments_in (roll-TypeExpr x))
moved x t (inl i) = inl (subst (λ ts. In t ts) (sym (definitions_rolled x)) i)
moved x t (inr i) = inr (subst (λ (w : Within). In t w.arguments) (sym (within_rolled x)) i)

rolled : (y : TypeExpr-F (With Parted)) → Parted (roll-TypeExpr (plain_parts Parted y))
rolled y t i = moved (plain_parts Parted y) t (layer y t (subst (λ (w : Within). In t w.all) (within_rolled (plain_parts Parted y)) i))

parted : (e : TypeExpr) → Parted e
parted = ind-TypeExpr Parted (λ x y is. subst (λ z. Parted (roll-TypeExpr z)) is (rolled y))

module _ (recs : List AsmRec) (has : Fact → Bool) (e : TypeExpr) (types : (t : TypeId) → In t (types_in e) → IsTrue (has (marked (item.Typ t))))
    (definitions : (t : TypeId) → In t (definitions_in e) → IsTrue (has (shown t))) (arguments : (t : TypeId) → In t (arguments_in e) → IsTrue (has (shown t))) where
  either : (t : TypeId) → In t (definitions_in e) ⊎ In t (arguments_in e) → IsTrue (has (shown t))
  either t (inl i) = definitions t i
  either t (inr i) = arguments t i

  pub shows_by : IsTrue (shows_expr (keep_of recs has) e)
  shows_by =
      shown_by_parts (keep_of recs has) e (λ t i. typ_is recs has t (types t i))
      (λ t i. shown_is recs has t (types t (all_are_types (keep_of recs has) e t i)) (either t (parted e t i)))
