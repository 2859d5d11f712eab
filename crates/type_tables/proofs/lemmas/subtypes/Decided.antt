-- What the law on subtypes says of the world of these tables.
use Rattle.std.proofs.Common.{◌≡◌, Bool, true, List, refl, sym, ap, subst}
use Rattle.std.specs.Bool.{Decides}
use Rattle.il_base.specs.declared.world_model.expr.TypeExpr.{TypeExpr}
use Rattle.il_base.specs.declared.world_model.record.AsmRec.{AsmRec}
use Rattle.il_base.specs.declared.world_model.world.World.{World}
use Rattle.il_base.specs.world_model.Exprs.{same_expr}
use Rattle.il_base.proofs.lemmas.world_model.SameExpr.{same_only}
use Rattle.rules.specs.link_rules.Linked.{assemblies, world_in, IsWorld}
use Rattle.rules.specs.type_rules.Subtypes.{IsSubtype, is_subtype}
use Rattle.base_laws.specs.type_laws.Decisions.{SubtypeDecides}

recs_are : (w : World) (is : IsWorld w) → w.recs ≡ assemblies is.inputs
unfolding world_in
recs_are w is = ap (λ (v : World). v.recs) is.linked

pub decided : SubtypeDecides → (w : World) → IsWorld w → (a b : TypeExpr) (answer : Bool) → answer ≡ is_subtype w.recs a b → Decides answer (IsSubtype w.recs a b)
decided law w is a b answer e =
    subst (λ (y : Bool). Decides y (IsSubtype w.recs a b)) (sym e)
    (subst (λ (recs : List AsmRec). Decides (is_subtype recs a b) (IsSubtype recs a b)) (sym (recs_are w is)) (law is.inputs is.sound a b))

-- a type stands for itself
pub same_stands : SubtypeDecides → (w : World) → IsWorld w → (a b : TypeExpr) → same_expr a b ≡ true → true ≡ is_subtype w.recs a b
same_stands law w is a b same =
    sym ((decided law w is a b (is_subtype w.recs a b) refl).1 (subst (λ (e : TypeExpr). IsSubtype w.recs a e) (same_only a b same) (IsSubtype.same a)))
