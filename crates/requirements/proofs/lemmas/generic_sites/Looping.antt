-- One more argument.
use Rattle.std.proofs.Common.{◌≡◌, ℕ, ◌+◌, suc, ◌<◌, List, [], ◌∷◌, ◌++◌, length, drop, get_or, map, Option, sym, ap, ◌∙◌, add-one, drop-cons, append_assoc}
use Rattle.il_base.specs.declared.ids.TypeId.{TypeId}
use Rattle.il_base.specs.declared.ids.Place.{Place}
use Rattle.il_base.specs.declared.world_model.expr.TypeExpr.{TypeExpr}
use Rattle.il_base.specs.declared.world_model.record.AsmRec.{AsmRec}
use Rattle.rules.specs.declared.site_rules.target.Target.{Target}
use Rattle.rules.specs.declared.site_rules.site.Site.{Site}
use Rattle.rules.specs.site_rules.Values.{asking}
use Rattle.rules.specs.site_rules.Arguments.{argument, sites_from, type_argument_sites}

pub one_more : (recs : List AsmRec) (owner : Option TypeId) (place : Place) (to : ℕ → Target) (kinds : ℕ → ℕ) (args : List TypeExpr) (i : ℕ) (e : TypeExpr)
    (before middle after goal : List Site)
    → i < length args → e ≡ get_or args i e
    → middle ≡ before ++ asking place (to i) (kinds i) ((argument recs owner place e).known ∷ [])
    → after ≡ middle ++ type_argument_sites recs owner place e
    → before ++ sites_from place to kinds i (map (argument recs owner place) (drop i args)) ≡ goal
    → after ++ sites_from place to kinds (i + 1) (map (argument recs owner place) (drop (i + 1) args)) ≡ goal
unfolding type_argument_sites
one_more recs owner place to kinds args i e before middle after goal within is asked inside so_far =
    let here : drop i args ≡ e ∷ drop (i + 1) args = rw add-one (drop-cons args i e within ∙ ap (λ (y : TypeExpr). y ∷ drop (suc i) args) (sym is)) in
    let a : List Site = asking place (to i) (kinds i) ((argument recs owner place e).known ∷ []) in
    let b : List Site = (argument recs owner place e).sites in
    let rest : List Site = sites_from place to kinds (i + 1) (map (argument recs owner place) (drop (i + 1) args)) in
    ap (λ (v : List Site). v ++ rest) inside
    ∙ ap (λ (v : List Site). (v ++ b) ++ rest) asked
    ∙ ap (λ (v : List Site). v ++ rest) (append_assoc before a b)
    ∙ append_assoc before (a ++ b) rest
    ∙ sym (ap (λ (es : List TypeExpr). before ++ sites_from place to kinds i (map (argument recs owner place) es)) here)
    ∙ so_far
