-- The test of type expressions for equality says true exactly where they are equal.
use Rattle.std.proofs.Common.{◌≡◌, ℕ, Bool, true, false, nat_eq, ◌&&◌, List, [], ◌∷◌, map, refl, sym, ap, subst, ◌∙◌}
use Rattle.std.specs.Bool.{Decides}
use Rattle.std.specs.Cmp.{first_so, second_so}
use Rattle.std.specs.Cmp.Lexicographic.{pointwise_decides}
use Rattle.std.proofs.lemmas.Bool.{eq-eqb, eqb-true}
use Rattle.il_base.specs.declared.ids.TypeId.{TypeId}
use Rattle.il_base.specs.declared.world_model.expr.TypeExpr.{TypeExpr, fold-roll-TypeExpr, ind-TypeExpr, out-TypeExpr, roll-TypeExpr, roll-out-TypeExpr, out-roll-TypeExpr}
use Rattle.il_base.specs.declared.world_model.expr.TypeExpr.TheFolds.{map-TypeExpr}
use Rattle.il_base.specs.declared.world_model.expr.TypeExpr.TheOpen.{TypeExpr-F}
use Rattle.il_base.specs.world_model.Exprs.{same_bool, all_same, same_in, same_layer, same_expr, same_exprs}

same_ids : (t u : TypeId) → nat_eq t.0 u.0 ≡ true → t ≡ u
same_ids t u h = ap (λ (n : ℕ). record { 0 = n }) (eqb-true t.0 u.0 h)

same_bools : (a b : Bool) → same_bool a b ≡ true → a ≡ b
same_bools true true h = refl
same_bools true false h = sym h
same_bools false true h = h
same_bools false false h = refl

own_bool : (a : Bool) → same_bool a a ≡ true
own_bool true = refl
own_bool false = refl

-- a part with what is known of it
abbrev Known : (TypeExpr → Type 0) → Type 0
Known P = (e : TypeExpr) × P e

abbrev IsOnly : TypeExpr → Type 0
IsOnly a = (b : TypeExpr) → same_expr a b ≡ true → a ≡ b

abbrev IsSelf : TypeExpr → Type 0
IsSelf a = same_expr a a ≡ true

pub rolled : (x : TypeExpr-F TypeExpr) (b : TypeExpr) → same_expr (roll-TypeExpr x) b ≡ same_in (map-TypeExpr TypeExpr (TypeExpr → Bool) same_expr x) (out-TypeExpr b)
unfolding same_expr
rolled x b = ap (λ (f : TypeExpr → Bool). f b) (fold-roll-TypeExpr (TypeExpr → Bool) same_layer x)

only_args : (xs : List (Known IsOnly)) (ys : List TypeExpr) → all_same (map same_expr (map (λ e. e.0) xs)) ys ≡ true → map (λ e. e.0) xs ≡ ys
only_args [] [] h = refl
only_args [] (b ∷ ys) h = cc
only_args (a ∷ xs) [] h = cc
only_args (a ∷ xs) (b ∷ ys) h =
    let s : Bool = same_expr a.0 b in
    let r : Bool = all_same (map same_expr (map (λ e. e.0) xs)) ys in
    λ i. a.1 b (first_so s r h) i ∷ only_args xs ys (second_so s r h) i

only_layer : (y : TypeExpr-F (Known IsOnly)) (l : TypeExpr-F TypeExpr) →
    same_in (map-TypeExpr TypeExpr (TypeExpr → Bool) same_expr (map-TypeExpr (Known IsOnly) TypeExpr (λ e. e.0) y)) l ≡ true → map-TypeExpr (Known IsOnly) TypeExpr (λ e. e.0) y ≡ l
only_layer (TypeExpr-F.Prim n) (TypeExpr-F.Prim m) h = ap TypeExpr-F.Prim (eqb-true n m h)
only_layer (TypeExpr-F.Def t) (TypeExpr-F.Def u) h = ap TypeExpr-F.Def (same_ids t u h)
only_layer (TypeExpr-F.Inst t xs) (TypeExpr-F.Inst u ys) h =
    let s : Bool = nat_eq t.0 u.0 in
    let r : Bool = all_same (map same_expr (map (λ e. e.0) xs)) ys in
    λ i. TypeExpr-F.Inst (same_ids t u (first_so s r h) i) (only_args xs ys (second_so s r h) i)
only_layer (TypeExpr-F.Array a) (TypeExpr-F.Array b) h = ap TypeExpr-F.Array (a.1 b h)
only_layer (TypeExpr-F.ByRef a) (TypeExpr-F.ByRef b) h = ap TypeExpr-F.ByRef (a.1 b h)
only_layer (TypeExpr-F.Var n) (TypeExpr-F.Var m) h = ap TypeExpr-F.Var (eqb-true n m h)
only_layer (TypeExpr-F.MVar n) (TypeExpr-F.MVar m) h = ap TypeExpr-F.MVar (eqb-true n m h)
only_layer (TypeExpr-F.Mod required by a) (TypeExpr-F.Mod asked other b) h =
    let s : Bool = same_bool required asked in
    let t : Bool = nat_eq by.0 other.0 in
    let r : Bool = same_expr a.0 b in
    let front : (s && t) ≡ true = first_so (s && t) r h in
    λ i. TypeExpr-F.Mod (same_bools required asked (first_so s t front) i) (same_ids by other (second_so s t front) i) (a.1 b (second_so (s && t) r h) i)
only_layer (TypeExpr-F.Prim n) _ h = cc
only_layer (TypeExpr-F.Def t) _ h = cc
only_layer (TypeExpr-F.Inst t xs) _ h = cc
only_layer (TypeExpr-F.Array a) _ h = cc
only_layer (TypeExpr-F.ByRef a) _ h = cc
only_layer (TypeExpr-F.Var n) _ h = cc
only_layer (TypeExpr-F.MVar n) _ h = cc
only_layer (TypeExpr-F.Mod required by a) _ h = cc

only_rolled : (y : TypeExpr-F (Known IsOnly)) → IsOnly (roll-TypeExpr (map-TypeExpr (Known IsOnly) TypeExpr (λ e. e.0) y))
only_rolled y b h = ap roll-TypeExpr (only_layer y (out-TypeExpr b) (sym (rolled (map-TypeExpr (Known IsOnly) TypeExpr (λ e. e.0) y) b) ∙ h)) ∙ roll-out-TypeExpr b

pub same_only : (a b : TypeExpr) → same_expr a b ≡ true → a ≡ b
same_only = ind-TypeExpr IsOnly (λ x y is. subst (λ z. IsOnly (roll-TypeExpr z)) is (only_rolled y))

own_args : (xs : List (Known IsSelf)) → all_same (map same_expr (map (λ e. e.0) xs)) (map (λ e. e.0) xs) ≡ true
own_args [] = refl
own_args (a ∷ xs) = λ i. a.1 i && own_args xs i

own_layer : (y : TypeExpr-F (Known IsSelf)) →
    same_in (map-TypeExpr TypeExpr (TypeExpr → Bool) same_expr (map-TypeExpr (Known IsSelf) TypeExpr (λ e. e.0) y)) (map-TypeExpr (Known IsSelf) TypeExpr (λ e. e.0) y) ≡ true
own_layer (TypeExpr-F.Prim n) = eq-eqb n n refl
own_layer (TypeExpr-F.Def t) = eq-eqb t.0 t.0 refl
own_layer (TypeExpr-F.Inst t xs) = λ i. eq-eqb t.0 t.0 refl i && own_args xs i
own_layer (TypeExpr-F.Array a) = a.1
own_layer (TypeExpr-F.ByRef a) = a.1
own_layer (TypeExpr-F.Var n) = eq-eqb n n refl
own_layer (TypeExpr-F.MVar n) = eq-eqb n n refl
own_layer (TypeExpr-F.Mod required by a) = λ i. (own_bool required i && eq-eqb by.0 by.0 refl i) && a.1 i

own_rolled : (y : TypeExpr-F (Known IsSelf)) → IsSelf (roll-TypeExpr (map-TypeExpr (Known IsSelf) TypeExpr (λ e. e.0) y))
own_rolled y =
    let x : TypeExpr-F TypeExpr = map-TypeExpr (Known IsSelf) TypeExpr (λ e. e.0) y in
    rolled x (roll-TypeExpr x) ∙ ap (same_in (map-TypeExpr TypeExpr (TypeExpr → Bool) same_expr x)) (out-roll-TypeExpr x) ∙ own_layer y

pub same_self : (a : TypeExpr) → same_expr a a ≡ true
same_self = ind-TypeExpr IsSelf (λ x y is. subst (λ z. IsSelf (roll-TypeExpr z)) is (own_rolled y))

pub same_decides : (a b : TypeExpr) → Decides (same_expr a b) (a ≡ b)
same_decides a b = (same_only a b, λ e. subst (λ (x : TypeExpr). same_expr a x ≡ true) e (same_self a))

pub all_decide : (xs ys : List TypeExpr) → Decides (same_exprs xs ys) (xs ≡ ys)
unfolding same_exprs
all_decide = pointwise_decides same_decides
