-- A type is kept where each definition that it names is kept and each of its generic arguments is shown.
use Rattle.std.proofs.Common.{◌≡◌, Bool, List, [], ◌∷◌, ◌++◌, map, ◌⊎◌, inl, inr, refl, sym, ap, subst, ◌∙◌}
use Rattle.std.specs.Prelude.{IsTrue}
use Rattle.std.specs.List.{list_all, flat_map}
use Rattle.std.proofs.lemmas.Bool.{and_from}
use Rattle.il_base.specs.declared.ids.TypeId.{TypeId}
use Rattle.il_base.specs.declared.world_model.expr.TypeExpr.{TypeExpr, fold-roll-TypeExpr, ind-TypeExpr, roll-TypeExpr}
use Rattle.il_base.specs.declared.world_model.expr.TypeExpr.TheFolds.{map-TypeExpr}
use Rattle.il_base.specs.declared.world_model.expr.TypeExpr.TheOpen.{TypeExpr-F}
use Rattle.base_laws.proofs.lemmas.type_laws.Within.{In, in_front, in_behind, in_parts}
use Rattle.rules.specs.mark_rules.Naming.{types_layer, types_in}
use Rattle.rules.specs.mark_rules.Shown.{Within, within_layer, within, arguments_in}
use Rattle.rules.specs.change_rules.Change.{Keep}
use Rattle.rules.specs.change_rules.Keeps.{Names, both, names_layer, names_of, keeps_expr, shows_expr, itself, defined_layer, keeps_defined}
use Rattle.base_laws.proofs.lemmas.change_laws.Exprs.{With, plain_parts}
use Rattle.base_laws.proofs.lemmas.change_laws.Subst.{names_rolled}

pub types_rolled : (x : TypeExpr-F TypeExpr) → types_in (roll-TypeExpr x) ≡ types_layer (map-TypeExpr TypeExpr (List TypeId) types_in x)
unfolding types_in
types_rolled x = fold-roll-TypeExpr (List TypeId) types_layer x

pub within_rolled : (x : TypeExpr-F TypeExpr) → within (roll-TypeExpr x) ≡ within_layer (map-TypeExpr TypeExpr Within within x)
unfolding within
within_rolled x = fold-roll-TypeExpr Within within_layer x

defined_rolled : (k : Keep) (x : TypeExpr-F TypeExpr) → keeps_defined k (roll-TypeExpr x) ≡ defined_layer k (map-TypeExpr TypeExpr Bool (keeps_defined k) x)
unfolding keeps_defined
defined_rolled k x = fold-roll-TypeExpr Bool (defined_layer k) x

module _ (k : Keep) where
  abbrev pub TypesKept : TypeExpr → Type 0
  TypesKept e = (t : TypeId) → In t (types_in e) → IsTrue (k.typ t.0)

  abbrev pub AllShown : TypeExpr → Type 0
  AllShown e = (t : TypeId) → In t (within e).all → IsTrue (k.shown t.0)

  abbrev pub ArgumentsShown : TypeExpr → Type 0
  ArgumentsShown e = (t : TypeId) → In t (arguments_in e) → IsTrue (k.shown t.0)

  record ByParts (e : TypeExpr) : Type 0 where
    defined : TypesKept e → IsTrue (keeps_defined k e)
    keeps : TypesKept e → ArgumentsShown e → IsTrue (keeps_expr k e)
    shows : TypesKept e → AllShown e → IsTrue (names_of k e).shown
    fewer : (t : TypeId) → In t (arguments_in e) → In t (within e).all
    types : (t : TypeId) → In t (within e).all → In t (types_in e)

  -- the outermost construct, with what is known of its parts
  record Layer (y : TypeExpr-F TypeExpr) : Type 0 where
    defined : ((t : TypeId) → In t (types_layer (map-TypeExpr TypeExpr (List TypeId) types_in y)) → IsTrue (k.typ t.0)) → IsTrue (defined_layer k (map-TypeExpr TypeExpr Bool (keeps_defined k) y))
    keeps : ((t : TypeId) → In t (types_layer (map-TypeExpr TypeExpr (List TypeId) types_in y)) → IsTrue (k.typ t.0)) → ((t : TypeId) → In t (within_layer (map-TypeExpr TypeExpr Within within y)).arguments → IsTrue (k.shown t.0))
        → IsTrue (names_layer k (map-TypeExpr TypeExpr Names (names_of k) y)).kept
    shows : ((t : TypeId) → In t (types_layer (map-TypeExpr TypeExpr (List TypeId) types_in y)) → IsTrue (k.typ t.0)) → ((t : TypeId) → In t (within_layer (map-TypeExpr TypeExpr Within within y)).all → IsTrue (k.shown t.0))
        → IsTrue (names_layer k (map-TypeExpr TypeExpr Names (names_of k) y)).shown
    fewer : (t : TypeId) → In t (within_layer (map-TypeExpr TypeExpr Within within y)).arguments → In t (within_layer (map-TypeExpr TypeExpr Within within y)).all
    types : (t : TypeId) → In t (within_layer (map-TypeExpr TypeExpr Within within y)).all → In t (types_layer (map-TypeExpr TypeExpr (List TypeId) types_in y))

  whole : (y : TypeExpr-F TypeExpr) → Layer y → ByParts (roll-TypeExpr y)
  whole y l = record {
    defined = λ h. defined_rolled k y ∙ l.defined (λ t i. h t (subst (λ ts. In t ts) (sym (types_rolled y)) i));
    keeps = λ h g. ap (λ (n : Names). n.kept) (names_rolled k y)
        ∙ l.keeps (λ t i. h t (subst (λ ts. In t ts) (sym (types_rolled y)) i)) (λ t i. g t (subst (λ (w : Within). In t w.arguments) (sym (within_rolled y)) i));
    shows = λ h g. ap (λ (n : Names). n.shown) (names_rolled k y)
        ∙ l.shows (λ t i. h t (subst (λ ts. In t ts) (sym (types_rolled y)) i)) (λ t i. g t (subst (λ (w : Within). In t w.all) (sym (within_rolled y)) i));
    fewer = λ t i. subst (λ (w : Within). In t w.all) (sym (within_rolled y)) (l.fewer t (subst (λ (w : Within). In t w.arguments) (within_rolled y) i));
    types = λ t i. subst (λ ts. In t ts) (sym (types_rolled y)) (l.types t (subst (λ (w : Within). In t w.all) (within_rolled y) i));
  }

  -- ---- arguments

  abbrev types_of : List (With ByParts) → List TypeId
  types_of xs = flat_map (λ ts. ts) (map types_in (map (λ e. e.0) xs))

  abbrev all_of : List (With ByParts) → List TypeId
  all_of xs = flat_map (λ (w : Within). w.all) (map within (map (λ e. e.0) xs))

  args_defined : (xs : List (With ByParts)) → ((t : TypeId) → In t (types_of xs) → IsTrue (k.typ t.0)) → IsTrue (list_all itself (map (keeps_defined k) (map (λ e. e.0) xs)))
  args_defined [] h = refl
  args_defined (x ∷ xs) h =
      and_from (keeps_defined k x.0) (list_all itself (map (keeps_defined k) (map (λ e. e.0) xs)))
      (x.1.defined (λ t i. h t (in_front t (types_in x.0) (types_of xs) i))) (args_defined xs (λ t i. h t (in_behind t (types_in x.0) (types_of xs) i)))

  args_shown : (xs : List (With ByParts)) → ((t : TypeId) → In t (types_of xs) → IsTrue (k.typ t.0)) → ((t : TypeId) → In t (all_of xs) → IsTrue (k.shown t.0))
      → IsTrue (list_all both (map (names_of k) (map (λ e. e.0) xs)))
  args_shown [] h g = refl
  args_shown (x ∷ xs) h g =
      let all : AllShown x.0 = λ t i. g t (in_front t (within x.0).all (all_of xs) i) in
      let types : TypesKept x.0 = λ t i. h t (in_front t (types_in x.0) (types_of xs) i) in
      and_from (both (names_of k x.0)) (list_all both (map (names_of k) (map (λ e. e.0) xs)))
      (and_from (names_of k x.0).kept (names_of k x.0).shown (x.1.keeps types (λ t i. all t (x.1.fewer t i))) (x.1.shows types all))
      (args_shown xs (λ t i. h t (in_behind t (types_in x.0) (types_of xs) i)) (λ t i. g t (in_behind t (within x.0).all (all_of xs) i)))

  args_by : (x : With ByParts) (xs : List (With ByParts)) (t : TypeId) → (In t (all_of xs) → In t (types_of xs)) → In t (within x.0).all ⊎ In t (all_of xs) → In t (types_in x.0 ++ types_of xs)
  args_by x xs t more (inl i) = in_front t (types_in x.0) (types_of xs) (x.1.types t i)
  args_by x xs t more (inr i) = in_behind t (types_in x.0) (types_of xs) (more i)

  args_types : (xs : List (With ByParts)) (t : TypeId) → In t (all_of xs) → In t (types_of xs)
  args_types [] t i = i
  args_types (x ∷ xs) t i = args_by x xs t (args_types xs t) (in_parts t (within x.0).all (all_of xs) i)

  inst_types : (xs : List (With ByParts)) (d t : TypeId) → (t ≡ d) ⊎ In t (all_of xs) → (t ≡ d) ⊎ In t (types_of xs)
  inst_types xs d t (inl e) = inl e
  inst_types xs d t (inr i) = inr (args_types xs t i)

  mod_types : (x : With ByParts) (by t : TypeId) → (t ≡ by) ⊎ In t (within x.0).all → (t ≡ by) ⊎ In t (types_in x.0)
  mod_types x by t (inl e) = inl e
  mod_types x by t (inr i) = inr (x.1.types t i)

  layer : (y : TypeExpr-F (With ByParts)) → Layer (plain_parts ByParts y)
  layer (TypeExpr-F.Prim n) = record { defined = λ h. refl; keeps = λ h g. refl; shows = λ h g. refl; fewer = λ t i. i; types = λ t i. i }
  layer (TypeExpr-F.Def d) = record { defined = λ h. h d (inl refl); keeps = λ h g. h d (inl refl); shows = λ h g. g d (inl refl); fewer = λ t i. absurd i; types = λ t i. i }
  layer (TypeExpr-F.Inst d xs) = record {
    defined = λ h. and_from (k.typ d.0) (list_all itself (map (keeps_defined k) (map (λ e. e.0) xs))) (h d (inl refl)) (args_defined xs (λ t i. h t (inr i)));
    keeps = λ h g. and_from (k.typ d.0) (list_all both (map (names_of k) (map (λ e. e.0) xs))) (h d (inl refl)) (args_shown xs (λ t i. h t (inr i)) g);
    shows = λ h g. and_from (k.shown d.0) (list_all both (map (names_of k) (map (λ e. e.0) xs))) (g d (inl refl)) (args_shown xs (λ t i. h t (inr i)) (λ t i. g t (inr i)));
    fewer = λ t i. inr i;
    types = λ t i. inst_types xs d t i;
  }
  layer (TypeExpr-F.Array x) = record { defined = x.1.defined; keeps = x.1.keeps; shows = x.1.shows; fewer = x.1.fewer; types = x.1.types }
  layer (TypeExpr-F.ByRef x) = record { defined = x.1.defined; keeps = x.1.keeps; shows = x.1.shows; fewer = x.1.fewer; types = x.1.types }
  layer (TypeExpr-F.Var n) = record { defined = λ h. refl; keeps = λ h g. refl; shows = λ h g. refl; fewer = λ t i. i; types = λ t i. i }
  layer (TypeExpr-F.MVar n) = record { defined = λ h. refl; keeps = λ h g. refl; shows = λ h g. refl; fewer = λ t i. i; types = λ t i. i }
  layer (TypeExpr-F.Mod required by x) = record {
    defined = λ h. and_from (k.typ by.0) (keeps_defined k x.0) (h by (inl refl)) (x.1.defined (λ t i. h t (inr i)));
    keeps = λ h g. and_from (k.typ by.0) (names_of k x.0).kept (h by (inl refl)) (x.1.keeps (λ t i. h t (inr i)) g);
    shows = λ h g. and_from (k.shown by.0) (names_of k x.0).shown (g by (inl refl)) (x.1.shows (λ t i. h t (inr i)) (λ t i. g t (inr i)));
    fewer = λ t i. inr (x.1.fewer t i);
    types = λ t i. mod_types x by t i;
  }

  by_parts : (e : TypeExpr) → ByParts e
  by_parts = ind-TypeExpr ByParts (λ x y is. subst (λ z. ByParts (roll-TypeExpr z)) is (whole (plain_parts ByParts y) (layer y)))

  pub defined_by_types : (e : TypeExpr) → TypesKept e → IsTrue (keeps_defined k e)
  defined_by_types e h = (by_parts e).defined h

  pub kept_by_parts : (e : TypeExpr) → TypesKept e → ArgumentsShown e → IsTrue (keeps_expr k e)
  kept_by_parts e h g = (by_parts e).keeps h g

  pub shown_by_parts : (e : TypeExpr) → TypesKept e → AllShown e → IsTrue (shows_expr k e)
  shown_by_parts e h g = and_from (keeps_expr k e) (names_of k e).shown (kept_by_parts e h (λ t i. g t ((by_parts e).fewer t i))) ((by_parts e).shows h g)

  pub all_are_types : (e : TypeExpr) (t : TypeId) → In t (within e).all → In t (types_in e)
  all_are_types e t i = (by_parts e).types t i

  pub arguments_are_types : (e : TypeExpr) (t : TypeId) → In t (arguments_in e) → In t (types_in e)
  arguments_are_types e t i = (by_parts e).types t ((by_parts e).fewer t i)
