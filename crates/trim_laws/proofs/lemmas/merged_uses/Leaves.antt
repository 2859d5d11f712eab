-- The definitions that a type names, each by how it is named: alone, with arguments, or by a modifier.
use Rattle.std.proofs.Common.{◌≡◌, ℕ, zero, suc, Bool, List, [], ◌∷◌, ◌++◌, map, inl, inr, refl, sym, ap, subst, ◌∙◌}
use Rattle.std.specs.List.{flat_map}
use Rattle.il_base.specs.declared.ids.TypeId.{TypeId}
use Rattle.il_base.specs.declared.world_model.expr.TypeExpr.{TypeExpr, fold-TypeExpr, fold-roll-TypeExpr, ind-TypeExpr, out-TypeExpr, roll-TypeExpr, roll-out-TypeExpr}
use Rattle.il_base.specs.declared.world_model.expr.TypeExpr.TheFolds.{map-TypeExpr}
use Rattle.il_base.specs.declared.world_model.expr.TypeExpr.TheOpen.{TypeExpr-F}
use Rattle.il_base.specs.declared.world_model.expr.TypeExpr.TheVariants as expr
use Rattle.il_base.specs.world_model.Exprs as exprs
use Rattle.il_base.specs.world_model.Exprs.{arg_or}
use Rattle.il_base.proofs.lemmas.world_model.ExprLayers.{subst_prim, subst_def, subst_inst, subst_array, subst_by_ref, subst_var, subst_mvar, subst_mod}
use Rattle.rules.specs.link_rules.Members.{args_in, args_of}
use Rattle.base_laws.proofs.lemmas.change_laws.Exprs.{With, plain_parts}
use Rattle.base_laws.proofs.lemmas.type_laws.Within as within
use Rattle.base_laws.proofs.lemmas.type_laws.Within.{In, in_map, in_flat}

pub data Leaf : Type 0 where
  alone : TypeId → Leaf
  generic : TypeId → Leaf
  modifier : TypeId → Leaf

abbrev pub leaves_layer : TypeExpr-F (List Leaf) → List Leaf
leaves_layer (TypeExpr-F.Prim n) = []
leaves_layer (TypeExpr-F.Def t) = alone t ∷ []
leaves_layer (TypeExpr-F.Inst t args) = generic t ∷ flat_map (λ xs. xs) args
leaves_layer (TypeExpr-F.Array x) = x
leaves_layer (TypeExpr-F.ByRef x) = x
leaves_layer (TypeExpr-F.Var n) = []
leaves_layer (TypeExpr-F.MVar n) = []
leaves_layer (TypeExpr-F.Mod required by x) = modifier by ∷ x

unfoldable pub leaves : TypeExpr → List Leaf
leaves = fold-TypeExpr (List Leaf) leaves_layer

pub leaves_is : (x : TypeExpr-F TypeExpr) (e : TypeExpr) → roll-TypeExpr x ≡ e → leaves e ≡ leaves_layer (map-TypeExpr TypeExpr (List Leaf) leaves x)
unfolding leaves
leaves_is x e is = ap leaves (sym is) ∙ fold-roll-TypeExpr (List Leaf) leaves_layer x

-- ---- all of which something is so

module _ (P : Leaf → Type 0) where
  abbrev pub All : TypeExpr → Type 0
  All e = (l : Leaf) → In l (leaves e) → P l

  abbrev pub AllOf : List TypeExpr → Type 0
  AllOf es = (e : TypeExpr) → In e es → All e

  all_by : (x : TypeExpr-F TypeExpr) (e : TypeExpr) → roll-TypeExpr x ≡ e → ((l : Leaf) → In l (leaves_layer (map-TypeExpr TypeExpr (List Leaf) leaves x)) → P l) → All e
  all_by x e is h l i = h l (subst (In l) (leaves_is x e is) i)

  all_from : (x : TypeExpr-F TypeExpr) (e : TypeExpr) → roll-TypeExpr x ≡ e → All e → (l : Leaf) → In l (leaves_layer (map-TypeExpr TypeExpr (List Leaf) leaves x)) → P l
  all_from x e is h l i = h l (subst (In l) (sym (leaves_is x e is)) i)

  pub all_prim : (n : ℕ) → All (expr.Prim n)
  all_prim n = all_by (TypeExpr-F.Prim n) (expr.Prim n) (expr.rolls-Prim n) (λ l i. absurd i)

  pub all_var : (n : ℕ) → All (expr.Var n)
  all_var n = all_by (TypeExpr-F.Var n) (expr.Var n) (expr.rolls-Var n) (λ l i. absurd i)

  pub all_mvar : (n : ℕ) → All (expr.MVar n)
  all_mvar n = all_by (TypeExpr-F.MVar n) (expr.MVar n) (expr.rolls-MVar n) (λ l i. absurd i)

  one_leaf : (x : Leaf) → P x → (l : Leaf) → In l (x ∷ []) → P l
  one_leaf x p l (inl e) = subst P (sym e) p
  one_leaf x p l (inr h) = absurd h

  more_leaves : (x : Leaf) (xs : List Leaf) → P x → ((l : Leaf) → In l xs → P l) → (l : Leaf) → In l (x ∷ xs) → P l
  more_leaves x xs p more l (inl e) = subst P (sym e) p
  more_leaves x xs p more l (inr h) = more l h

  pub all_def : (t : TypeId) → P (alone t) → All (expr.Def t)
  all_def t p = all_by (TypeExpr-F.Def t) (expr.Def t) (expr.rolls-Def t) (one_leaf (alone t) p)

  pub all_array : (e : TypeExpr) → All e → All (expr.Array e)
  all_array e h = all_by (TypeExpr-F.Array e) (expr.Array e) (expr.rolls-Array e) h

  pub all_by_ref : (e : TypeExpr) → All e → All (expr.ByRef e)
  all_by_ref e h = all_by (TypeExpr-F.ByRef e) (expr.ByRef e) (expr.rolls-ByRef e) h

  pub all_mod : (required : Bool) (by : TypeId) (e : TypeExpr) → P (modifier by) → All e → All (expr.Mod required by e)
  all_mod required by e p h = all_by (TypeExpr-F.Mod required by e) (expr.Mod required by e) (expr.rolls-Mod required by e) (more_leaves (modifier by) (leaves e) p h)

  in_args : (args : List TypeExpr) → AllOf args → (l : Leaf) → In l (flat_map (λ xs. xs) (map leaves args)) → P l
  in_args args h l i =
      let f = in_flat (λ (xs : List Leaf). xs) l (map leaves args) i in
      let g = in_map leaves f.0 args f.1 in
      h g.0 g.1 l (subst (In l) g.2 f.2)

  pub all_inst : (t : TypeId) (args : List TypeExpr) → P (generic t) → AllOf args → All (expr.Inst t args)
  all_inst t args p h =
      all_by (TypeExpr-F.Inst t args) (expr.Inst t args) (expr.rolls-Inst t args) (more_leaves (generic t) (flat_map (λ xs. xs) (map leaves args)) p (in_args args h))

  -- ---- and of parts

  pub none_of : AllOf []
  none_of e i = absurd i

  pub one_more : (e : TypeExpr) (es : List TypeExpr) → All e → AllOf es → AllOf (e ∷ es)
  one_more e es h more x (inl same) = subst All (sym same) h
  one_more e es h more x (inr i) = more x i

  arg_leaves : (args : List TypeExpr) (e : TypeExpr) (l : Leaf) → In e args → In l (leaves e) → In l (flat_map (λ xs. xs) (map leaves args))
  arg_leaves [] e l i h = absurd i
  arg_leaves (x ∷ xs) e l (inl same) h = in_first (subst (λ (y : TypeExpr). In l (leaves y)) same h)
    where
      in_first : In l (leaves x) → In l (leaves x ++ flat_map (λ xs. xs) (map leaves xs))
      in_first g = within.in_front l (leaves x) (flat_map (λ xs. xs) (map leaves xs)) g
  arg_leaves (x ∷ xs) e l (inr i) h = within.in_behind l (leaves x) (flat_map (λ xs. xs) (map leaves xs)) (arg_leaves xs e l i h)

  pub inst_head : (t : TypeId) (args : List TypeExpr) → All (expr.Inst t args) → P (generic t)
  inst_head t args h = all_from (TypeExpr-F.Inst t args) (expr.Inst t args) (expr.rolls-Inst t args) h (generic t) (inl refl)

  pub inst_args : (t : TypeId) (args : List TypeExpr) → All (expr.Inst t args) → AllOf args
  inst_args t args h e i l j = all_from (TypeExpr-F.Inst t args) (expr.Inst t args) (expr.rolls-Inst t args) h l (inr (arg_leaves args e l i j))

  pub def_leaf : (t : TypeId) → All (expr.Def t) → P (alone t)
  def_leaf t h = all_from (TypeExpr-F.Def t) (expr.Def t) (expr.rolls-Def t) h (alone t) (inl refl)

  pub array_part : (e : TypeExpr) → All (expr.Array e) → All e
  array_part e h = all_from (TypeExpr-F.Array e) (expr.Array e) (expr.rolls-Array e) h

  pub by_ref_part : (e : TypeExpr) → All (expr.ByRef e) → All e
  by_ref_part e h = all_from (TypeExpr-F.ByRef e) (expr.ByRef e) (expr.rolls-ByRef e) h

  pub mod_head : (required : Bool) (by : TypeId) (e : TypeExpr) → All (expr.Mod required by e) → P (modifier by)
  mod_head required by e h = all_from (TypeExpr-F.Mod required by e) (expr.Mod required by e) (expr.rolls-Mod required by e) h (modifier by) (inl refl)

  pub mod_part : (required : Bool) (by : TypeId) (e : TypeExpr) → All (expr.Mod required by e) → All e
  mod_part required by e h l i = all_from (TypeExpr-F.Mod required by e) (expr.Mod required by e) (expr.rolls-Mod required by e) h l (inr i)

  args_by : (x : TypeExpr-F TypeExpr) (e : TypeExpr) → roll-TypeExpr x ≡ e → All e → AllOf (args_in x)
  args_by (TypeExpr-F.Inst t args) e is h = inst_args t args (subst All (sym is ∙ expr.rolls-Inst t args) h)
  args_by (TypeExpr-F.Prim n) e is h = none_of
  args_by (TypeExpr-F.Def t) e is h = none_of
  args_by (TypeExpr-F.Array x) e is h = none_of
  args_by (TypeExpr-F.ByRef x) e is h = none_of
  args_by (TypeExpr-F.Var n) e is h = none_of
  args_by (TypeExpr-F.MVar n) e is h = none_of
  args_by (TypeExpr-F.Mod required by x) e is h = none_of

  pub all_args : (e : TypeExpr) → All e → AllOf (args_of e)
  unfolding args_of
  all_args e h = args_by (out-TypeExpr e) e (roll-out-TypeExpr e) h

  -- ---- arguments put in

  arg_all : (args : List TypeExpr) (n : ℕ) (other : TypeExpr) → AllOf args → All other → All (arg_or args n other)
  arg_all [] zero other h g = g
  arg_all [] (suc n) other h g = g
  arg_all (x ∷ xs) zero other h g = h x (inl refl)
  arg_all (x ∷ xs) (suc n) other h g = arg_all xs n other (λ e i. h e (inr i)) g

  module _ (targs : List TypeExpr) (puts : AllOf targs) where
    abbrev put : TypeExpr → TypeExpr
    put = exprs.subst targs []

    abbrev Puts : TypeExpr → Type 0
    Puts e = All e → All (exprs.subst targs [] e)

    args_put : (xs : List (With Puts)) → AllOf (map (λ e. e.0) xs) → AllOf (map put (map (λ e. e.0) xs))
    args_put [] h = none_of
    args_put (x ∷ xs) h = one_more (put x.0) (map put (map (λ e. e.0) xs)) (x.1 (h x.0 (inl refl))) (args_put xs (λ e i. h e (inr i)))

    put_layer : (y : TypeExpr-F (With Puts)) → Puts (roll-TypeExpr (plain_parts Puts y))
    put_layer (TypeExpr-F.Prim n) h = subst All (sym (ap put (expr.rolls-Prim n) ∙ subst_prim targs [] n)) (all_prim n)
    put_layer (TypeExpr-F.Def t) h = subst All (sym (ap put (expr.rolls-Def t) ∙ subst_def targs [] t)) (subst All (expr.rolls-Def t) h)
    put_layer (TypeExpr-F.Inst t xs) h =
        let args : List TypeExpr = map (λ e. e.0) xs in
        let g : All (expr.Inst t args) = subst All (expr.rolls-Inst t args) h in
        subst All (sym (ap put (expr.rolls-Inst t args) ∙ subst_inst targs [] t args)) (all_inst t (map put args) (inst_head t args g) (args_put xs (inst_args t args g)))
    put_layer (TypeExpr-F.Array x) h =
        subst All (sym (ap put (expr.rolls-Array x.0) ∙ subst_array targs [] x.0)) (all_array (put x.0) (x.1 (array_part x.0 (subst All (expr.rolls-Array x.0) h))))
    put_layer (TypeExpr-F.ByRef x) h =
        subst All (sym (ap put (expr.rolls-ByRef x.0) ∙ subst_by_ref targs [] x.0)) (all_by_ref (put x.0) (x.1 (by_ref_part x.0 (subst All (expr.rolls-ByRef x.0) h))))
    put_layer (TypeExpr-F.Var n) h = subst All (sym (ap put (expr.rolls-Var n) ∙ subst_var targs [] n)) (arg_all targs n (expr.Var n) puts (all_var n))
    put_layer (TypeExpr-F.MVar n) h = subst All (sym (ap put (expr.rolls-MVar n) ∙ subst_mvar targs [] n)) (arg_all [] n (expr.MVar n) none_of (all_mvar n))
    put_layer (TypeExpr-F.Mod required by x) h =
        let g : All (expr.Mod required by x.0) = subst All (expr.rolls-Mod required by x.0) h in
        subst All (sym (ap put (expr.rolls-Mod required by x.0) ∙ subst_mod targs [] required by x.0))
        (all_mod required by (put x.0) (mod_head required by x.0 g) (x.1 (mod_part required by x.0 g)))

    pub put_all : (e : TypeExpr) → All e → All (exprs.subst targs [] e)
    put_all = ind-TypeExpr Puts (λ x y is. subst (λ z. Puts (roll-TypeExpr z)) is (put_layer y))
