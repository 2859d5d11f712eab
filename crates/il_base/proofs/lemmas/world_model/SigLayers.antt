-- The type that a signature names, with arguments put in, by the signature's outermost construct.
use Rattle.std.proofs.Common.{◌≡◌, ℕ, Bool, List, [], ◌∷◌, map, refl, sym, ap, ◌∙◌}
use Rattle.il_base.specs.declared.ids.TypeId.{TypeId}
use Rattle.il_base.specs.declared.sig.Sig.{Sig, roll-Sig, fold-roll-Sig}
use Rattle.il_base.specs.declared.sig.Sig.TheFolds.{map-Sig}
use Rattle.il_base.specs.declared.sig.Sig.TheOpen.{Sig-F}
use Rattle.il_base.specs.declared.sig.Sig.TheVariants as sig
use Rattle.il_base.specs.declared.world_model.known.Known.{Known}
use Rattle.il_base.specs.declared.world_model.known.Known.TheVariants.{Good, Bad}
use Rattle.il_base.specs.declared.world_model.expr.TypeExpr.{TypeExpr}
use Rattle.il_base.specs.declared.world_model.expr.TypeExpr.TheVariants as expr
use Rattle.il_base.specs.declared.world_model.record.AsmRec.{AsmRec}
use Rattle.il_base.specs.declared.world_model.world.TypeLink.{TypeLink}
use Rattle.il_base.specs.world_model.Exprs.{arg_or, subst}
use Rattle.il_base.specs.world_model.Worlds.{known_map, all_known, type_link_at, named_in, definition_named, modifier_named, instance_of, modified, sig_layer, sig_expr, names_by, expr_by}
use Rattle.il_base.proofs.lemmas.world_model.ExprLayers.{subst_prim, subst_inst, subst_array, subst_by_ref, subst_var, subst_mvar, subst_mod}

-- what is put into each part is put into the whole

module _ (targs margs : List TypeExpr) where
  into_array : (k : Known TypeExpr) → known_map (subst targs margs) (known_map (λ e. expr.Array e) k) ≡ known_map (λ e. expr.Array e) (known_map (subst targs margs) k)
  into_array (Good e) = ap Good (subst_array targs margs e)
  into_array (Bad why) = refl

  into_by_ref : (k : Known TypeExpr) → known_map (subst targs margs) (known_map (λ e. expr.ByRef e) k) ≡ known_map (λ e. expr.ByRef e) (known_map (subst targs margs) k)
  into_by_ref (Good e) = ap Good (subst_by_ref targs margs e)
  into_by_ref (Bad why) = refl

  into_modified : (required : Bool) (by : Known TypeId) (k : Known TypeExpr) → known_map (subst targs margs) (modified required by k) ≡ modified required by (known_map (subst targs margs) k)
  into_modified required (Good t) (Good e) = ap Good (subst_mod targs margs required t e)
  into_modified required (Good t) (Bad why) = refl
  into_modified required (Bad why) k = refl

  into_more : (e : TypeExpr) (ks : Known (List TypeExpr)) → known_map (map (subst targs margs)) (known_map (λ ys. e ∷ ys) ks) ≡ known_map (λ ys. subst targs margs e ∷ ys) (known_map (map (subst targs margs)) ks)
  into_more e (Good es) = refl
  into_more e (Bad why) = refl

  into_all : (ks : List (Known TypeExpr)) → known_map (map (subst targs margs)) (all_known ks) ≡ all_known (map (known_map (subst targs margs)) ks)
  into_all [] = refl
  into_all (Good e ∷ ks) = into_more e (all_known ks) ∙ ap (known_map (λ ys. subst targs margs e ∷ ys)) (into_all ks)
  into_all (Bad why ∷ ks) = refl

  into_instance : (t : Known TypeId) (ks : Known (List TypeExpr)) → known_map (subst targs margs) (instance_of t ks) ≡ instance_of t (known_map (map (subst targs margs)) ks)
  into_instance (Good t) (Good es) = ap Good (subst_inst targs margs t es)
  into_instance (Good t) (Bad why) = refl
  into_instance (Bad why) ks = refl

map_map : {A B C : Type 0} (g : B → C) (f : A → B) (xs : List A) → map g (map f xs) ≡ map (λ x. g (f x)) xs
map_map g f [] = refl
map_map g f (x ∷ xs) = ap (λ (l : List _). g (f x) ∷ l) (map_map g f xs)

module _ (recs : List AsmRec) (links : List TypeLink) (a : ℕ) (targs margs : List TypeExpr) where
  of_layer : (x : Sig-F Sig) (s : Sig) → roll-Sig x ≡ s → expr_by recs links a targs margs s ≡ known_map (subst targs margs) (sig_layer (names_by recs links a) (map-Sig Sig (Known TypeExpr) (sig_expr (names_by recs links a)) x))
  unfolding expr_by sig_expr
  of_layer x s e = ap (λ (y : Sig). known_map (subst targs margs) (sig_expr (names_by recs links a) y)) (sym e) ∙ ap (known_map (subst targs margs)) (fold-roll-Sig (Known TypeExpr) (sig_layer (names_by recs links a)) x)

  pub expr_prim : (n : ℕ) → expr_by recs links a targs margs (sig.Prim n) ≡ Good (expr.Prim n)
  expr_prim n = of_layer (Sig-F.Prim n) (sig.Prim n) (sig.rolls-Prim n) ∙ ap Good (subst_prim targs margs n)

  pub expr_named : (value : Bool) (token : ℕ) → expr_by recs links a targs margs (sig.Named value token) ≡ known_map (subst targs margs) (named_in (type_link_at recs links a) token)
  expr_named value token = of_layer (Sig-F.Named value token) (sig.Named value token) (sig.rolls-Named value token)

  pub expr_array : (s : Sig) → expr_by recs links a targs margs (sig.Array s) ≡ known_map (λ e. expr.Array e) (expr_by recs links a targs margs s)
  unfolding expr_by
  expr_array s = of_layer (Sig-F.Array s) (sig.Array s) (sig.rolls-Array s) ∙ into_array targs margs (sig_expr (names_by recs links a) s)

  pub expr_by_ref : (s : Sig) → expr_by recs links a targs margs (sig.ByRef s) ≡ known_map (λ e. expr.ByRef e) (expr_by recs links a targs margs s)
  unfolding expr_by
  expr_by_ref s = of_layer (Sig-F.ByRef s) (sig.ByRef s) (sig.rolls-ByRef s) ∙ into_by_ref targs margs (sig_expr (names_by recs links a) s)

  pub expr_inst : (value : Bool) (token : ℕ) (args : List Sig) →
      expr_by recs links a targs margs (sig.Inst value token args) ≡ instance_of (definition_named (names_by recs links a) token) (all_known (map (expr_by recs links a targs margs) args))
  unfolding expr_by
  expr_inst value token args =
      let names = names_by recs links a in
      of_layer (Sig-F.Inst value token args) (sig.Inst value token args) (sig.rolls-Inst value token args) ∙ into_instance targs margs (definition_named names token) (all_known (map (sig_expr names) args))
      ∙ ap (instance_of (definition_named names token)) (into_all targs margs (map (sig_expr names) args) ∙ ap all_known (map_map (known_map (subst targs margs)) (sig_expr names) args))

  pub expr_var : (n : ℕ) → expr_by recs links a targs margs (sig.Var n) ≡ Good (arg_or targs n (expr.Var n))
  expr_var n = of_layer (Sig-F.Var n) (sig.Var n) (sig.rolls-Var n) ∙ ap Good (subst_var targs margs n)

  pub expr_mvar : (n : ℕ) → expr_by recs links a targs margs (sig.MVar n) ≡ Good (arg_or margs n (expr.MVar n))
  expr_mvar n = of_layer (Sig-F.MVar n) (sig.MVar n) (sig.rolls-MVar n) ∙ ap Good (subst_mvar targs margs n)

  pub expr_mod : (required : Bool) (token : ℕ) (s : Sig) → expr_by recs links a targs margs (sig.Mod required token s) ≡ modified required (modifier_named (names_by recs links a) token) (expr_by recs links a targs margs s)
  unfolding expr_by
  expr_mod required token s =
      of_layer (Sig-F.Mod required token s) (sig.Mod required token s) (sig.rolls-Mod required token s)
      ∙ into_modified targs margs required (modifier_named (names_by recs links a) token) (sig_expr (names_by recs links a) s)

  pub expr_pinned : (s : Sig) → expr_by recs links a targs margs (sig.Pinned s) ≡ expr_by recs links a targs margs s
  unfolding expr_by
  expr_pinned s = of_layer (Sig-F.Pinned s) (sig.Pinned s) (sig.rolls-Pinned s)

-- the type that a signature names, one level at a time
pub ruleset naming = (expr_prim, expr_named, expr_array, expr_by_ref, expr_inst, expr_var, expr_mvar, expr_mod, expr_pinned)
