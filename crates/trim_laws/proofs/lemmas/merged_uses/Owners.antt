-- The type in which a reference finds a member: its form, and what it names.
use Rattle.std.proofs.Common.{◌≡◌, ℕ, zero, suc, ◌+◌, true, List, [], ◌∷◌, ◌++◌, length, map, Option, Some, None, inl, inr, refl, sym, ap, subst, ◌∙◌, arith}
use Rattle.std.specs.List.{range_with_len}
use Rattle.std.specs.Option.{option_map, option_and_then}
use Rattle.il_base.specs.declared.ids.TypeId.{TypeId}
use Rattle.il_base.specs.declared.world_model.expr.TypeExpr.{TypeExpr, out-TypeExpr, roll-TypeExpr, roll-out-TypeExpr}
use Rattle.il_base.specs.declared.world_model.expr.TypeExpr.TheOpen.{TypeExpr-F}
use Rattle.il_base.specs.declared.world_model.expr.TypeExpr.TheVariants as expr
use Rattle.il_base.specs.declared.world_model.record.AsmRec.{AsmRec}
use Rattle.il_base.specs.world_model.Exprs as exprs
use Rattle.il_base.specs.world_model.Exprs.{arg_or}
use Rattle.il_base.specs.world_model.Worlds.{prim_type}
use Rattle.il_base.proofs.lemmas.world_model.ExprLayers.{subst_prim, subst_def, subst_inst, subst_var}
use Rattle.rules.specs.declared.link_rules.row_at.RowAt.{RowAt}
use Rattle.rules.specs.link_rules.Members.{array_type, type_home, owner_in, owner_of, args_in, args_of, is_named_in, is_named, base_at, base_of, bases_from, type_count, with_bases, own_args, open_in, open_parent, Found, found_in, or_next, search, closed}
use Rattle.base_laws.proofs.lemmas.type_laws.Within.{In}
use Rattle.base_laws.proofs.lemmas.type_laws.Upwards.{out_is, owner_as, has_base}
use Rattle.trim_laws.proofs.lemmas.merged_uses.Leaves.{Leaf, alone, All, AllOf, all_def, all_inst, all_var, all_args, put_all, inst_head}

-- ---- a type that is named, alone or with arguments

pub data Shape (e : TypeExpr) : Type 0 where
  a_prim : (n : ℕ) → e ≡ expr.Prim n → Shape e
  a_definition : (t : TypeId) → e ≡ expr.Def t → Shape e
  an_instance : (t : TypeId) (args : List TypeExpr) → e ≡ expr.Inst t args → Shape e

shape_by : (x : TypeExpr-F TypeExpr) (e : TypeExpr) → roll-TypeExpr x ≡ e → is_named_in x ≡ true → Shape e
shape_by (TypeExpr-F.Prim n) e is h = a_prim n (sym is ∙ expr.rolls-Prim n)
shape_by (TypeExpr-F.Def t) e is h = a_definition t (sym is ∙ expr.rolls-Def t)
shape_by (TypeExpr-F.Inst t args) e is h = an_instance t args (sym is ∙ expr.rolls-Inst t args)
shape_by (TypeExpr-F.Array x) e is h = cc
shape_by (TypeExpr-F.ByRef x) e is h = cc
shape_by (TypeExpr-F.Var n) e is h = cc
shape_by (TypeExpr-F.MVar n) e is h = cc
shape_by (TypeExpr-F.Mod required by x) e is h = cc

pub named_shape : (e : TypeExpr) → is_named e ≡ true → Shape e
unfolding is_named
named_shape e h = shape_by (out-TypeExpr e) e (roll-out-TypeExpr e) h

pub put_shape : (targs : List TypeExpr) (e : TypeExpr) → Shape e → Shape (exprs.subst targs [] e)
put_shape targs e (a_prim n is) = a_prim n (ap (exprs.subst targs []) is ∙ subst_prim targs [] n)
put_shape targs e (a_definition t is) = a_definition t (ap (exprs.subst targs []) is ∙ subst_def targs [] t)
put_shape targs e (an_instance t args is) = an_instance t (map (exprs.subst targs []) args) (ap (exprs.subst targs []) is ∙ subst_inst targs [] t args)

pub prim_out : (n : ℕ) → out-TypeExpr (expr.Prim n) ≡ TypeExpr-F.Prim n
prim_out n = out_is (TypeExpr-F.Prim n) (expr.Prim n) (expr.rolls-Prim n)

pub def_out : (t : TypeId) → out-TypeExpr (expr.Def t) ≡ TypeExpr-F.Def t
def_out t = out_is (TypeExpr-F.Def t) (expr.Def t) (expr.rolls-Def t)

pub inst_out : (t : TypeId) (args : List TypeExpr) → out-TypeExpr (expr.Inst t args) ≡ TypeExpr-F.Inst t args
inst_out t args = out_is (TypeExpr-F.Inst t args) (expr.Inst t args) (expr.rolls-Inst t args)

module _ (recs : List AsmRec) where
  pub prim_owner : (n : ℕ) → owner_of recs (expr.Prim n) ≡ prim_type recs n
  prim_owner n = owner_as recs [] (TypeExpr-F.Prim n) (expr.Prim n) (expr.rolls-Prim n)

  pub def_owner : (t : TypeId) → owner_of recs (expr.Def t) ≡ Some t
  def_owner t = owner_as recs [] (TypeExpr-F.Def t) (expr.Def t) (expr.rolls-Def t)

  pub inst_owner : (t : TypeId) (args : List TypeExpr) → owner_of recs (expr.Inst t args) ≡ Some t
  inst_owner t args = owner_as recs [] (TypeExpr-F.Inst t args) (expr.Inst t args) (expr.rolls-Inst t args)

  pub put_owner : (targs : List TypeExpr) (e : TypeExpr) → Shape e → owner_of recs (exprs.subst targs [] e) ≡ owner_of recs e
  put_owner targs e (a_prim n is) = ap (owner_of recs) (ap (exprs.subst targs []) is ∙ subst_prim targs [] n ∙ sym is)
  put_owner targs e (a_definition t is) = ap (owner_of recs) (ap (exprs.subst targs []) is ∙ subst_def targs [] t ∙ sym is)
  put_owner targs e (an_instance t args is) =
      ap (owner_of recs) (ap (exprs.subst targs []) is ∙ subst_inst targs [] t args) ∙ inst_owner t (map (exprs.subst targs []) args) ∙ sym (ap (owner_of recs) is ∙ inst_owner t args)

  -- ---- arguments of a type that is opened

  open_prim : (n : ℕ) → open_parent recs (expr.Prim n) ≡ expr.Prim n
  unfolding open_parent
  open_prim n = ap (open_in recs (expr.Prim n)) (prim_out n)

  open_def : (t : TypeId) → open_parent recs (expr.Def t) ≡ expr.Def t
  unfolding open_parent
  open_def t = ap (open_in recs (expr.Def t)) (def_out t)

  open_inst : (t : TypeId) (args : List TypeExpr) → open_parent recs (expr.Inst t args) ≡ expr.Inst t (own_args (length args))
  unfolding open_parent
  open_inst t args = ap (open_in recs (expr.Inst t args)) (inst_out t args)

  inst_arguments : (t : TypeId) (args : List TypeExpr) → args_of (expr.Inst t args) ≡ args
  unfolding args_of
  inst_arguments t args = ap args_in (inst_out t args)

  arg_behind : (front : List TypeExpr) (x : TypeExpr) (back : List TypeExpr) (i : ℕ) (other : TypeExpr) → i ≡ length front → arg_or (front ++ x ∷ back) i other ≡ x
  arg_behind [] x back zero other e = refl
  arg_behind [] x back (suc i) other e = absurd (omega (arith, e))
  arg_behind (y ∷ front) x back zero other e = absurd (omega (arith, e))
  arg_behind (y ∷ front) x back (suc i) other e = arg_behind front x back i other (omega (arith, e))

  one_by_one : (front : List TypeExpr) (x : TypeExpr) (back : List TypeExpr) → (front ++ x ∷ []) ++ back ≡ front ++ x ∷ back
  one_by_one [] x back = refl
  one_by_one (y ∷ front) x back = ap (λ (ys : List TypeExpr). y ∷ ys) (one_by_one front x back)

  one_longer : (front : List TypeExpr) (x : TypeExpr) → length (front ++ x ∷ []) ≡ length front + 1
  one_longer [] x = refl
  one_longer (y ∷ front) x = let more = one_longer front x in omega (arith, more)

  args_put : (all front back : List TypeExpr) (i : ℕ) → all ≡ front ++ back → i ≡ length front → map (exprs.subst all []) (map (λ k. expr.Var k) (range_with_len i (length back))) ≡ back
  args_put all front [] i e f = refl
  args_put all front (x ∷ back) i e f =
      let here : exprs.subst all [] (expr.Var i) ≡ x = subst_var all [] i ∙ ap (λ (xs : List TypeExpr). arg_or xs i (expr.Var i)) e ∙ arg_behind front x back i (expr.Var i) f in
      let long = one_longer front x in
      let more = args_put all (front ++ x ∷ []) back (i + 1) (e ∙ sym (one_by_one front x back)) (omega (arith, f, long)) in
      λ j. here j ∷ more j

  -- with its arguments put in it is as it was
  pub closed_again : (e : TypeExpr) → Shape e → exprs.subst (args_of e) [] (open_parent recs e) ≡ e
  closed_again e (a_prim n is) = ap (λ (x : TypeExpr). exprs.subst (args_of x) [] (open_parent recs x)) is ∙ ap (exprs.subst (args_of (expr.Prim n)) []) (open_prim n) ∙ subst_prim (args_of (expr.Prim n)) [] n ∙ sym is
  closed_again e (a_definition t is) = ap (λ (x : TypeExpr). exprs.subst (args_of x) [] (open_parent recs x)) is ∙ ap (exprs.subst (args_of (expr.Def t)) []) (open_def t) ∙ subst_def (args_of (expr.Def t)) [] t ∙ sym is
  closed_again e (an_instance t args is) =
      ap (λ (x : TypeExpr). exprs.subst (args_of x) [] (open_parent recs x)) is ∙ ap (exprs.subst (args_of (expr.Inst t args)) []) (open_inst t args)
      ∙ ap (λ (xs : List TypeExpr). exprs.subst xs [] (expr.Inst t (own_args (length args)))) (inst_arguments t args)
      ∙ subst_inst args [] t (own_args (length args)) ∙ ap (expr.Inst t) (args_put args [] args 0 refl refl) ∙ sym is

  -- ---- what such a type names

  module _ (P : Leaf → Type 0) (array : (t : TypeId) → array_type recs ≡ Some t → P (alone t)) (base : (at : RowAt) (b : TypeExpr) → base_at recs at ≡ Some b → All P b) where
    -- a type with members is named, and all that it names has the property
    pub record Fit (e : TypeExpr) : Type 0 where
      pub all : All P e
      pub shape : (t : TypeId) → owner_of recs e ≡ Some t → Shape e

    map_from : {A B : Type 0} (f : A → B) (o : Option A) (y : B) → option_map f o ≡ Some y → (x : A) × (o ≡ Some x) × (f x ≡ y)
    map_from f None y e = absurd (cc)
    map_from f (Some x) y e = (x, refl, cc)

    then_from : {A B : Type 0} (f : A → Option B) (o : Option A) (y : B) → option_and_then f o ≡ Some y → (x : A) × (o ≡ Some x) × (f x ≡ Some y)
    then_from f None y e = absurd (cc)
    then_from f (Some x) y e = (x, refl, e)

    put_fit : (e b : TypeExpr) → All P e → All P b → All P (exprs.subst (args_of e) [] b)
    put_fit e b h g = put_all P (args_of e) (all_args P e h) b g

    base_fit : (e b : TypeExpr) → Fit e → base_of recs e ≡ Some b → Fit b
    unfolding base_of
    base_fit e b h is =
        let m = map_from (exprs.subst (args_of e) []) (option_and_then (base_at recs) (option_and_then (type_home recs) (owner_of recs e))) b is in
        let at = then_from (base_at recs) (option_and_then (type_home recs) (owner_of recs e)) m.0 m.1 in
        let named = named_shape m.0 (has_base recs at.0 m.0 at.2).named in
        subst Fit m.2 (record { all = put_fit e m.0 h.all (base at.0 m.0 at.2); shape = λ t o. put_shape (args_of e) m.0 named })

    next_fit : (n : ℕ) (o : Option TypeExpr) → ((b : TypeExpr) → o ≡ Some b → (e : TypeExpr) → In e (bases_from recs n b) → Fit e) → (e : TypeExpr) → In e (elim o [ None ↦ [] | Some b ↦ bases_from recs n b ]) → Fit e
    next_fit n None h e i = absurd i
    next_fit n (Some b) h e i = h b refl e i

    bases_fit : (n : ℕ) (x : TypeExpr) → Fit x → (e : TypeExpr) → In e (bases_from recs n x) → Fit e
    unfolding bases_from
    bases_fit zero x h e i = absurd i
    bases_fit (suc n) x h e (inl same) = subst Fit (sym same) h
    bases_fit (suc n) x h e (inr i) = next_fit n (base_of recs x) (λ b is y j. bases_fit n b (base_fit x b h is) y j) e i

    -- ---- a parent that is opened

    vars_fit : (ns : List ℕ) → AllOf P (map (λ k. expr.Var k) ns)
    vars_fit [] e i = absurd i
    vars_fit (n ∷ ns) e (inl same) = subst (All P) (sym same) (all_var P n)
    vars_fit (n ∷ ns) e (inr i) = vars_fit ns e i

    array_fit : (e x : TypeExpr) → roll-TypeExpr (TypeExpr-F.Array x) ≡ e → All P e → (o : Option TypeId) → array_type recs ≡ o → Fit (elim o [ Some t ↦ expr.Def t | None ↦ e ])
    array_fit e x is h None of = record { all = h; shape = λ t o. let f : array_type recs ≡ Some t = sym (owner_as recs [] (TypeExpr-F.Array x) e is) ∙ o in let g : None ≡ Some t = sym of ∙ f in absurd (cc) }
    array_fit e x is h (Some t) of = record { all = all_def P t (array t of); shape = λ u o. a_definition t refl }

    no_owner : (x : TypeExpr-F TypeExpr) (e : TypeExpr) → roll-TypeExpr x ≡ e → owner_in recs x ≡ None → (t : TypeId) → owner_of recs e ≡ Some t → Shape e
    no_owner x e is none t o = let f : None ≡ Some t = sym none ∙ sym (owner_as recs [] x e is) ∙ o in absurd (cc)

    open_by : (e : TypeExpr) (x : TypeExpr-F TypeExpr) → roll-TypeExpr x ≡ e → All P e → Fit (open_in recs e x)
    open_by e (TypeExpr-F.Inst t args) is h = record {
      all = all_inst P t (own_args (length args)) (inst_head P t args (subst (All P) (sym is ∙ expr.rolls-Inst t args) h)) (vars_fit (range_with_len 0 (length args)));
      shape = λ u o. an_instance t (own_args (length args)) refl;
    }
    open_by e (TypeExpr-F.Array x) is h = array_fit e x is h (array_type recs) refl
    open_by e (TypeExpr-F.Prim n) is h = record { all = h; shape = λ t o. a_prim n (sym is ∙ expr.rolls-Prim n) }
    open_by e (TypeExpr-F.Def t) is h = record { all = h; shape = λ u o. a_definition t (sym is ∙ expr.rolls-Def t) }
    open_by e (TypeExpr-F.ByRef x) is h = record { all = h; shape = no_owner (TypeExpr-F.ByRef x) e is refl }
    open_by e (TypeExpr-F.Var n) is h = record { all = h; shape = no_owner (TypeExpr-F.Var n) e is refl }
    open_by e (TypeExpr-F.MVar n) is h = record { all = h; shape = no_owner (TypeExpr-F.MVar n) e is refl }
    open_by e (TypeExpr-F.Mod required by x) is h = record { all = h; shape = no_owner (TypeExpr-F.Mod required by x) e is refl }

    open_fit : (e : TypeExpr) → All P e → Fit (open_parent recs e)
    unfolding open_parent
    open_fit e h = open_by e (out-TypeExpr e) (roll-out-TypeExpr e) h

    -- ---- what a search finds

    module _ (look : TypeExpr → Option RowAt) where
      pub record Looked (parent : TypeExpr) (x : Found) : Type 0 where
        -- where it is found, before the parent's arguments are put in
        pub opened : TypeExpr
        pub fit : Fit opened
        pub looks : look opened ≡ Some x.at
        pub owner : x.owner ≡ exprs.subst (args_of parent) [] opened
        pub all : All P x.owner

      next_in : (e : TypeExpr) (es : List TypeExpr) (x : Found) (later : Option Found) (o : Option RowAt) → look e ≡ o → (later ≡ Some x → (look x.owner ≡ Some x.at) × In x.owner es) → or_next (option_map (found_in e) o) later ≡ Some x
          → (look x.owner ≡ Some x.at) × In x.owner (e ∷ es)
      next_in e es x later None f more h = let m = more h in (m.0, inr m.1)
      next_in e es x later (Some at) f more h =
          let same : found_in e at ≡ x = cc in
          subst (λ (y : Found). (look y.owner ≡ Some y.at) × In y.owner (e ∷ es)) same (f, inl refl)

      search_in : (es : List TypeExpr) (x : Found) → search look es ≡ Some x → (look x.owner ≡ Some x.at) × In x.owner es
      unfolding search
      search_in [] x h = absurd (cc)
      search_in (e ∷ es) x h = next_in e es x (search look es) (look e) refl (search_in es x) h

      pub looked : (parent : TypeExpr) (x : Found) → All P parent → option_map (closed parent) (search look (with_bases recs (open_parent recs parent))) ≡ Some x → Looked parent x
      looked parent x h is =
          let m = map_from (closed parent) (search look (with_bases recs (open_parent recs parent))) x is in
          let s = search_in (with_bases recs (open_parent recs parent)) m.0 m.1 in
          let fit = bases_fit (type_count recs) (open_parent recs parent) (open_fit parent h) m.0.owner s.1 in
          subst (Looked parent) m.2 (record { opened = m.0.owner; fit = fit; looks = s.0; owner = refl; all = put_fit parent m.0.owner h fit.all })
