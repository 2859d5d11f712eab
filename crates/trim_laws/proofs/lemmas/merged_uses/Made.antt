-- A signature that is made of a type, written with the output's tokens, names the moved type where the tokens of its definitions do.
use Rattle.std.proofs.Common.{◌≡◌, ℕ, suc, Bool, List, [], ◌∷◌, ◌++◌, map, ◌⊎◌, inl, inr, refl, sym, ap, subst, ◌∙◌}
use Rattle.std.specs.List.{flat_map}
use Rattle.il_base.specs.declared.ids.TypeId.{TypeId}
use Rattle.il_base.specs.declared.sig.Sig.{Sig, roll-Sig, fold-roll-Sig}
use Rattle.il_base.specs.declared.sig.Sig.TheFolds.{map-Sig}
use Rattle.il_base.specs.declared.sig.Sig.TheOpen.{Sig-F}
use Rattle.il_base.specs.declared.sig.Sig.TheVariants as sig
use Rattle.il_base.specs.declared.world_model.known.Known.{Known}
use Rattle.il_base.specs.declared.world_model.known.Known.TheVariants.{Good}
use Rattle.il_base.specs.declared.world_model.expr.TypeExpr.{TypeExpr, fold-roll-TypeExpr, ind-TypeExpr, roll-TypeExpr}
use Rattle.il_base.specs.declared.world_model.expr.TypeExpr.TheFolds.{map-TypeExpr}
use Rattle.il_base.specs.declared.world_model.expr.TypeExpr.TheOpen.{TypeExpr-F}
use Rattle.il_base.specs.declared.world_model.expr.TypeExpr.TheVariants as expr
use Rattle.il_base.specs.declared.world_model.record.AsmRec.{AsmRec}
use Rattle.il_base.specs.world_model.Worlds.{Names, known_map, known_then, all_known, named_in, definition_named, modifier_named, instance_of, modified, sig_layer, sig_expr}
use Rattle.rules.specs.change_rules.Change.{Rho}
use Rattle.rules.specs.change_rules.Moves.{move_type, move_expr, move_exprs}
use Rattle.base_laws.proofs.lemmas.change_laws.Exprs.{With, plain_parts, move_prim, move_inst, move_array, move_by_ref, move_var, move_mvar, move_mod}
use Rattle.rules.specs.merge_rules.Keys.{is_value, made_layer, made_sig}
use Rattle.rules.specs.merge_rules.Refs.{Output, numbers_layer, numbers_in, type_of_number, types_of_sig, number_token, new_sig_layer, new_sig}
use Rattle.base_laws.proofs.lemmas.type_laws.Within.{In, in_front, in_behind, in_parts, flat_in}
use Rattle.trim_laws.proofs.lemmas.merged_uses.Leaves.{Leaf, alone, generic, modifier, leaves_layer, leaves, leaves_is, All, AllOf, def_leaf, inst_head, inst_args, array_part, by_ref_part, mod_head, mod_part}

-- ---- one level of each

made_is : (recs : List AsmRec) (x : TypeExpr-F TypeExpr) (e : TypeExpr) → roll-TypeExpr x ≡ e → made_sig recs e ≡ made_layer recs (map-TypeExpr TypeExpr Sig (made_sig recs) x)
unfolding made_sig
made_is recs x e is = ap (made_sig recs) (sym is) ∙ fold-roll-TypeExpr Sig (made_layer recs) x

reads : (names : Names) (x : Sig-F Sig) (s : Sig) → roll-Sig x ≡ s → sig_expr names s ≡ sig_layer names (map-Sig Sig (Known TypeExpr) (sig_expr names) x)
unfolding sig_expr
reads names x s e = ap (sig_expr names) (sym e) ∙ fold-roll-Sig (Known TypeExpr) (sig_layer names) x

new_is : (o : Output) (x : Sig-F Sig) (s : Sig) → roll-Sig x ≡ s → new_sig o s ≡ new_sig_layer o (map-Sig Sig Sig (new_sig o) x)
unfolding new_sig
new_is o x s e = ap (new_sig o) (sym e) ∙ fold-roll-Sig Sig (new_sig_layer o) x

numbers : (x : Sig-F Sig) (s : Sig) → roll-Sig x ≡ s → numbers_in s ≡ numbers_layer (map-Sig Sig (List ℕ) numbers_in x)
unfolding numbers_in
numbers x s e = ap numbers_in (sym e) ∙ fold-roll-Sig (List ℕ) numbers_layer x

-- ---- what it names

module _ (o : Output) (recs : List AsmRec) (n : Names) (r : Rho) where
  -- what the token of a definition names
  abbrev pub Fact : Leaf → Type 0
  Fact (alone t) = named_in n.types (number_token o (suc t.0)) ≡ Good (move_expr r (expr.Def t))
  Fact (generic t) = definition_named n (number_token o (suc t.0)) ≡ Good (move_type r t)
  Fact (modifier t) = modifier_named n (number_token o (suc t.0)) ≡ Good (move_type r t)

  abbrev pub both : TypeExpr → Sig
  both e = new_sig o (made_sig recs e)

  abbrev Reads : TypeExpr → Type 0
  Reads e = All Fact e → sig_expr n (new_sig o (made_sig recs e)) ≡ Good (move_expr r e)

  abbrev plain : List (With Reads) → List TypeExpr
  plain xs = map (λ e. e.0) xs

  read_prim : (k : ℕ) → Reads (expr.Prim k)
  read_prim k h =
      ap (λ (s : Sig). sig_expr n (new_sig o s)) (made_is recs (TypeExpr-F.Prim k) (expr.Prim k) (expr.rolls-Prim k))
      ∙ ap (sig_expr n) (new_is o (Sig-F.Prim k) (sig.Prim k) (sig.rolls-Prim k)) ∙ reads n (Sig-F.Prim k) (sig.Prim k) (sig.rolls-Prim k) ∙ ap Good (sym (move_prim r k))

  read_var : (k : ℕ) → Reads (expr.Var k)
  read_var k h =
      ap (λ (s : Sig). sig_expr n (new_sig o s)) (made_is recs (TypeExpr-F.Var k) (expr.Var k) (expr.rolls-Var k))
      ∙ ap (sig_expr n) (new_is o (Sig-F.Var k) (sig.Var k) (sig.rolls-Var k)) ∙ reads n (Sig-F.Var k) (sig.Var k) (sig.rolls-Var k) ∙ ap Good (sym (move_var r k))

  read_mvar : (k : ℕ) → Reads (expr.MVar k)
  read_mvar k h =
      ap (λ (s : Sig). sig_expr n (new_sig o s)) (made_is recs (TypeExpr-F.MVar k) (expr.MVar k) (expr.rolls-MVar k))
      ∙ ap (sig_expr n) (new_is o (Sig-F.MVar k) (sig.MVar k) (sig.rolls-MVar k)) ∙ reads n (Sig-F.MVar k) (sig.MVar k) (sig.rolls-MVar k) ∙ ap Good (sym (move_mvar r k))

  read_def : (t : TypeId) → Reads (expr.Def t)
  read_def t h =
      let v : Bool = is_value recs t in
      let token : ℕ = number_token o (suc t.0) in
      ap (λ (s : Sig). sig_expr n (new_sig o s)) (made_is recs (TypeExpr-F.Def t) (expr.Def t) (expr.rolls-Def t))
      ∙ ap (sig_expr n) (new_is o (Sig-F.Named v (suc t.0)) (sig.Named v (suc t.0)) (sig.rolls-Named v (suc t.0)))
      ∙ reads n (Sig-F.Named v token) (sig.Named v token) (sig.rolls-Named v token) ∙ def_leaf Fact t h

  read_array : (e : TypeExpr) → Reads e → Reads (expr.Array e)
  read_array e p h =
      ap (λ (s : Sig). sig_expr n (new_sig o s)) (made_is recs (TypeExpr-F.Array e) (expr.Array e) (expr.rolls-Array e))
      ∙ ap (sig_expr n) (new_is o (Sig-F.Array (made_sig recs e)) (sig.Array (made_sig recs e)) (sig.rolls-Array (made_sig recs e)))
      ∙ reads n (Sig-F.Array (both e)) (sig.Array (both e)) (sig.rolls-Array (both e)) ∙ ap (known_map (λ (x : TypeExpr). expr.Array x)) (p (array_part Fact e h)) ∙ ap Good (sym (move_array r e))

  read_by_ref : (e : TypeExpr) → Reads e → Reads (expr.ByRef e)
  read_by_ref e p h =
      ap (λ (s : Sig). sig_expr n (new_sig o s)) (made_is recs (TypeExpr-F.ByRef e) (expr.ByRef e) (expr.rolls-ByRef e))
      ∙ ap (sig_expr n) (new_is o (Sig-F.ByRef (made_sig recs e)) (sig.ByRef (made_sig recs e)) (sig.rolls-ByRef (made_sig recs e)))
      ∙ reads n (Sig-F.ByRef (both e)) (sig.ByRef (both e)) (sig.rolls-ByRef (both e)) ∙ ap (known_map (λ (x : TypeExpr). expr.ByRef x)) (p (by_ref_part Fact e h)) ∙ ap Good (sym (move_by_ref r e))

  read_mod : (q : Bool) (t : TypeId) (e : TypeExpr) → Reads e → Reads (expr.Mod q t e)
  read_mod q t e p h =
      let token : ℕ = number_token o (suc t.0) in
      ap (λ (s : Sig). sig_expr n (new_sig o s)) (made_is recs (TypeExpr-F.Mod q t e) (expr.Mod q t e) (expr.rolls-Mod q t e))
      ∙ ap (sig_expr n) (new_is o (Sig-F.Mod q (suc t.0) (made_sig recs e)) (sig.Mod q (suc t.0) (made_sig recs e)) (sig.rolls-Mod q (suc t.0) (made_sig recs e)))
      ∙ reads n (Sig-F.Mod q token (both e)) (sig.Mod q token (both e)) (sig.rolls-Mod q token (both e))
      ∙ (λ j. modified q (mod_head Fact q t e h j) (p (mod_part Fact q t e h) j)) ∙ ap Good (sym (move_mod r q t e))

  read_args : (xs : List (With Reads)) → AllOf Fact (map (λ e. e.0) xs) → all_known (map (sig_expr n) (map (new_sig o) (map (made_sig recs) (plain xs)))) ≡ Good (move_exprs r (plain xs))
  read_args [] h = refl
  read_args (x ∷ xs) h =
      let here : sig_expr n (both x.0) ≡ Good (move_expr r x.0) = x.1 (h x.0 (inl refl)) in
      let rest : all_known (map (sig_expr n) (map (new_sig o) (map (made_sig recs) (plain xs)))) ≡ Good (move_exprs r (plain xs)) = read_args xs (λ e i. h e (inr i)) in
      λ j. known_then (λ (y : TypeExpr). known_map (λ ys. y ∷ ys) (rest j)) (here j)

  read_inst : (t : TypeId) (xs : List (With Reads)) → Reads (expr.Inst t (map (λ e. e.0) xs))
  read_inst t xs h =
      let es : List TypeExpr = map (λ e. e.0) xs in
      let v : Bool = is_value recs t in
      let token : ℕ = number_token o (suc t.0) in
      let ms : List Sig = map (made_sig recs) es in
      let ns : List Sig = map (new_sig o) ms in
      ap (λ (s : Sig). sig_expr n (new_sig o s)) (made_is recs (TypeExpr-F.Inst t es) (expr.Inst t es) (expr.rolls-Inst t es))
      ∙ ap (sig_expr n) (new_is o (Sig-F.Inst v (suc t.0) ms) (sig.Inst v (suc t.0) ms) (sig.rolls-Inst v (suc t.0) ms))
      ∙ reads n (Sig-F.Inst v token ns) (sig.Inst v token ns) (sig.rolls-Inst v token ns)
      ∙ (λ j. instance_of (inst_head Fact t es h j) (read_args xs (inst_args Fact t es h) j)) ∙ ap Good (sym (move_inst r t es))

  rolled : (x : TypeExpr-F TypeExpr) (e : TypeExpr) → roll-TypeExpr x ≡ e → Reads e → Reads (roll-TypeExpr x)
  rolled x e is p = subst Reads (sym is) p

  read_layer : (y : TypeExpr-F (With Reads)) → Reads (roll-TypeExpr (plain_parts Reads y))
  read_layer (TypeExpr-F.Prim k) = rolled (TypeExpr-F.Prim k) (expr.Prim k) (expr.rolls-Prim k) (read_prim k)
  read_layer (TypeExpr-F.Def t) = rolled (TypeExpr-F.Def t) (expr.Def t) (expr.rolls-Def t) (read_def t)
  read_layer (TypeExpr-F.Inst t xs) = rolled (TypeExpr-F.Inst t (plain xs)) (expr.Inst t (plain xs)) (expr.rolls-Inst t (plain xs)) (read_inst t xs)
  read_layer (TypeExpr-F.Array x) = rolled (TypeExpr-F.Array x.0) (expr.Array x.0) (expr.rolls-Array x.0) (read_array x.0 x.1)
  read_layer (TypeExpr-F.ByRef x) = rolled (TypeExpr-F.ByRef x.0) (expr.ByRef x.0) (expr.rolls-ByRef x.0) (read_by_ref x.0 x.1)
  read_layer (TypeExpr-F.Var k) = rolled (TypeExpr-F.Var k) (expr.Var k) (expr.rolls-Var k) (read_var k)
  read_layer (TypeExpr-F.MVar k) = rolled (TypeExpr-F.MVar k) (expr.MVar k) (expr.rolls-MVar k) (read_mvar k)
  read_layer (TypeExpr-F.Mod q t x) = rolled (TypeExpr-F.Mod q t x.0) (expr.Mod q t x.0) (expr.rolls-Mod q t x.0) (read_mod q t x.0 x.1)

  pub made_reads : (e : TypeExpr) → All Fact e → sig_expr n (new_sig o (made_sig recs e)) ≡ Good (move_expr r e)
  made_reads = ind-TypeExpr Reads (λ x y is. subst (λ z. Reads (roll-TypeExpr z)) is (read_layer y))

-- ---- its definitions are the types of that signature

abbrev pub leaf_type : Leaf → TypeId
leaf_type (alone t) = t
leaf_type (generic t) = t
leaf_type (modifier t) = t

module _ (recs : List AsmRec) where
  abbrev HasNumbers : TypeExpr → Type 0
  HasNumbers e = All (λ l. In (suc (leaf_type l).0) (numbers_in (made_sig recs e))) e

  made_numbers : (x : TypeExpr-F TypeExpr) (e : TypeExpr) → roll-TypeExpr x ≡ e → numbers_in (made_sig recs e) ≡ numbers_in (made_layer recs (map-TypeExpr TypeExpr Sig (made_sig recs) x))
  made_numbers x e is = ap numbers_in (made_is recs x e is)

  abbrev InNumbers : Leaf → List ℕ → Type 0
  InNumbers l ns = In (suc (leaf_type l).0) ns

  in_part : (l : Leaf) (ls ms : List Leaf) (front back : List ℕ) → (In l ls → InNumbers l front) → (In l ms → InNumbers l back) → In l ls ⊎ In l ms → InNumbers l (front ++ back)
  in_part l ls ms front back f g (inl h) = in_front (suc (leaf_type l).0) front back (f h)
  in_part l ls ms front back f g (inr h) = in_behind (suc (leaf_type l).0) front back (g h)

  in_each : (xs : List (With HasNumbers)) (l : Leaf) → In l (flat_map (λ ls. ls) (map leaves (map (λ e. e.0) xs))) → InNumbers l (flat_map (λ ns. ns) (map numbers_in (map (made_sig recs) (map (λ e. e.0) xs))))
  in_each [] l h = absurd h
  in_each (x ∷ xs) l h =
      let more : List Leaf = flat_map (λ ls. ls) (map leaves (map (λ e. e.0) xs)) in
      in_part l (leaves x.0) more (numbers_in (made_sig recs x.0)) (flat_map (λ ns. ns) (map numbers_in (map (made_sig recs) (map (λ e. e.0) xs)))) (x.1 l) (in_each xs l) (in_parts l (leaves x.0) more h)

  by_numbers : (x : TypeExpr-F TypeExpr) (e : TypeExpr) → roll-TypeExpr x ≡ e → (ns : List ℕ) → numbers_in (made_sig recs e) ≡ ns → ((l : Leaf) → In l (leaves_layer (map-TypeExpr TypeExpr (List Leaf) leaves x)) → InNumbers l ns) → HasNumbers e
  by_numbers x e is ns same h l i = subst (InNumbers l) (sym same) (h l (subst (In l) (leaves_is x e is) i))

  num_one : (t : TypeId) (x : Leaf) → leaf_type x ≡ t → (ns : List ℕ) (l : Leaf) → l ≡ x → InNumbers l (suc t.0 ∷ ns)
  num_one t x is ns l same = inl (ap (λ (u : TypeId). suc u.0) (ap leaf_type same ∙ is))

  num_layer : (y : TypeExpr-F (With HasNumbers)) → HasNumbers (roll-TypeExpr (plain_parts HasNumbers y))
  num_layer (TypeExpr-F.Prim k) = by_numbers (TypeExpr-F.Prim k) (roll-TypeExpr (TypeExpr-F.Prim k)) refl _ refl (λ l i. absurd i)
  num_layer (TypeExpr-F.Var k) = by_numbers (TypeExpr-F.Var k) (roll-TypeExpr (TypeExpr-F.Var k)) refl _ refl (λ l i. absurd i)
  num_layer (TypeExpr-F.MVar k) = by_numbers (TypeExpr-F.MVar k) (roll-TypeExpr (TypeExpr-F.MVar k)) refl _ refl (λ l i. absurd i)
  num_layer (TypeExpr-F.Def t) =
      let v : Bool = is_value recs t in
      by_numbers (TypeExpr-F.Def t) (roll-TypeExpr (TypeExpr-F.Def t)) refl (suc t.0 ∷ [])
      (made_numbers (TypeExpr-F.Def t) (roll-TypeExpr (TypeExpr-F.Def t)) refl ∙ numbers (Sig-F.Named v (suc t.0)) (sig.Named v (suc t.0)) (sig.rolls-Named v (suc t.0))) one
    where
      one : (l : Leaf) → In l (alone t ∷ []) → InNumbers l (suc t.0 ∷ [])
      one l (inl same) = num_one t (alone t) refl [] l same
      one l (inr h) = absurd h
  num_layer (TypeExpr-F.Array x) =
      let s : Sig = made_sig recs x.0 in
      by_numbers (TypeExpr-F.Array x.0) (roll-TypeExpr (TypeExpr-F.Array x.0)) refl (numbers_in s)
      (made_numbers (TypeExpr-F.Array x.0) (roll-TypeExpr (TypeExpr-F.Array x.0)) refl ∙ numbers (Sig-F.Array s) (sig.Array s) (sig.rolls-Array s)) (x.1)
  num_layer (TypeExpr-F.ByRef x) =
      let s : Sig = made_sig recs x.0 in
      by_numbers (TypeExpr-F.ByRef x.0) (roll-TypeExpr (TypeExpr-F.ByRef x.0)) refl (numbers_in s)
      (made_numbers (TypeExpr-F.ByRef x.0) (roll-TypeExpr (TypeExpr-F.ByRef x.0)) refl ∙ numbers (Sig-F.ByRef s) (sig.ByRef s) (sig.rolls-ByRef s)) (x.1)
  num_layer (TypeExpr-F.Mod q t x) =
      let s : Sig = made_sig recs x.0 in
      by_numbers (TypeExpr-F.Mod q t x.0) (roll-TypeExpr (TypeExpr-F.Mod q t x.0)) refl (suc t.0 ∷ numbers_in s)
      (made_numbers (TypeExpr-F.Mod q t x.0) (roll-TypeExpr (TypeExpr-F.Mod q t x.0)) refl ∙ numbers (Sig-F.Mod q (suc t.0) s) (sig.Mod q (suc t.0) s) (sig.rolls-Mod q (suc t.0) s)) more
    where
      more : (l : Leaf) → In l (modifier t ∷ leaves x.0) → InNumbers l (suc t.0 ∷ numbers_in (made_sig recs x.0))
      more l (inl same) = num_one t (modifier t) refl (numbers_in (made_sig recs x.0)) l same
      more l (inr h) = inr (x.1 l h)
  num_layer (TypeExpr-F.Inst t xs) =
      let v : Bool = is_value recs t in
      let es : List TypeExpr = map (λ e. e.0) xs in
      let ms : List Sig = map (made_sig recs) es in
      by_numbers (TypeExpr-F.Inst t es) (roll-TypeExpr (TypeExpr-F.Inst t es)) refl (suc t.0 ∷ flat_map (λ ns. ns) (map numbers_in ms))
      (made_numbers (TypeExpr-F.Inst t es) (roll-TypeExpr (TypeExpr-F.Inst t es)) refl ∙ numbers (Sig-F.Inst v (suc t.0) ms) (sig.Inst v (suc t.0) ms) (sig.rolls-Inst v (suc t.0) ms)) more
    where
      more : (l : Leaf) → In l (generic t ∷ flat_map (λ ls. ls) (map leaves (map (λ e. e.0) xs))) → InNumbers l (suc t.0 ∷ flat_map (λ ns. ns) (map numbers_in (map (made_sig recs) (map (λ e. e.0) xs))))
      more l (inl same) = num_one t (generic t) refl (flat_map (λ ns. ns) (map numbers_in (map (made_sig recs) (map (λ e. e.0) xs)))) l same
      more l (inr h) = inr (in_each xs l h)

  has_numbers : (e : TypeExpr) → HasNumbers e
  has_numbers = ind-TypeExpr HasNumbers (λ x y is. subst (λ z. HasNumbers (roll-TypeExpr z)) is (num_layer y))

  pub leaf_met : (e : TypeExpr) (l : Leaf) → In l (leaves e) → In (leaf_type l) (types_of_sig (made_sig recs e))
  leaf_met e l i = flat_in type_of_number (leaf_type l) (suc (leaf_type l).0) (numbers_in (made_sig recs e)) (has_numbers e l i) (inl refl)

  pub inst_met : (t : TypeId) (args : List TypeExpr) → In t (types_of_sig (made_sig recs (expr.Inst t args)))
  inst_met t args = leaf_met (expr.Inst t args) (generic t) (inst_leaf t args)
    where
      inst_leaf : (t : TypeId) (args : List TypeExpr) → In (generic t) (leaves (expr.Inst t args))
      inst_leaf t args = subst (In (generic t)) (sym (leaves_is (TypeExpr-F.Inst t args) (expr.Inst t args) (expr.rolls-Inst t args))) (inl refl)
