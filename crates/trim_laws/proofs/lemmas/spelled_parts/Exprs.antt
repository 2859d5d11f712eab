-- Types whose numbers have a form, and the signatures that are made of them: one of at most 64 levels has a spelling but for what its
-- tokens name.
use Rattle.std.proofs.Common.{◌≡◌, ℕ, zero, suc, ◌+◌, ◌≤◌, Bool, true, false, List, [], ◌∷◌, length, map, Option, Some, None, find, max, refl, sym, ap, subst, ◌∙◌, arith}
use Rattle.std.proofs.Common as common
use Rattle.std.specs.Prelude.{◌==◌, slice_get, if◌then◌else◌}
use Rattle.std.specs.List.{list_all, range_with_len}
use Rattle.std.specs.Option.{option_map, option_and_then}
use Rattle.std.proofs.lemmas.Bool.{and_parts}
use Rattle.std.proofs.lemmas.List.{length-map}
use Rattle.il_base.specs.declared.ids.TypeId.{TypeId}
use Rattle.il_base.specs.declared.sig.Sig.{Sig, fold-roll-Sig, roll-Sig}
use Rattle.il_base.specs.declared.sig.Sig.TheFolds.{map-Sig}
use Rattle.il_base.specs.declared.sig.Sig.TheOpen.{Sig-F}
use Rattle.il_base.specs.declared.sig.Sig.TheVariants as sig
use Rattle.il_base.specs.declared.table.TheConstants as table
use Rattle.il_base.specs.blob_grammar.Signatures.{is_primitive}
use Rattle.il_base.specs.blob_grammar.Values.{FitsNumber}
use Rattle.il_base.specs.declared.world_model.known.Known.{Known}
use Rattle.il_base.specs.declared.world_model.known.Known.TheVariants.{Good, Bad}
use Rattle.il_base.specs.declared.world_model.known.BadKind.TheVariants.{Unresolved}
use Rattle.il_base.specs.declared.world_model.expr.TypeExpr.{TypeExpr, fold-roll-TypeExpr, out-TypeExpr, roll-TypeExpr, out-roll-TypeExpr}
use Rattle.il_base.specs.declared.world_model.expr.TypeExpr.TheFolds.{map-TypeExpr}
use Rattle.il_base.specs.declared.world_model.expr.TypeExpr.TheOpen.{TypeExpr-F}
use Rattle.il_base.specs.declared.world_model.expr.TypeExpr.TheVariants as expr
use Rattle.il_base.specs.declared.world_model.types.TypeDefRow.{TypeDefRow}
use Rattle.il_base.specs.declared.world_model.record.AsmRec.{AsmRec}
use Rattle.il_base.specs.world_model.Exprs as exprs
use Rattle.il_base.specs.world_model.Exprs.{arg_or, deepest}
use Rattle.il_base.specs.world_model.Worlds as worlds
use Rattle.il_base.specs.world_model.Worlds.{known_map, known_then, known_or, all_known, prims, is_prim_name, prim_of, core_types, named_in, definition_named, modifier_named, sig_layer, sig_expr, type_id}
use Rattle.il_base.specs.world_model.Core.{same_name}
use Rattle.il_base.specs.world_model.Tokens.{table_of}
use Rattle.il_base.proofs.lemmas.world_model.ExprLayers.{subst_prim, subst_def, subst_inst, subst_array, subst_by_ref, subst_var, subst_mvar, subst_mod, levels_inst, levels_array, levels_by_ref, levels_mod}
use Rattle.rules.specs.declared.link_rules.row_at.RowAt.{RowAt}
use Rattle.rules.specs.link_rules.Types.{definition_at}
use Rattle.rules.specs.link_rules.Signatures.{prim_at, definition_expr, known_expr, named_type, names_at}
use Rattle.rules.specs.link_rules.Members.{args_in, args_of}
use Rattle.rules.specs.merge_rules.Keys.{is_value, made_layer, made_sig}
use Rattle.trim_laws.proofs.lemmas.spelled_parts.Shapes.{Shape, Shapes}
use Rattle.trim_laws.proofs.lemmas.spelled_parts.Shapes as shape

-- ---- types whose numbers have a form

mutual
  pub data Fine : TypeExpr → Type 0 where
    prim : (n : ℕ) → is_primitive n ≡ true → Fine (expr.Prim n)
    def : (t : TypeId) → Fine (expr.Def t)
    inst : (t : TypeId) (args : List TypeExpr) → FitsNumber (length args) → AreFine args → Fine (expr.Inst t args)
    array : (e : TypeExpr) → Fine e → Fine (expr.Array e)
    by_ref : (e : TypeExpr) → Fine e → Fine (expr.ByRef e)
    var : (n : ℕ) → FitsNumber n → Fine (expr.Var n)
    mvar : (n : ℕ) → FitsNumber n → Fine (expr.MVar n)
    modified : (required : Bool) (by : TypeId) (e : TypeExpr) → Fine e → Fine (expr.Mod required by e)

  pub data AreFine : List TypeExpr → Type 0 where
    none : AreFine []
    more : (e : TypeExpr) (es : List TypeExpr) → Fine e → AreFine es → AreFine (e ∷ es)

-- ---- arguments put in

arg_fine : (targs : List TypeExpr) (n : ℕ) (other : TypeExpr) → AreFine targs → Fine other → Fine (arg_or targs n other)
arg_fine _ zero other none h = h
arg_fine _ (suc n) other none h = h
arg_fine _ zero other (more e es f fs) h = f
arg_fine _ (suc n) other (more e es f fs) h = arg_fine es n other fs h

module _ (targs : List TypeExpr) (fine : AreFine targs) where
  abbrev put : TypeExpr → TypeExpr
  put = exprs.subst targs []

  mutual
    pub put_fine : (e : TypeExpr) → Fine e → Fine (put e)
    put_fine _ (prim n p) = subst Fine (sym (subst_prim targs [] n)) (prim n p)
    put_fine _ (def t) = subst Fine (sym (subst_def targs [] t)) (def t)
    put_fine _ (inst t args few h) = subst Fine (sym (subst_inst targs [] t args)) (inst t (map put args) (subst FitsNumber (sym (length-map args put)) few) (all_put_fine args h))
    put_fine _ (array e h) = subst Fine (sym (subst_array targs [] e)) (array (put e) (put_fine e h))
    put_fine _ (by_ref e h) = subst Fine (sym (subst_by_ref targs [] e)) (by_ref (put e) (put_fine e h))
    put_fine _ (var n h) = subst Fine (sym (subst_var targs [] n)) (arg_fine targs n (expr.Var n) fine (var n h))
    put_fine _ (mvar n h) = subst Fine (sym (subst_mvar targs [] n)) (arg_fine [] n (expr.MVar n) none (mvar n h))
    put_fine _ (modified required by e h) = subst Fine (sym (subst_mod targs [] required by e)) (modified required by (put e) (put_fine e h))

    all_put_fine : (es : List TypeExpr) → AreFine es → AreFine (map put es)
    all_put_fine _ none = none
    all_put_fine _ (more e es h k) = more (put e) (map put es) (put_fine e h) (all_put_fine es k)

-- ---- by their outermost construct

out_is : (x : TypeExpr-F TypeExpr) (e : TypeExpr) → roll-TypeExpr x ≡ e → x ≡ out-TypeExpr e
out_is x e is = sym (ap out-TypeExpr (sym is) ∙ out-roll-TypeExpr x)

-- what holds of the outermost construct of each
pub by_out : (P : TypeExpr-F TypeExpr → Type 0) → ((n : ℕ) → P (TypeExpr-F.Prim n)) → ((t : TypeId) → P (TypeExpr-F.Def t)) → ((t : TypeId) (args : List TypeExpr) → FitsNumber (length args) → AreFine args → P (TypeExpr-F.Inst t args))
    → ((e : TypeExpr) → P (TypeExpr-F.Array e)) → ((e : TypeExpr) → P (TypeExpr-F.ByRef e)) → ((n : ℕ) → P (TypeExpr-F.Var n)) → ((n : ℕ) → P (TypeExpr-F.MVar n))
    → ((required : Bool) (by : TypeId) (e : TypeExpr) → P (TypeExpr-F.Mod required by e)) → (e : TypeExpr) → Fine e → P (out-TypeExpr e)
by_out P p d i a r v m c _ (prim n h) = subst P (out_is (TypeExpr-F.Prim n) (expr.Prim n) (expr.rolls-Prim n)) (p n)
by_out P p d i a r v m c _ (def t) = subst P (out_is (TypeExpr-F.Def t) (expr.Def t) (expr.rolls-Def t)) (d t)
by_out P p d i a r v m c _ (inst t args few h) = subst P (out_is (TypeExpr-F.Inst t args) (expr.Inst t args) (expr.rolls-Inst t args)) (i t args few h)
by_out P p d i a r v m c _ (array e h) = subst P (out_is (TypeExpr-F.Array e) (expr.Array e) (expr.rolls-Array e)) (a e)
by_out P p d i a r v m c _ (by_ref e h) = subst P (out_is (TypeExpr-F.ByRef e) (expr.ByRef e) (expr.rolls-ByRef e)) (r e)
by_out P p d i a r v m c _ (var n h) = subst P (out_is (TypeExpr-F.Var n) (expr.Var n) (expr.rolls-Var n)) (v n)
by_out P p d i a r v m c _ (mvar n h) = subst P (out_is (TypeExpr-F.MVar n) (expr.MVar n) (expr.rolls-MVar n)) (m n)
by_out P p d i a r v m c _ (modified required by e h) = subst P (out_is (TypeExpr-F.Mod required by e) (expr.Mod required by e) (expr.rolls-Mod required by e)) (c required by e)

pub args_fine : (e : TypeExpr) → Fine e → AreFine (args_of e)
unfolding args_of
args_fine = by_out (λ x. AreFine (args_in x)) (λ n. none) (λ t. none) (λ t args few h. h) (λ e. none) (λ e. none) (λ n. none) (λ n. none) (λ required by e. none)

-- a type's own parameters
vars_length : (first n : ℕ) → length (map (λ k. expr.Var k) (range_with_len first n)) ≡ n
vars_length first zero = refl
vars_length first (suc n) = ap suc (vars_length (first + 1) n)

vars_fine : (first n : ℕ) → first + n ≤ 536870912 → AreFine (map (λ k. expr.Var k) (range_with_len first n))
vars_fine first zero le = none
vars_fine first (suc n) le = more (expr.Var first) (map (λ k. expr.Var k) (range_with_len (first + 1) n)) (var first (omega arith)) (vars_fine (first + 1) n (omega arith))

pub own_fine : (t : TypeId) (n : ℕ) → FitsNumber n → Fine (expr.Inst t (map (λ k. expr.Var k) (range_with_len 0 n)))
own_fine t n few = inst t (map (λ k. expr.Var k) (range_with_len 0 n)) (subst FitsNumber (sym (vars_length 0 n)) few) (vars_fine 0 n (omega arith))

-- ---- signatures that are made of them

module _ (recs : List AsmRec) where
  abbrev made : TypeExpr → Sig
  made = made_sig recs

  made_is : (x : TypeExpr-F TypeExpr) (e : TypeExpr) → roll-TypeExpr x ≡ e → made e ≡ made_layer recs (map-TypeExpr TypeExpr Sig made x)
  unfolding made_sig
  made_is x e is = ap made (sym is) ∙ fold-roll-TypeExpr Sig (made_layer recs) x

  no_room : (n m : ℕ) → n ≡ suc m → n ≤ 0 → ⊥
  no_room n m e le = omega (arith, e, le)

  less_room : (n m room : ℕ) → n ≡ suc m → n ≤ suc room → m ≤ room
  less_room n m room e le = omega (arith, e, le)

  first_low : (n m room : ℕ) → max n m ≤ room → n ≤ room
  first_low n m room le = omega (arith, le)

  rest_low : (n m room : ℕ) → max n m ≤ room → m ≤ room
  rest_low n m room le = omega (arith, le)

  mutual
    pub made_shape : (room : ℕ) (e : TypeExpr) → Fine e → exprs.levels e ≤ room → Shape room (made e)
    made_shape room _ (prim n p) le = subst (Shape room) (sym (made_is (TypeExpr-F.Prim n) (expr.Prim n) (expr.rolls-Prim n))) (shape.primitive room n p)
    made_shape room _ (def t) le = subst (Shape room) (sym (made_is (TypeExpr-F.Def t) (expr.Def t) (expr.rolls-Def t))) (shape.named room (is_value recs t) (suc t.0))
    made_shape room _ (var n p) le = subst (Shape room) (sym (made_is (TypeExpr-F.Var n) (expr.Var n) (expr.rolls-Var n))) (shape.of_type room n p)
    made_shape room _ (mvar n p) le = subst (Shape room) (sym (made_is (TypeExpr-F.MVar n) (expr.MVar n) (expr.rolls-MVar n))) (shape.of_method room n p)
    made_shape zero _ (array e h) le = absurd (no_room (exprs.levels (expr.Array e)) (exprs.levels e) (levels_array e) le)
    made_shape (suc room) _ (array e h) le =
        subst (Shape (suc room)) (sym (made_is (TypeExpr-F.Array e) (expr.Array e) (expr.rolls-Array e)))
        (shape.vector room (made e) (made_shape room e h (less_room (exprs.levels (expr.Array e)) (exprs.levels e) room (levels_array e) le)))
    made_shape zero _ (by_ref e h) le = absurd (no_room (exprs.levels (expr.ByRef e)) (exprs.levels e) (levels_by_ref e) le)
    made_shape (suc room) _ (by_ref e h) le =
        subst (Shape (suc room)) (sym (made_is (TypeExpr-F.ByRef e) (expr.ByRef e) (expr.rolls-ByRef e)))
        (shape.reference room (made e) (made_shape room e h (less_room (exprs.levels (expr.ByRef e)) (exprs.levels e) room (levels_by_ref e) le)))
    made_shape zero _ (modified required by e h) le = absurd (no_room (exprs.levels (expr.Mod required by e)) (exprs.levels e) (levels_mod required by e) le)
    made_shape (suc room) _ (modified required by e h) le =
        subst (Shape (suc room)) (sym (made_is (TypeExpr-F.Mod required by e) (expr.Mod required by e) (expr.rolls-Mod required by e)))
        (shape.modified room required (suc by.0) (made e) (made_shape room e h (less_room (exprs.levels (expr.Mod required by e)) (exprs.levels e) room (levels_mod required by e) le)))
    made_shape zero _ (inst t args few h) le = absurd (no_room (exprs.levels (expr.Inst t args)) (deepest (map exprs.levels args)) (levels_inst t args) le)
    made_shape (suc room) _ (inst t args few h) le =
        subst (Shape (suc room)) (sym (made_is (TypeExpr-F.Inst t args) (expr.Inst t args) (expr.rolls-Inst t args)))
        (shape.instance room (is_value recs t) (suc t.0) (map made args) (subst FitsNumber (sym (length-map args made)) few)
        (all_made room args h (less_room (exprs.levels (expr.Inst t args)) (deepest (map exprs.levels args)) room (levels_inst t args) le)))

    all_made : (room : ℕ) (es : List TypeExpr) → AreFine es → deepest (map exprs.levels es) ≤ room → Shapes room (map made es)
    all_made room _ none le = shape.none room
    all_made room _ (more e es h k) le =
        shape.more room (made e) (map made es) (made_shape room e h (first_low (exprs.levels e) (deepest (map exprs.levels es)) room le)) (all_made room es k (rest_low (exprs.levels e) (deepest (map exprs.levels es)) room le))

-- ---- types that signatures name

pub known_good : {A B : Type 0} (f : A → Known B) (x : Known A) (y : B) → known_then f x ≡ Good y → (a : A) × (x ≡ Good a) × (f a ≡ Good y)
known_good f (Good a) y e = (a, refl, e)
known_good f (Bad why) y e = absurd (cc)

pub mapped_good : {A B : Type 0} (f : A → B) (x : Known A) (y : B) → known_map f x ≡ Good y → (a : A) × (x ≡ Good a) × (f a ≡ y)
mapped_good f (Good a) y e = (a, refl, cc)
mapped_good f (Bad why) y e = absurd (cc)

pub record AllFine (n : ℕ) (es : List TypeExpr) : Type 0 where
  pub count : length es ≡ n
  pub each : AreFine es

module _ (n : worlds.Names) (names : (token : ℕ) (e : TypeExpr) → named_in n.types token ≡ Good e → Fine e) where
  expr_is : (x : Sig-F Sig) (s : Sig) → roll-Sig x ≡ s → sig_expr n s ≡ sig_layer n (map-Sig Sig (Known TypeExpr) (sig_expr n) x)
  unfolding sig_expr
  expr_is x s e = ap (sig_expr n) (sym e) ∙ fold-roll-Sig (Known TypeExpr) (sig_layer n) x

  mutual
    pub sig_fine : (room : ℕ) (s : Sig) → Shape room s → (e : TypeExpr) → sig_expr n s ≡ Good e → Fine e
    sig_fine _ _ (shape.primitive room b p) e h =
        let g : Good (expr.Prim b) ≡ Good e = sym (expr_is (Sig-F.Prim b) (sig.Prim b) (sig.rolls-Prim b)) ∙ h in
        let same : expr.Prim b ≡ e = cc in
        subst Fine same (prim b p)
    sig_fine _ _ (shape.named room value token) e h = names token e (sym (expr_is (Sig-F.Named value token) (sig.Named value token) (sig.rolls-Named value token)) ∙ h)
    sig_fine _ _ (shape.of_type room k p) e h =
        let g : Good (expr.Var k) ≡ Good e = sym (expr_is (Sig-F.Var k) (sig.Var k) (sig.rolls-Var k)) ∙ h in
        let same : expr.Var k ≡ e = cc in
        subst Fine same (var k p)
    sig_fine _ _ (shape.of_method room k p) e h =
        let g : Good (expr.MVar k) ≡ Good e = sym (expr_is (Sig-F.MVar k) (sig.MVar k) (sig.rolls-MVar k)) ∙ h in
        let same : expr.MVar k ≡ e = cc in
        subst Fine same (mvar k p)
    sig_fine _ _ (shape.vector room s p) e h =
        let m = mapped_good (λ (y : TypeExpr). expr.Array y) (sig_expr n s) e (sym (expr_is (Sig-F.Array s) (sig.Array s) (sig.rolls-Array s)) ∙ h) in
        subst Fine m.2 (array m.0 (sig_fine room s p m.0 m.1))
    sig_fine _ _ (shape.reference room s p) e h =
        let m = mapped_good (λ (y : TypeExpr). expr.ByRef y) (sig_expr n s) e (sym (expr_is (Sig-F.ByRef s) (sig.ByRef s) (sig.rolls-ByRef s)) ∙ h) in
        subst Fine m.2 (by_ref m.0 (sig_fine room s p m.0 m.1))
    sig_fine _ _ (shape.pinned room s p) e h = sig_fine room s p e (sym (expr_is (Sig-F.Pinned s) (sig.Pinned s) (sig.rolls-Pinned s)) ∙ h)
    sig_fine _ _ (shape.modified room required token s p) e h =
        let d = known_good (λ (d : TypeId). known_map (λ y. expr.Mod required d y) (sig_expr n s)) (modifier_named n token) e (sym (expr_is (Sig-F.Mod required token s) (sig.Mod required token s) (sig.rolls-Mod required token s)) ∙ h) in
        let m = mapped_good (λ y. expr.Mod required d.0 y) (sig_expr n s) e d.2 in
        subst Fine m.2 (modified required d.0 m.0 (sig_fine room s p m.0 m.1))
    sig_fine _ _ (shape.instance room value token ss few p) e h =
        let d = known_good (λ (d : TypeId). known_map (λ ys. expr.Inst d ys) (all_known (map (sig_expr n) ss))) (definition_named n token) e (sym (expr_is (Sig-F.Inst value token ss) (sig.Inst value token ss) (sig.rolls-Inst value token ss)) ∙ h) in
        let m = mapped_good (λ ys. expr.Inst d.0 ys) (all_known (map (sig_expr n) ss)) e d.2 in
        let all = sigs_fine room ss p m.0 m.1 in
        subst Fine m.2 (inst d.0 m.0 (subst FitsNumber (sym all.count) few) all.each)

    sigs_fine : (room : ℕ) (ss : List Sig) → Shapes room ss → (es : List TypeExpr) → all_known (map (sig_expr n) ss) ≡ Good es → AllFine (length ss) es
    sigs_fine _ _ (shape.none room) es h = let same : [] ≡ es = cc in subst (AllFine 0) same (record { count = refl; each = none })
    sigs_fine _ _ (shape.more room s ss p q) es h =
        let k = known_good (λ (y : TypeExpr). known_map (λ ys. y ∷ ys) (all_known (map (sig_expr n) ss))) (sig_expr n s) es h in
        let m = mapped_good (λ ys. k.0 ∷ ys) (all_known (map (sig_expr n) ss)) es k.2 in
        let all = sigs_fine room ss q m.0 m.1 in
        subst (AllFine (suc (length ss))) m.2 (record { count = ap suc all.count; each = more k.0 m.0 (sig_fine room s p k.0 k.1) all.each })

-- ---- definitions

are_primitive : list_all (λ p. is_primitive p.0) prims ≡ true
unfolding prims
are_primitive = refl

found_by : (test : ℕ × List ℕ → Bool) (ys : List (ℕ × List ℕ)) (y x : ℕ × List ℕ) (b : Bool) → is_primitive y.0 ≡ true → (find test ys ≡ Some x → is_primitive x.0 ≡ true) → (if b then Some y else find test ys) ≡ Some x → is_primitive x.0 ≡ true
found_by test ys y x true p later f = let same : y ≡ x = cc in subst (λ (q : ℕ × List ℕ). is_primitive q.0 ≡ true) same p
found_by test ys y x false p later f = later f

found_passes : (test : ℕ × List ℕ → Bool) (xs : List (ℕ × List ℕ)) (x : ℕ × List ℕ) → list_all (λ p. is_primitive p.0) xs ≡ true → find test xs ≡ Some x → is_primitive x.0 ≡ true
found_passes test [] x h e = absurd cc
found_passes test (y ∷ ys) x h e =
    let parts = and_parts (is_primitive y.0) (list_all (λ (p : ℕ × List ℕ). is_primitive p.0) ys) h in
    found_by test ys y x (test y) parts.0 (found_passes test ys x parts.1) e

prim_by : (row : TypeDefRow) (n : ℕ) (b : Bool) → (if b then option_map (λ p. p.0) (find (is_prim_name row.name) prims) else None) ≡ Some n → is_primitive n ≡ true
prim_by row n true e = by_found (find (is_prim_name row.name) prims) refl e
  where
    by_found : (o : Option (ℕ × List ℕ)) → find (is_prim_name row.name) prims ≡ o → option_map (λ p. p.0) o ≡ Some n → is_primitive n ≡ true
    by_found None f g = absurd cc
    by_found (Some x) f g = let same : x.0 ≡ n = cc in subst (λ (k : ℕ). is_primitive k ≡ true) same (found_passes (is_prim_name row.name) prims x are_primitive f)
prim_by row n false e = absurd cc

prim_fits : (row : TypeDefRow) (n : ℕ) → prim_of row ≡ Some n → is_primitive n ≡ true
unfolding prim_of
prim_fits row n e = prim_by row n (same_name row.namespace (common.codes "System")) e

module _ (recs : List AsmRec) where
  row_prim : (o : Option TypeDefRow) (n : ℕ) → option_and_then prim_of o ≡ Some n → is_primitive n ≡ true
  row_prim None n e = absurd cc
  row_prim (Some row) n e = prim_fits row n e

  at_prim : (at : RowAt) (n : ℕ) (b : Bool) → (if b then option_and_then prim_of (slice_get (core_types recs) at.row) else None) ≡ Some n → is_primitive n ≡ true
  at_prim at n true e = row_prim (slice_get (core_types recs) at.row) n e
  at_prim at n false e = absurd cc

  definition_by : (at : RowAt) (o : Option ℕ) → prim_at recs at ≡ o → Fine (elim o [ Some n ↦ expr.Prim n | None ↦ expr.Def (type_id recs at.asm at.row) ])
  definition_by at None e = def (type_id recs at.asm at.row)
  definition_by at (Some n) e = prim n (at_prim at n (suc at.asm == length recs) e)

  pub definition_fine : (at : RowAt) → Fine (definition_expr recs at)
  unfolding definition_expr
  definition_fine at = definition_by at (prim_at recs at) refl

  module _ (a : ℕ) (rec : AsmRec) where
    known_fine : (o : Option RowAt) (e : TypeExpr) → known_expr recs o ≡ Good e → Fine e
    known_fine None e h = absurd cc
    known_fine (Some at) e h = let same : definition_expr recs at ≡ e = cc in subst Fine same (definition_fine at)

    pub named_fine : (token : ℕ) (e : TypeExpr) → named_type recs a rec token ≡ Good e → Fine e
    unfolding named_type
    named_fine token e h = known_fine (definition_at recs a rec token) e h

    named_by : (token : ℕ) (e : TypeExpr) (b : Bool) → (if b then Bad Unresolved else known_or (Some (named_type recs a rec token))) ≡ Good e → Fine e
    named_by token e true h = absurd cc
    named_by token e false h = named_fine token e h

    pub in_fine : (token : ℕ) (e : TypeExpr) → named_in (names_at recs a rec).types token ≡ Good e → Fine e
    unfolding named_in
    in_fine token e h = named_by token e (table_of token == table.TYPE_SPEC) h
