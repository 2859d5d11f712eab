-- Arguments put in: the move of what comes out, and that it is kept.
use Rattle.std.proofs.Common.{◌≡◌, ℕ, zero, suc, Bool, true, false, ◌&&◌, List, [], ◌∷◌, map, refl, sym, ap, ◌∙◌}
use Rattle.std.proofs.Common as common
use Rattle.std.specs.Prelude.{IsTrue}
use Rattle.std.specs.List.{list_all}
use Rattle.std.specs.Cmp.{first_so, second_so}
use Rattle.std.proofs.lemmas.Bool.{and_from}
use Rattle.il_base.specs.declared.ids.TypeId.{TypeId}
use Rattle.il_base.specs.declared.world_model.expr.TypeExpr.{TypeExpr, fold-roll-TypeExpr, ind-TypeExpr, roll-TypeExpr}
use Rattle.il_base.specs.declared.world_model.expr.TypeExpr.TheFolds.{map-TypeExpr}
use Rattle.il_base.specs.declared.world_model.expr.TypeExpr.TheOpen.{TypeExpr-F}
use Rattle.il_base.specs.declared.world_model.expr.TypeExpr.TheVariants as expr
use Rattle.il_base.specs.world_model.Exprs.{arg_or, subst}
use Rattle.il_base.proofs.lemmas.world_model.ExprLayers.{subst_prim, subst_def, subst_inst, subst_array, subst_by_ref, subst_var, subst_mvar, subst_mod}
use Rattle.rules.specs.change_rules.Change.{Rho, Keep}
use Rattle.rules.specs.change_rules.Moves.{move_type, move_expr, move_exprs}
use Rattle.rules.specs.change_rules.Keeps.{Names, both, names_layer, names_of, shows_expr}
use Rattle.base_laws.proofs.lemmas.change_laws.Exprs.{With, plain_parts, move_prim, move_def, move_inst, move_array, move_by_ref, move_var, move_mvar, move_mod}

-- ---- the move

pub arg_moved : (r : Rho) (args : List TypeExpr) (n : ℕ) (other : TypeExpr) → move_expr r (arg_or args n other) ≡ arg_or (move_exprs r args) n (move_expr r other)
arg_moved r [] zero other = refl
arg_moved r [] (suc n) other = refl
arg_moved r (x ∷ xs) zero other = refl
arg_moved r (x ∷ xs) (suc n) other = arg_moved r xs n other

module _ (r : Rho) (targs margs : List TypeExpr) where
  abbrev In : TypeExpr → TypeExpr
  In = subst targs margs

  abbrev Out : TypeExpr → TypeExpr
  Out = subst (move_exprs r targs) (move_exprs r margs)

  abbrev Moves : TypeExpr → Type 0
  Moves e = move_expr r (In e) ≡ Out (move_expr r e)

  args_move : (xs : List (With Moves)) → move_exprs r (map In (map (λ e. e.0) xs)) ≡ map Out (move_exprs r (map (λ e. e.0) xs))
  args_move [] = refl
  args_move (x ∷ xs) = λ i. x.1 i ∷ args_move xs i

  moves_prim : (n : ℕ) → Moves (expr.Prim n)
  moves_prim n = ap (move_expr r) (subst_prim targs margs n) ∙ move_prim r n ∙ sym (ap Out (move_prim r n) ∙ subst_prim _ _ n)

  moves_def : (t : TypeId) → Moves (expr.Def t)
  moves_def t = ap (move_expr r) (subst_def targs margs t) ∙ move_def r t ∙ sym (ap Out (move_def r t) ∙ subst_def _ _ (move_type r t))

  moves_inst : (t : TypeId) (xs : List (With Moves)) → Moves (expr.Inst t (map (λ e. e.0) xs))
  moves_inst t xs =
      let args : List TypeExpr = map (λ e. e.0) xs in
      ap (move_expr r) (subst_inst targs margs t args) ∙ move_inst r t (map In args) ∙ ap (expr.Inst (move_type r t)) (args_move xs)
      ∙ sym (ap Out (move_inst r t args) ∙ subst_inst _ _ (move_type r t) (move_exprs r args))

  moves_array : (x : With Moves) → Moves (expr.Array x.0)
  moves_array x = ap (move_expr r) (subst_array targs margs x.0) ∙ move_array r (In x.0) ∙ ap expr.Array x.1 ∙ sym (ap Out (move_array r x.0) ∙ subst_array _ _ (move_expr r x.0))

  moves_by_ref : (x : With Moves) → Moves (expr.ByRef x.0)
  moves_by_ref x = ap (move_expr r) (subst_by_ref targs margs x.0) ∙ move_by_ref r (In x.0) ∙ ap expr.ByRef x.1 ∙ sym (ap Out (move_by_ref r x.0) ∙ subst_by_ref _ _ (move_expr r x.0))

  moves_var : (n : ℕ) → Moves (expr.Var n)
  moves_var n =
      ap (move_expr r) (subst_var targs margs n) ∙ arg_moved r targs n (expr.Var n) ∙ ap (arg_or (move_exprs r targs) n) (move_var r n)
      ∙ sym (ap Out (move_var r n) ∙ subst_var _ _ n)

  moves_mvar : (n : ℕ) → Moves (expr.MVar n)
  moves_mvar n =
      ap (move_expr r) (subst_mvar targs margs n) ∙ arg_moved r margs n (expr.MVar n) ∙ ap (arg_or (move_exprs r margs) n) (move_mvar r n)
      ∙ sym (ap Out (move_mvar r n) ∙ subst_mvar _ _ n)

  moves_mod : (required : Bool) (by : TypeId) (x : With Moves) → Moves (expr.Mod required by x.0)
  moves_mod required by x =
      ap (move_expr r) (subst_mod targs margs required by x.0) ∙ move_mod r required by (In x.0) ∙ ap (expr.Mod required (move_type r by)) x.1
      ∙ sym (ap Out (move_mod r required by x.0) ∙ subst_mod _ _ required (move_type r by) (move_expr r x.0))

  moves_rolled : (y : TypeExpr-F (With Moves)) → Moves (roll-TypeExpr (plain_parts Moves y))
  moves_rolled (TypeExpr-F.Prim n) = common.subst Moves (sym (expr.rolls-Prim n)) (moves_prim n)
  moves_rolled (TypeExpr-F.Def t) = common.subst Moves (sym (expr.rolls-Def t)) (moves_def t)
  moves_rolled (TypeExpr-F.Inst t xs) = common.subst Moves (sym (expr.rolls-Inst t (map (λ e. e.0) xs))) (moves_inst t xs)
  moves_rolled (TypeExpr-F.Array x) = common.subst Moves (sym (expr.rolls-Array x.0)) (moves_array x)
  moves_rolled (TypeExpr-F.ByRef x) = common.subst Moves (sym (expr.rolls-ByRef x.0)) (moves_by_ref x)
  moves_rolled (TypeExpr-F.Var n) = common.subst Moves (sym (expr.rolls-Var n)) (moves_var n)
  moves_rolled (TypeExpr-F.MVar n) = common.subst Moves (sym (expr.rolls-MVar n)) (moves_mvar n)
  moves_rolled (TypeExpr-F.Mod required by x) = common.subst Moves (sym (expr.rolls-Mod required by x.0)) (moves_mod required by x)

  pub subst_moves : (e : TypeExpr) → move_expr r (subst targs margs e) ≡ subst (move_exprs r targs) (move_exprs r margs) (move_expr r e)
  subst_moves = ind-TypeExpr Moves (λ x y is. common.subst (λ z. Moves (roll-TypeExpr z)) is (moves_rolled y))

-- ---- what is kept

pub names_rolled : (k : Keep) (x : TypeExpr-F TypeExpr) → names_of k (roll-TypeExpr x) ≡ names_layer k (map-TypeExpr TypeExpr Names (names_of k) x)
unfolding names_of
names_rolled k x = fold-roll-TypeExpr Names (names_layer k) x

pub names_prim : (k : Keep) (n : ℕ) → names_of k (expr.Prim n) ≡ record { kept = true; shown = true }
names_prim k n = ap (names_of k) (sym (expr.rolls-Prim n)) ∙ names_rolled k (TypeExpr-F.Prim n)

pub names_def : (k : Keep) (t : TypeId) → names_of k (expr.Def t) ≡ record { kept = k.typ t.0; shown = k.shown t.0 }
names_def k t = ap (names_of k) (sym (expr.rolls-Def t)) ∙ names_rolled k (TypeExpr-F.Def t)

abbrev pub names_inst_of : Keep → TypeId → List Names → Names
names_inst_of k t args = record { kept = k.typ t.0 && list_all both args; shown = k.shown t.0 && list_all both args }

pub names_inst : (k : Keep) (t : TypeId) (args : List TypeExpr) → names_of k (expr.Inst t args) ≡ names_inst_of k t (map (names_of k) args)
names_inst k t args = ap (names_of k) (sym (expr.rolls-Inst t args)) ∙ names_rolled k (TypeExpr-F.Inst t args)

pub names_array : (k : Keep) (e : TypeExpr) → names_of k (expr.Array e) ≡ names_of k e
names_array k e = ap (names_of k) (sym (expr.rolls-Array e)) ∙ names_rolled k (TypeExpr-F.Array e)

pub names_by_ref : (k : Keep) (e : TypeExpr) → names_of k (expr.ByRef e) ≡ names_of k e
names_by_ref k e = ap (names_of k) (sym (expr.rolls-ByRef e)) ∙ names_rolled k (TypeExpr-F.ByRef e)

abbrev pub names_mod_of : Keep → TypeId → Names → Names
names_mod_of k by x = record { kept = k.typ by.0 && x.kept; shown = k.shown by.0 && x.shown }

pub names_mod : (k : Keep) (required : Bool) (by : TypeId) (e : TypeExpr) → names_of k (expr.Mod required by e) ≡ names_mod_of k by (names_of k e)
names_mod k required by e = ap (names_of k) (sym (expr.rolls-Mod required by e)) ∙ names_rolled k (TypeExpr-F.Mod required by e)

-- what is kept stays kept, what is shown too stays shown
pub record Stays (a b : Names) : Type 0 where
  pub kept : IsTrue a.kept → IsTrue b.kept
  pub shown : IsTrue (both a) → IsTrue (both b)

pub same_stays : (a b : Names) → a ≡ b → Stays a b
same_stays a b e = common.subst (Stays a) e (record { kept = λ h. h; shown = λ h. h })

pub arg_stays : (k : Keep) (args : List TypeExpr) (n : ℕ) (other : TypeExpr) → IsTrue (list_all (shows_expr k) args) → IsTrue (shows_expr k other) → IsTrue (shows_expr k (arg_or args n other))
arg_stays k [] zero other a h = h
arg_stays k [] (suc n) other a h = h
arg_stays k (x ∷ xs) zero other a h = first_so (shows_expr k x) (list_all (shows_expr k) xs) a
arg_stays k (x ∷ xs) (suc n) other a h = arg_stays k xs n other (second_so (shows_expr k x) (list_all (shows_expr k) xs) a) h

module _ (k : Keep) (targs margs : List TypeExpr) (ts : IsTrue (list_all (shows_expr k) targs)) (ms : IsTrue (list_all (shows_expr k) margs)) where
  abbrev Keeps : TypeExpr → Type 0
  Keeps e = Stays (names_of k e) (names_of k (subst targs margs e))

  both_stays : (a b c d : Bool) → (IsTrue a → IsTrue c) → (IsTrue (a && b) → IsTrue (c && d)) → (p q : Bool) → IsTrue ((p && a) && (q && b)) → IsTrue ((p && c) && (q && d))
  both_stays a b c d f g p q h =
      let pa : IsTrue (p && a) = first_so (p && a) (q && b) h in
      let qb : IsTrue (q && b) = second_so (p && a) (q && b) h in
      let cd : IsTrue (c && d) = g (and_from a b (second_so p a pa) (second_so q b qb)) in
      and_from (p && c) (q && d) (and_from p c (first_so p a pa) (first_so c d cd)) (and_from q d (first_so q b qb) (second_so c d cd))

  args_stay : (xs : List (With Keeps)) → IsTrue (list_all both (map (names_of k) (map (λ e. e.0) xs))) → IsTrue (list_all both (map (names_of k) (map (subst targs margs) (map (λ e. e.0) xs))))
  args_stay [] h = refl
  args_stay (x ∷ xs) h =
      let b : Bool = both (names_of k x.0) in
      let r : Bool = list_all both (map (names_of k) (map (λ e. e.0) xs)) in
      and_from _ _ (x.1.shown (first_so b r h)) (args_stay xs (second_so b r h))

  at_shown : (e f : TypeExpr) → subst targs margs e ≡ f → IsTrue (shows_expr k f) → Keeps e
  at_shown e f is h =
      let g : IsTrue (shows_expr k (subst targs margs e)) = ap (shows_expr k) is ∙ h in
      record { kept = λ a. first_so _ _ g; shown = λ a. g }

  keeps_inst : (t : TypeId) (xs : List (With Keeps)) → Stays (names_inst_of k t (map (names_of k) (map (λ e. e.0) xs))) (names_inst_of k t (map (names_of k) (map (subst targs margs) (map (λ e. e.0) xs))))
  keeps_inst t xs =
      let a : Bool = list_all both (map (names_of k) (map (λ e. e.0) xs)) in
      let b : Bool = list_all both (map (names_of k) (map (subst targs margs) (map (λ e. e.0) xs))) in
      record {
        kept = λ h. and_from (k.typ t.0) b (first_so (k.typ t.0) a h) (args_stay xs (second_so (k.typ t.0) a h));
        shown = λ h. both_stays a a b b (args_stay xs) (λ g. let f : IsTrue b = args_stay xs (first_so a a g) in and_from b b f f) (k.typ t.0) (k.shown t.0) h;
      }

  keeps_mod : (by : TypeId) (x : With Keeps) → Stays (names_mod_of k by (names_of k x.0)) (names_mod_of k by (names_of k (subst targs margs x.0)))
  keeps_mod by x =
      let a : Names = names_of k x.0 in
      let b : Names = names_of k (subst targs margs x.0) in
      record {
        kept = λ h. and_from (k.typ by.0) b.kept (first_so (k.typ by.0) a.kept h) (x.1.kept (second_so (k.typ by.0) a.kept h));
        shown = λ h. both_stays a.kept a.shown b.kept b.shown x.1.kept x.1.shown (k.typ by.0) (k.shown by.0) h;
      }

  -- from one equation to another
  between : (e f : TypeExpr) (a b : Names) → names_of k e ≡ a → subst targs margs e ≡ f → names_of k f ≡ b → Stays a b → Keeps e
  between e f a b ea is eb s =
      let sb : names_of k (subst targs margs e) ≡ b = ap (names_of k) is ∙ eb in
      record {
        kept = λ h. ap (λ (x : Names). x.kept) sb ∙ s.kept (sym (ap (λ (x : Names). x.kept) ea) ∙ h);
        shown = λ h. ap both sb ∙ s.shown (sym (ap both ea) ∙ h);
      }

  keeps_rolled : (y : TypeExpr-F (With Keeps)) → Keeps (roll-TypeExpr (plain_parts Keeps y))
  keeps_rolled (TypeExpr-F.Prim n) = common.subst Keeps (sym (expr.rolls-Prim n)) (same_stays _ _ (ap (names_of k) (sym (subst_prim targs margs n))))
  keeps_rolled (TypeExpr-F.Def t) = common.subst Keeps (sym (expr.rolls-Def t)) (same_stays _ _ (ap (names_of k) (sym (subst_def targs margs t))))
  keeps_rolled (TypeExpr-F.Inst t xs) =
      let args : List TypeExpr = map (λ e. e.0) xs in
      common.subst Keeps (sym (expr.rolls-Inst t args)) (between (expr.Inst t args) _ _ _ (names_inst k t args) (subst_inst targs margs t args) (names_inst k t (map (subst targs margs) args)) (keeps_inst t xs))
  keeps_rolled (TypeExpr-F.Array x) = common.subst Keeps (sym (expr.rolls-Array x.0)) (between (expr.Array x.0) _ _ _ (names_array k x.0) (subst_array targs margs x.0) (names_array k (subst targs margs x.0)) x.1)
  keeps_rolled (TypeExpr-F.ByRef x) = common.subst Keeps (sym (expr.rolls-ByRef x.0)) (between (expr.ByRef x.0) _ _ _ (names_by_ref k x.0) (subst_by_ref targs margs x.0) (names_by_ref k (subst targs margs x.0)) x.1)
  keeps_rolled (TypeExpr-F.Var n) =
      common.subst Keeps (sym (expr.rolls-Var n)) (at_shown (expr.Var n) _ (subst_var targs margs n) (arg_stays k targs n (expr.Var n) ts (ap both (ap (names_of k) (sym (expr.rolls-Var n)) ∙ names_rolled k (TypeExpr-F.Var n)))))
  keeps_rolled (TypeExpr-F.MVar n) =
      common.subst Keeps (sym (expr.rolls-MVar n)) (at_shown (expr.MVar n) _ (subst_mvar targs margs n) (arg_stays k margs n (expr.MVar n) ms (ap both (ap (names_of k) (sym (expr.rolls-MVar n)) ∙ names_rolled k (TypeExpr-F.MVar n)))))
  keeps_rolled (TypeExpr-F.Mod required by x) =
      common.subst Keeps (sym (expr.rolls-Mod required by x.0)) (between (expr.Mod required by x.0) _ _ _ (names_mod k required by x.0) (subst_mod targs margs required by x.0) (names_mod k required by (subst targs margs x.0)) (keeps_mod by x))

  pub subst_stays : (e : TypeExpr) → Stays (names_of k e) (names_of k (subst targs margs e))
  subst_stays = ind-TypeExpr Keeps (λ x y is. common.subst (λ z. Keeps (roll-TypeExpr z)) is (keeps_rolled y))
