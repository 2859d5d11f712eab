-- Closed types under new numbers: without modifiers, with arguments put in.
use Rattle.std.proofs.Common.{◌≡◌, Bool, true, false, ◌&&◌, List, [], ◌∷◌, length, map, Option, Some, None, refl, sym, ap, subst, ◌∙◌}
use Rattle.std.specs.Prelude.{IsTrue, if◌then◌else◌}
use Rattle.std.specs.List.{list_all}
use Rattle.std.specs.Option.{option_map, option_and_then}
use Rattle.std.specs.Cmp.{first_so, second_so}
use Rattle.il_base.specs.declared.ids.TypeId.{TypeId}
use Rattle.il_base.specs.declared.world_model.expr.TypeExpr.{TypeExpr, fold-TypeExpr, fold-roll-TypeExpr, ind-TypeExpr, out-TypeExpr, roll-TypeExpr}
use Rattle.il_base.specs.declared.world_model.expr.TypeExpr.TheFolds.{map-TypeExpr}
use Rattle.il_base.specs.declared.world_model.expr.TypeExpr.TheOpen.{TypeExpr-F}
use Rattle.il_base.specs.declared.world_model.expr.TypeExpr.TheVariants as expr
use Rattle.il_base.specs.world_model.Exprs as exprs
use Rattle.rules.specs.step_rules.Queries.{Queries}
use Rattle.rules.specs.step_rules.Closing.{plain_layer, plain, whole_of, whole_if, alone_if, takes, is_whole, is_sound, Standing, standing_layer, standing, is_void_in, is_void, if_so, closed_return, closed_slot, closed_cell_by, closed_cell, closed_arg}
use Rattle.rules.specs.change_rules.Change.{Rho, Keep, Change}
use Rattle.rules.specs.change_rules.Moves.{move_expr, move_exprs}
use Rattle.rules.specs.change_rules.Keeps.{Names, names_of, keeps_expr, shows_expr, itself, defined_layer, keeps_defined}
use Rattle.rules.specs.change_rules.Agree.{Agree}
use Rattle.base_laws.proofs.lemmas.change_laws.Exprs.{With, plain_parts, moved_in, move_rolled, out_moved}
use Rattle.base_laws.proofs.lemmas.change_laws.Subst.{Stays, same_stays, subst_moves, subst_stays, names_rolled, names_mod_of}
use Rattle.base_laws.proofs.lemmas.change_laws.Defined.{defined_rolled, kept_defined, subst_stays_defined}

-- ---- without modifiers

abbrev Pair : TypeExpr → TypeExpr × TypeExpr
Pair = fold-TypeExpr (TypeExpr × TypeExpr) plain_layer

abbrev IsFirst : TypeExpr → Type 0
IsFirst e = (Pair e).0 ≡ e

pair_rolled : (x : TypeExpr-F TypeExpr) → Pair (roll-TypeExpr x) ≡ plain_layer (map-TypeExpr TypeExpr (TypeExpr × TypeExpr) Pair x)
pair_rolled x = fold-roll-TypeExpr (TypeExpr × TypeExpr) plain_layer x

whole_args : (xs : List (With IsFirst)) → whole_of (map Pair (map (λ e. e.0) xs)) ≡ map (λ e. e.0) xs
whole_args [] = refl
whole_args (x ∷ xs) = λ i. x.1 i ∷ whole_args xs i

first_layer : (y : TypeExpr-F (With IsFirst)) → (plain_layer (map-TypeExpr TypeExpr (TypeExpr × TypeExpr) Pair (plain_parts IsFirst y))).0 ≡ roll-TypeExpr (plain_parts IsFirst y)
first_layer (TypeExpr-F.Prim n) = sym (expr.rolls-Prim n)
first_layer (TypeExpr-F.Def t) = sym (expr.rolls-Def t)
first_layer (TypeExpr-F.Inst t xs) = ap (expr.Inst t) (whole_args xs) ∙ sym (expr.rolls-Inst t (map (λ e. e.0) xs))
first_layer (TypeExpr-F.Array x) = ap expr.Array x.1 ∙ sym (expr.rolls-Array x.0)
first_layer (TypeExpr-F.ByRef x) = ap expr.ByRef x.1 ∙ sym (expr.rolls-ByRef x.0)
first_layer (TypeExpr-F.Var n) = sym (expr.rolls-Var n)
first_layer (TypeExpr-F.MVar n) = sym (expr.rolls-MVar n)
first_layer (TypeExpr-F.Mod required by x) = ap (expr.Mod required by) x.1 ∙ sym (expr.rolls-Mod required by x.0)

first_rolled : (y : TypeExpr-F (With IsFirst)) → IsFirst (roll-TypeExpr (plain_parts IsFirst y))
first_rolled y = ap (λ (p : TypeExpr × TypeExpr). p.0) (pair_rolled (plain_parts IsFirst y)) ∙ first_layer y

pair_first : (e : TypeExpr) → (Pair e).0 ≡ e
pair_first = ind-TypeExpr IsFirst (λ x y is. subst (λ z. IsFirst (roll-TypeExpr z)) is (first_rolled y))

firsts : (es : List TypeExpr) → whole_of (map Pair es) ≡ es
firsts [] = refl
firsts (e ∷ es) = λ i. pair_first e i ∷ firsts es i

-- by layers
abbrev pub plain_in : TypeExpr-F TypeExpr → TypeExpr
plain_in (TypeExpr-F.Mod required by x) = plain x
plain_in x = roll-TypeExpr x

second_layer : (x : TypeExpr-F TypeExpr) → (plain_layer (map-TypeExpr TypeExpr (TypeExpr × TypeExpr) Pair x)).1 ≡ plain_in x
unfolding plain
second_layer (TypeExpr-F.Prim n) = sym (expr.rolls-Prim n)
second_layer (TypeExpr-F.Def t) = sym (expr.rolls-Def t)
second_layer (TypeExpr-F.Inst t args) = ap (expr.Inst t) (firsts args) ∙ sym (expr.rolls-Inst t args)
second_layer (TypeExpr-F.Array x) = ap expr.Array (pair_first x) ∙ sym (expr.rolls-Array x)
second_layer (TypeExpr-F.ByRef x) = ap expr.ByRef (pair_first x) ∙ sym (expr.rolls-ByRef x)
second_layer (TypeExpr-F.Var n) = sym (expr.rolls-Var n)
second_layer (TypeExpr-F.MVar n) = sym (expr.rolls-MVar n)
second_layer (TypeExpr-F.Mod required by x) = refl

pub plain_rolled : (x : TypeExpr-F TypeExpr) → plain (roll-TypeExpr x) ≡ plain_in x
unfolding plain
plain_rolled x = ap (λ (p : TypeExpr × TypeExpr). p.1) (pair_rolled x) ∙ second_layer x

module _ (r : Rho) where
  abbrev PlainMoves : TypeExpr → Type 0
  PlainMoves e = plain (move_expr r e) ≡ move_expr r (plain e)

  plain_layer_moves : (y : TypeExpr-F (With PlainMoves)) → plain_in (moved_in r (plain_parts PlainMoves y)) ≡ move_expr r (plain_in (plain_parts PlainMoves y))
  plain_layer_moves (TypeExpr-F.Prim n) = sym (move_rolled r (TypeExpr-F.Prim n))
  plain_layer_moves (TypeExpr-F.Def t) = sym (move_rolled r (TypeExpr-F.Def t))
  plain_layer_moves (TypeExpr-F.Inst t xs) = sym (move_rolled r (TypeExpr-F.Inst t (map (λ e. e.0) xs)))
  plain_layer_moves (TypeExpr-F.Array x) = sym (move_rolled r (TypeExpr-F.Array x.0))
  plain_layer_moves (TypeExpr-F.ByRef x) = sym (move_rolled r (TypeExpr-F.ByRef x.0))
  plain_layer_moves (TypeExpr-F.Var n) = sym (move_rolled r (TypeExpr-F.Var n))
  plain_layer_moves (TypeExpr-F.MVar n) = sym (move_rolled r (TypeExpr-F.MVar n))
  plain_layer_moves (TypeExpr-F.Mod required by x) = x.1

  plain_rolled_moves : (y : TypeExpr-F (With PlainMoves)) → PlainMoves (roll-TypeExpr (plain_parts PlainMoves y))
  plain_rolled_moves y =
      let x : TypeExpr-F TypeExpr = plain_parts PlainMoves y in
      ap plain (move_rolled r x) ∙ plain_rolled (moved_in r x) ∙ plain_layer_moves y ∙ ap (move_expr r) (sym (plain_rolled x))

  pub plain_moved : (e : TypeExpr) → plain (move_expr r e) ≡ move_expr r (plain e)
  plain_moved = ind-TypeExpr PlainMoves (λ x y is. subst (λ z. PlainMoves (roll-TypeExpr z)) is (plain_rolled_moves y))

  void_in : (x : TypeExpr-F TypeExpr) → is_void_in (moved_in r x) ≡ is_void_in x
  void_in (TypeExpr-F.Prim n) = refl
  void_in (TypeExpr-F.Def t) = refl
  void_in (TypeExpr-F.Inst t args) = refl
  void_in (TypeExpr-F.Array x) = refl
  void_in (TypeExpr-F.ByRef x) = refl
  void_in (TypeExpr-F.Var n) = refl
  void_in (TypeExpr-F.MVar n) = refl
  void_in (TypeExpr-F.Mod required by x) = refl

  pub is_void_moved : (e : TypeExpr) → is_void (move_expr r e) ≡ is_void e
  unfolding is_void
  is_void_moved e = ap (λ (x : TypeExpr). is_void_in (out-TypeExpr x)) (plain_moved e) ∙ ap is_void_in (out_moved r (plain e)) ∙ void_in (out-TypeExpr (plain e))

-- what is kept stays so without modifiers
module _ (k : Keep) where
  abbrev PlainStays : TypeExpr → Type 0
  PlainStays e = Stays (names_of k e) (names_of k (plain e))

  mod_stays : (by : TypeId) (a b : Names) → Stays a b → Stays (names_mod_of k by a) b
  mod_stays by a b s =
      record {
        kept = λ h. s.kept (second_so (k.typ by.0) a.kept h);
        shown = λ h. s.shown (both_of a.kept a.shown (second_so (k.typ by.0) a.kept (first_so _ _ h)) (second_so (k.shown by.0) a.shown (second_so (k.typ by.0 && a.kept) _ h)));
      }
    where
      both_of : (p q : Bool) → IsTrue p → IsTrue q → IsTrue (p && q)
      both_of true q h g = g
      both_of false q h g = h

  plain_layer_stays : (y : TypeExpr-F (With PlainStays)) → Stays (names_of k (roll-TypeExpr (plain_parts PlainStays y))) (names_of k (plain_in (plain_parts PlainStays y)))
  plain_layer_stays (TypeExpr-F.Mod required by x) =
      subst (λ (a : Names). Stays a (names_of k (plain x.0))) (sym (names_rolled k (TypeExpr-F.Mod required by x.0))) (mod_stays by (names_of k x.0) (names_of k (plain x.0)) x.1)
  plain_layer_stays (TypeExpr-F.Prim n) = same_stays _ _ refl
  plain_layer_stays (TypeExpr-F.Def t) = same_stays _ _ refl
  plain_layer_stays (TypeExpr-F.Inst t xs) = same_stays _ _ refl
  plain_layer_stays (TypeExpr-F.Array x) = same_stays _ _ refl
  plain_layer_stays (TypeExpr-F.ByRef x) = same_stays _ _ refl
  plain_layer_stays (TypeExpr-F.Var n) = same_stays _ _ refl
  plain_layer_stays (TypeExpr-F.MVar n) = same_stays _ _ refl

  plain_rolled_stays : (y : TypeExpr-F (With PlainStays)) → PlainStays (roll-TypeExpr (plain_parts PlainStays y))
  plain_rolled_stays y =
      let x : TypeExpr-F TypeExpr = plain_parts PlainStays y in
      subst (λ (z : TypeExpr). Stays (names_of k (roll-TypeExpr x)) (names_of k z)) (sym (plain_rolled x)) (plain_layer_stays y)

  pub plain_stays : (e : TypeExpr) → Stays (names_of k e) (names_of k (plain e))
  plain_stays = ind-TypeExpr PlainStays (λ x y is. subst (λ z. PlainStays (roll-TypeExpr z)) is (plain_rolled_stays y))

  abbrev PlainDefined : TypeExpr → Type 0
  PlainDefined e = IsTrue (keeps_defined k e) → IsTrue (keeps_defined k (plain e))

  plain_layer_defined : (y : TypeExpr-F (With PlainDefined)) → IsTrue (keeps_defined k (roll-TypeExpr (plain_parts PlainDefined y))) → IsTrue (keeps_defined k (plain_in (plain_parts PlainDefined y)))
  plain_layer_defined (TypeExpr-F.Mod required by x) h = x.1 (second_so (k.typ by.0) (keeps_defined k x.0) (sym (defined_rolled k (TypeExpr-F.Mod required by x.0)) ∙ h))
  plain_layer_defined (TypeExpr-F.Prim n) h = h
  plain_layer_defined (TypeExpr-F.Def t) h = h
  plain_layer_defined (TypeExpr-F.Inst t xs) h = h
  plain_layer_defined (TypeExpr-F.Array x) h = h
  plain_layer_defined (TypeExpr-F.ByRef x) h = h
  plain_layer_defined (TypeExpr-F.Var n) h = h
  plain_layer_defined (TypeExpr-F.MVar n) h = h

  plain_rolled_defined : (y : TypeExpr-F (With PlainDefined)) → PlainDefined (roll-TypeExpr (plain_parts PlainDefined y))
  plain_rolled_defined y h = ap (keeps_defined k) (plain_rolled (plain_parts PlainDefined y)) ∙ plain_layer_defined y h

  plain_stays_defined : (e : TypeExpr) → IsTrue (keeps_defined k e) → IsTrue (keeps_defined k (plain e))
  plain_stays_defined = ind-TypeExpr PlainDefined (λ x y is. subst (λ z. PlainDefined (roll-TypeExpr z)) is (plain_rolled_defined y))

-- ---- closed types

module _ (k : Change) (after before : Queries) (a : Agree k after before) where
  abbrev StandsAlike : TypeExpr → Type 0
  StandsAlike e = IsTrue (keeps_defined k.keep e) → standing after.head (move_expr k.rho e) ≡ standing before.head e

  standing_rolled : (q : Queries) (x : TypeExpr-F TypeExpr) → standing q.head (roll-TypeExpr x) ≡ standing_layer q.head (map-TypeExpr TypeExpr Standing (standing q.head) x)
  unfolding standing
  standing_rolled q x = fold-roll-TypeExpr Standing (standing_layer q.head) x

  stand_args : (xs : List (With StandsAlike)) → IsTrue (list_all itself (map (keeps_defined k.keep) (map (λ e. e.0) xs)))
      → map (standing after.head) (move_exprs k.rho (map (λ e. e.0) xs)) ≡ map (standing before.head) (map (λ e. e.0) xs)
  stand_args [] h = refl
  stand_args (x ∷ xs) h =
      let b : Bool = keeps_defined k.keep x.0 in
      let rest : Bool = list_all itself (map (keeps_defined k.keep) (map (λ e. e.0) xs)) in
      λ i. x.1 (first_so b rest h) i ∷ stand_args xs (second_so b rest h) i

  stand_layer : (y : TypeExpr-F (With StandsAlike)) → IsTrue (defined_layer k.keep (map-TypeExpr TypeExpr Bool (keeps_defined k.keep) (plain_parts StandsAlike y)))
      → standing_layer after.head (map-TypeExpr TypeExpr Standing (standing after.head) (moved_in k.rho (plain_parts StandsAlike y))) ≡ standing_layer before.head (map-TypeExpr TypeExpr Standing (standing before.head) (plain_parts StandsAlike y))
  stand_layer (TypeExpr-F.Prim n) h = refl
  stand_layer (TypeExpr-F.Def t) h = ap (λ o. whole_if (takes o 0)) (a.head t.0 h)
  stand_layer (TypeExpr-F.Inst t xs) h =
      let rest : Bool = list_all itself (map (keeps_defined k.keep) (map (λ e. e.0) xs)) in
      let args : map (standing after.head) (move_exprs k.rho (map (λ e. e.0) xs)) ≡ map (standing before.head) (map (λ e. e.0) xs) = stand_args xs (second_so (k.keep.typ t.0) rest h) in
      λ i. whole_if (takes (a.head t.0 (first_so (k.keep.typ t.0) rest h) i) (length (args i)) && list_all is_whole (args i))
  stand_layer (TypeExpr-F.Array x) h = ap (λ s. whole_if (is_whole s)) (x.1 h)
  stand_layer (TypeExpr-F.ByRef x) h = ap alone_if (x.1 h)
  stand_layer (TypeExpr-F.Var n) h = refl
  stand_layer (TypeExpr-F.MVar n) h = refl
  stand_layer (TypeExpr-F.Mod required by x) h = x.1 (second_so (k.keep.typ by.0) _ h)

  stand_rolled : (y : TypeExpr-F (With StandsAlike)) → StandsAlike (roll-TypeExpr (plain_parts StandsAlike y))
  stand_rolled y h =
      let x : TypeExpr-F TypeExpr = plain_parts StandsAlike y in
      ap (standing after.head) (move_rolled k.rho x) ∙ standing_rolled after (moved_in k.rho x)
      ∙ stand_layer y (sym (defined_rolled k.keep x) ∙ h) ∙ sym (standing_rolled before x)

  defined_stands : (e : TypeExpr) → IsTrue (keeps_defined k.keep e) → standing after.head (move_expr k.rho e) ≡ standing before.head e
  defined_stands = ind-TypeExpr StandsAlike (λ x y is. subst (λ z. StandsAlike (roll-TypeExpr z)) is (stand_rolled y))

  pub standing_moved : (e : TypeExpr) → IsTrue (keeps_expr k.keep e) → standing after.head (move_expr k.rho e) ≡ standing before.head e
  standing_moved e h = defined_stands e (kept_defined k.keep e h)

  module _ (targs margs : List TypeExpr) (ts : IsTrue (list_all (shows_expr k.keep) targs)) (ms : IsTrue (list_all (shows_expr k.keep) margs)) where
    abbrev pub In : TypeExpr → TypeExpr
    In e = plain (exprs.subst targs margs e)

    in_stays : (e : TypeExpr) → IsTrue (keeps_expr k.keep e) → IsTrue (keeps_expr k.keep (In e))
    in_stays e h = (plain_stays k.keep (exprs.subst targs margs e)).kept ((subst_stays k.keep targs margs ts ms e).kept h)

    in_defined : (e : TypeExpr) → IsTrue (keeps_defined k.keep e) → IsTrue (keeps_defined k.keep (In e))
    in_defined e h = plain_stays_defined k.keep (exprs.subst targs margs e) (subst_stays_defined k.keep targs margs ts ms e h)

    -- what is kept stays kept in a closed type, what is shown too stays shown
    pub in_names : (e : TypeExpr) → Stays (names_of k.keep e) (names_of k.keep (In e))
    in_names e =
        let one : Stays (names_of k.keep e) (names_of k.keep (exprs.subst targs margs e)) = subst_stays k.keep targs margs ts ms e in
        let two : Stays (names_of k.keep (exprs.subst targs margs e)) (names_of k.keep (In e)) = plain_stays k.keep (exprs.subst targs margs e) in
        record { kept = λ h. two.kept (one.kept h); shown = λ h. two.shown (one.shown h) }

    pub in_moves : (e : TypeExpr) → plain (exprs.subst (move_exprs k.rho targs) (move_exprs k.rho margs) (move_expr k.rho e)) ≡ move_expr k.rho (In e)
    in_moves e = ap plain (sym (subst_moves k.rho targs margs e)) ∙ plain_moved k.rho (exprs.subst targs margs e)

    so_moved : (b : Bool) (c : TypeExpr) → if_so b (move_expr k.rho c) ≡ option_map (move_expr k.rho) (if_so b c)
    so_moved true c = refl
    so_moved false c = refl

    defined_return_moved : (e : TypeExpr) → IsTrue (keeps_defined k.keep e)
        → closed_return after (move_exprs k.rho targs) (move_exprs k.rho margs) (move_expr k.rho e) ≡ option_map (move_expr k.rho) (closed_return before targs margs e)
    unfolding closed_return
    defined_return_moved e h =
        ap (λ (c : TypeExpr). if_so (is_sound (standing after.head c)) c) (in_moves e)
        ∙ ap (λ s. if_so (is_sound s) (move_expr k.rho (In e))) (defined_stands (In e) (in_defined e h))
        ∙ so_moved (is_sound (standing before.head (In e))) (In e)

    pub closed_return_moved : (e : TypeExpr) → IsTrue (keeps_expr k.keep e)
        → closed_return after (move_exprs k.rho targs) (move_exprs k.rho margs) (move_expr k.rho e) ≡ option_map (move_expr k.rho) (closed_return before targs margs e)
    closed_return_moved e h = defined_return_moved e (kept_defined k.keep e h)

    unless_void : TypeExpr → Option TypeExpr
    unless_void c = if is_void c then None else Some c

    void_by : (b : Bool) (c : TypeExpr) → (if b then None else Some (move_expr k.rho c)) ≡ option_map (move_expr k.rho) (if b then None else Some c)
    void_by true c = refl
    void_by false c = refl

    slot_by : (o : Option TypeExpr) → option_and_then (λ c. if is_void c then None else Some c) (option_map (move_expr k.rho) o)
        ≡ option_map (move_expr k.rho) (option_and_then (λ c. if is_void c then None else Some c) o)
    slot_by None = refl
    slot_by (Some c) = ap (λ (b : Bool). if b then None else Some (move_expr k.rho c)) (is_void_moved k.rho c) ∙ void_by (is_void c) c

    -- a type that an exception clause names
    pub defined_slot_moved : (e : TypeExpr) → IsTrue (keeps_defined k.keep e)
        → closed_slot after (move_exprs k.rho targs) (move_exprs k.rho margs) (move_expr k.rho e) ≡ option_map (move_expr k.rho) (closed_slot before targs margs e)
    unfolding closed_slot
    defined_slot_moved e h =
        ap (option_and_then (λ c. if is_void c then None else Some c)) (defined_return_moved e h) ∙ slot_by (closed_return before targs margs e)

    pub closed_slot_moved : (e : TypeExpr) → IsTrue (keeps_expr k.keep e)
        → closed_slot after (move_exprs k.rho targs) (move_exprs k.rho margs) (move_expr k.rho e) ≡ option_map (move_expr k.rho) (closed_slot before targs margs e)
    closed_slot_moved e h = defined_slot_moved e (kept_defined k.keep e h)

    -- what comes out is kept
    so_is : (b : Bool) (c d : TypeExpr) → if_so b c ≡ Some d → c ≡ d
    so_is true c d e = cc
    so_is false c d e = cc

    pub closed_return_kept : (e c : TypeExpr) → IsTrue (keeps_expr k.keep e) → closed_return before targs margs e ≡ Some c → IsTrue (keeps_expr k.keep c)
    unfolding closed_return
    closed_return_kept e c h is = subst (λ (d : TypeExpr). IsTrue (keeps_expr k.keep d)) (so_is (is_sound (standing before.head (In e))) (In e) c is) (in_stays e h)

    void_is : (b : Bool) (c d : TypeExpr) → (if b then None else Some c) ≡ Some d → c ≡ d
    void_is true c d e = cc
    void_is false c d e = cc

    slot_from : (o : Option TypeExpr) (c : TypeExpr) → option_and_then (λ c. if is_void c then None else Some c) o ≡ Some c → o ≡ Some c
    slot_from None c e = cc
    slot_from (Some d) c e = ap (λ (x : TypeExpr). Some x) (void_is (is_void d) d c e)

    pub closed_slot_kept : (e c : TypeExpr) → IsTrue (keeps_expr k.keep e) → closed_slot before targs margs e ≡ Some c → IsTrue (keeps_expr k.keep c)
    unfolding closed_slot
    closed_slot_kept e c h is = closed_return_kept e c h (slot_from (closed_return before targs margs e) c is)

    pub closed_return_is : (e c : TypeExpr) → closed_return before targs margs e ≡ Some c → In e ≡ c
    unfolding closed_return
    closed_return_is e c is = so_is (is_sound (standing before.head (In e))) (In e) c is

    pub closed_slot_is : (e c : TypeExpr) → closed_slot before targs margs e ≡ Some c → In e ≡ c
    unfolding closed_slot
    closed_slot_is e c is = closed_return_is e c (slot_from (closed_return before targs margs e) c is)

    pub defined_slot_kept : (e c : TypeExpr) → IsTrue (keeps_defined k.keep e) → closed_slot before targs margs e ≡ Some c → IsTrue (keeps_defined k.keep c)
    defined_slot_kept e c h is = subst (λ (d : TypeExpr). IsTrue (keeps_defined k.keep d)) (closed_slot_is e c is) (in_defined e h)

    pub closed_slot_shown : (e c : TypeExpr) → IsTrue (shows_expr k.keep e) → closed_slot before targs margs e ≡ Some c → IsTrue (shows_expr k.keep c)
    closed_slot_shown e c h is = subst (λ (d : TypeExpr). IsTrue (shows_expr k.keep d)) (closed_slot_is e c is) ((in_names e).shown h)

    -- ---- elements, fields and owners

    pub closed_cell_moved : (e : TypeExpr) → IsTrue (keeps_expr k.keep e)
        → closed_cell after (move_exprs k.rho targs) (move_exprs k.rho margs) (move_expr k.rho e) ≡ option_map (move_expr k.rho) (closed_cell before targs margs e)
    unfolding closed_cell_by
    closed_cell_moved e h =
        ap (λ (c : TypeExpr). if_so (is_whole (standing after.head c)) c) (in_moves e)
        ∙ ap (λ s. if_so (is_whole s) (move_expr k.rho (In e))) (standing_moved (In e) (in_stays e h))
        ∙ so_moved (is_whole (standing before.head (In e))) (In e)

    pub closed_cell_is : (e c : TypeExpr) → closed_cell before targs margs e ≡ Some c → In e ≡ c
    unfolding closed_cell_by
    closed_cell_is e c is = so_is (is_whole (standing before.head (In e))) (In e) c is

    pub closed_cell_kept : (e c : TypeExpr) → IsTrue (keeps_expr k.keep e) → closed_cell before targs margs e ≡ Some c → IsTrue (keeps_expr k.keep c)
    closed_cell_kept e c h is = subst (λ (d : TypeExpr). IsTrue (keeps_expr k.keep d)) (closed_cell_is e c is) (in_stays e h)

    pub closed_cell_shown : (e c : TypeExpr) → IsTrue (shows_expr k.keep e) → closed_cell before targs margs e ≡ Some c → IsTrue (shows_expr k.keep c)
    closed_cell_shown e c h is = subst (λ (d : TypeExpr). IsTrue (shows_expr k.keep d)) (closed_cell_is e c is) ((in_names e).shown h)

    -- ---- arguments, which keep their modifiers

    pub closed_arg_moved : (e : TypeExpr) → IsTrue (keeps_expr k.keep e)
        → closed_arg after (move_exprs k.rho targs) (move_exprs k.rho margs) (move_expr k.rho e) ≡ option_map (move_expr k.rho) (closed_arg before targs margs e)
    closed_arg_moved e h =
        let c : TypeExpr = exprs.subst targs margs e in
        ap (λ (c : TypeExpr). if_so (is_whole (standing after.head c)) c) (sym (subst_moves k.rho targs margs e))
        ∙ ap (λ s. if_so (is_whole s) (move_expr k.rho c)) (standing_moved c ((subst_stays k.keep targs margs ts ms e).kept h))
        ∙ so_moved (is_whole (standing before.head c)) c

    pub closed_arg_shown : (e c : TypeExpr) → IsTrue (shows_expr k.keep e) → closed_arg before targs margs e ≡ Some c → IsTrue (shows_expr k.keep c)
    closed_arg_shown e c h is =
        let d : TypeExpr = exprs.subst targs margs e in
        subst (λ (d : TypeExpr). IsTrue (shows_expr k.keep d)) (so_is (is_whole (standing before.head d)) d c is) ((subst_stays k.keep targs margs ts ms e).shown h)
