-- The definition that a type is of, under new numbers, and flags that are set for it.
use Rattle.std.proofs.Common.{◌≡◌, ℕ, Bool, true, false, ◌&&◌, List, [], ◌∷◌, map, Some, refl, sym, ap, subst, ◌∙◌}
use Rattle.std.specs.Prelude.{IsTrue}
use Rattle.std.specs.List.{list_all}
use Rattle.std.specs.Option.{option_map}
use Rattle.std.specs.Cmp.{first_so, second_so}
use Rattle.std.proofs.lemmas.Bool.{false≢true}
use Rattle.il_base.specs.declared.ids.TypeId.{TypeId}
use Rattle.il_base.specs.declared.world_model.expr.TypeExpr.{TypeExpr, ind-TypeExpr, out-TypeExpr, roll-TypeExpr, out-roll-TypeExpr, roll-out-TypeExpr}
use Rattle.il_base.specs.declared.world_model.expr.TypeExpr.TheOpen.{TypeExpr-F}
use Rattle.il_base.specs.declared.world_model.expr.TypeExpr.TheVariants as expr
use Rattle.il_base.specs.world_model.Exprs as exprs
use Rattle.il_base.proofs.lemmas.world_model.ExprLayers.{subst_prim, subst_def, subst_inst, subst_array, subst_by_ref, subst_mod}
use Rattle.rules.specs.step_rules.Words.{args_in, args_of}
use Rattle.rules.specs.step_rules.Closing.{plain}
use Rattle.rules.specs.step_rules.Frames.{definition_in, definition_of}
use Rattle.rules.specs.change_rules.Change.{Rho, Keep}
use Rattle.rules.specs.change_rules.Moves.{move_expr, move_exprs}
use Rattle.rules.specs.change_rules.Keeps.{Names, both, names_of, names_layer, keeps_expr, shows_expr, definition_passes, parameter_passes, makes_expr, news_expr, begins_expr}
use Rattle.base_laws.proofs.lemmas.change_laws.Exprs.{With, plain_parts, moved_in, out_moved}
use Rattle.base_laws.proofs.lemmas.change_laws.Subst.{names_rolled}
use Rattle.run_laws.proofs.lemmas.lock_words.Types.{plain_in, plain_rolled}

-- ---- parts of a moved type

args_in_moved : (r : Rho) (x : TypeExpr-F TypeExpr) → args_in (moved_in r x) ≡ move_exprs r (args_in x)
args_in_moved r (TypeExpr-F.Prim n) = refl
args_in_moved r (TypeExpr-F.Def t) = refl
args_in_moved r (TypeExpr-F.Inst t args) = refl
args_in_moved r (TypeExpr-F.Array x) = refl
args_in_moved r (TypeExpr-F.ByRef x) = refl
args_in_moved r (TypeExpr-F.Var n) = refl
args_in_moved r (TypeExpr-F.MVar n) = refl
args_in_moved r (TypeExpr-F.Mod required by x) = refl

pub args_moved : (r : Rho) (e : TypeExpr) → args_of (move_expr r e) ≡ move_exprs r (args_of e)
unfolding args_of
args_moved r e = ap args_in (out_moved r e) ∙ args_in_moved r (out-TypeExpr e)

all_shown : (k : Keep) (es : List TypeExpr) → list_all both (map (names_of k) es) ≡ list_all (shows_expr k) es
all_shown k [] = refl
all_shown k (e ∷ es) = ap (λ (b : Bool). shows_expr k e && b) (all_shown k es)

args_in_shown : (k : Keep) (x : TypeExpr-F TypeExpr) → IsTrue (keeps_expr k (roll-TypeExpr x)) → IsTrue (list_all (shows_expr k) (args_in x))
args_in_shown k (TypeExpr-F.Prim n) h = refl
args_in_shown k (TypeExpr-F.Def t) h = refl
args_in_shown k (TypeExpr-F.Inst t args) h =
    let names : names_of k (roll-TypeExpr (TypeExpr-F.Inst t args)) ≡ names_layer k (TypeExpr-F.Inst t (map (names_of k) args)) = names_rolled k (TypeExpr-F.Inst t args) in
    sym (all_shown k args) ∙ second_so (k.typ t.0) (list_all both (map (names_of k) args)) (sym (ap (λ (n : Names). n.kept) names) ∙ h)
args_in_shown k (TypeExpr-F.Array x) h = refl
args_in_shown k (TypeExpr-F.ByRef x) h = refl
args_in_shown k (TypeExpr-F.Var n) h = refl
args_in_shown k (TypeExpr-F.MVar n) h = refl
args_in_shown k (TypeExpr-F.Mod required by x) h = refl

-- the arguments of a type that is kept are shown
pub args_shown : (k : Keep) (e : TypeExpr) → IsTrue (keeps_expr k e) → IsTrue (list_all (shows_expr k) (args_of e))
unfolding args_of
args_shown k e h = args_in_shown k (out-TypeExpr e) (ap (keeps_expr k) (roll-out-TypeExpr e) ∙ h)

definition_in_moved : (r : Rho) (x : TypeExpr-F TypeExpr) → definition_in (moved_in r x) ≡ option_map r.typ (definition_in x)
definition_in_moved r (TypeExpr-F.Prim n) = refl
definition_in_moved r (TypeExpr-F.Def t) = refl
definition_in_moved r (TypeExpr-F.Inst t args) = refl
definition_in_moved r (TypeExpr-F.Array x) = refl
definition_in_moved r (TypeExpr-F.ByRef x) = refl
definition_in_moved r (TypeExpr-F.Var n) = refl
definition_in_moved r (TypeExpr-F.MVar n) = refl
definition_in_moved r (TypeExpr-F.Mod required by x) = refl

pub definition_moved : (r : Rho) (e : TypeExpr) → definition_of (move_expr r e) ≡ option_map r.typ (definition_of e)
unfolding definition_of
definition_moved r e = ap definition_in (out_moved r e) ∙ definition_in_moved r (out-TypeExpr e)

definition_in_kept : (k : Keep) (x : TypeExpr-F TypeExpr) (t : ℕ) → IsTrue (keeps_expr k (roll-TypeExpr x)) → definition_in x ≡ Some t → IsTrue (k.typ t)
definition_in_kept k (TypeExpr-F.Prim n) t h e = cc
definition_in_kept k (TypeExpr-F.Def d) t h e =
    let is : d.0 ≡ t = cc in ap k.typ (sym is) ∙ sym (ap (λ (n : Names). n.kept) (names_rolled k (TypeExpr-F.Def d))) ∙ h
definition_in_kept k (TypeExpr-F.Inst d args) t h e =
    let is : d.0 ≡ t = cc in
    let names : names_of k (roll-TypeExpr (TypeExpr-F.Inst d args)) ≡ names_layer k (TypeExpr-F.Inst d (map (names_of k) args)) = names_rolled k (TypeExpr-F.Inst d args) in
    ap k.typ (sym is) ∙ first_so (k.typ d.0) (list_all both (map (names_of k) args)) (sym (ap (λ (n : Names). n.kept) names) ∙ h)
definition_in_kept k (TypeExpr-F.Array x) t h e = cc
definition_in_kept k (TypeExpr-F.ByRef x) t h e = cc
definition_in_kept k (TypeExpr-F.Var n) t h e = cc
definition_in_kept k (TypeExpr-F.MVar n) t h e = cc
definition_in_kept k (TypeExpr-F.Mod required by x) t h e = cc

pub definition_kept : (k : Keep) (e : TypeExpr) (t : ℕ) → IsTrue (keeps_expr k e) → definition_of e ≡ Some t → IsTrue (k.typ t)
unfolding definition_of
definition_kept k e t h is = definition_in_kept k (out-TypeExpr e) t (ap (keeps_expr k) (roll-out-TypeExpr e) ∙ h) is

definition_in_shown : (k : Keep) (x : TypeExpr-F TypeExpr) (t : ℕ) → IsTrue (shows_expr k (roll-TypeExpr x)) → definition_in x ≡ Some t → IsTrue (k.shown t)
definition_in_shown k (TypeExpr-F.Prim n) t h e = cc
definition_in_shown k (TypeExpr-F.Def d) t h e =
    let is : d.0 ≡ t = cc in ap k.shown (sym is) ∙ second_so (k.typ d.0) (k.shown d.0) (sym (ap both (names_rolled k (TypeExpr-F.Def d))) ∙ h)
definition_in_shown k (TypeExpr-F.Inst d args) t h e =
    let is : d.0 ≡ t = cc in
    let rest : Bool = list_all both (map (names_of k) args) in
    ap k.shown (sym is) ∙ first_so (k.shown d.0) rest (second_so (k.typ d.0 && rest) (k.shown d.0 && rest) (sym (ap both (names_rolled k (TypeExpr-F.Inst d args))) ∙ h))
definition_in_shown k (TypeExpr-F.Array x) t h e = cc
definition_in_shown k (TypeExpr-F.ByRef x) t h e = cc
definition_in_shown k (TypeExpr-F.Var n) t h e = cc
definition_in_shown k (TypeExpr-F.MVar n) t h e = cc
definition_in_shown k (TypeExpr-F.Mod required by x) t h e = cc

pub definition_shown : (k : Keep) (e : TypeExpr) (t : ℕ) → IsTrue (shows_expr k e) → definition_of e ≡ Some t → IsTrue (k.shown t)
unfolding definition_of
definition_shown k e t h is = definition_in_shown k (out-TypeExpr e) t (ap (shows_expr k) (roll-out-TypeExpr e) ∙ h) is

-- ---- modifiers are taken off once

abbrev PlainTwice : TypeExpr → Type 0
PlainTwice e = plain (plain e) ≡ plain e

twice_rolled : (y : TypeExpr-F (With PlainTwice)) → PlainTwice (roll-TypeExpr (plain_parts PlainTwice y))
twice_rolled (TypeExpr-F.Mod required by x) =
    let e : plain (roll-TypeExpr (TypeExpr-F.Mod required by x.0)) ≡ plain x.0 = plain_rolled (TypeExpr-F.Mod required by x.0) in
    ap plain e ∙ x.1 ∙ sym e
twice_rolled (TypeExpr-F.Prim n) = ap plain (plain_rolled (TypeExpr-F.Prim n))
twice_rolled (TypeExpr-F.Def t) = ap plain (plain_rolled (TypeExpr-F.Def t))
twice_rolled (TypeExpr-F.Inst t xs) = ap plain (plain_rolled (TypeExpr-F.Inst t (map (λ e. e.0) xs)))
twice_rolled (TypeExpr-F.Array x) = ap plain (plain_rolled (TypeExpr-F.Array x.0))
twice_rolled (TypeExpr-F.ByRef x) = ap plain (plain_rolled (TypeExpr-F.ByRef x.0))
twice_rolled (TypeExpr-F.Var n) = ap plain (plain_rolled (TypeExpr-F.Var n))
twice_rolled (TypeExpr-F.MVar n) = ap plain (plain_rolled (TypeExpr-F.MVar n))

pub plain_twice : (e : TypeExpr) → plain (plain e) ≡ plain e
plain_twice = ind-TypeExpr PlainTwice (λ x y is. subst (λ z. PlainTwice (roll-TypeExpr z)) is (twice_rolled y))

-- ---- a flag of the definition

module _ (flag : ℕ → Bool) where
  abbrev pub Passes : TypeExpr → Bool
  Passes e = definition_passes flag (out-TypeExpr (plain e))

  abbrev passes_in : TypeExpr-F TypeExpr → Bool
  passes_in (TypeExpr-F.Mod required by x) = Passes x
  passes_in x = definition_passes flag x

  passes_rolled : (x : TypeExpr-F TypeExpr) → Passes (roll-TypeExpr x) ≡ passes_in x
  passes_rolled x = ap (λ (e : TypeExpr). definition_passes flag (out-TypeExpr e)) (plain_rolled x) ∙ by_layer x
    where
      by_layer : (x : TypeExpr-F TypeExpr) → definition_passes flag (out-TypeExpr (plain_in x)) ≡ passes_in x
      by_layer (TypeExpr-F.Mod required by x) = refl
      by_layer (TypeExpr-F.Prim n) = ap (definition_passes flag) (out-roll-TypeExpr (TypeExpr-F.Prim n))
      by_layer (TypeExpr-F.Def t) = ap (definition_passes flag) (out-roll-TypeExpr (TypeExpr-F.Def t))
      by_layer (TypeExpr-F.Inst t args) = ap (definition_passes flag) (out-roll-TypeExpr (TypeExpr-F.Inst t args))
      by_layer (TypeExpr-F.Array x) = ap (definition_passes flag) (out-roll-TypeExpr (TypeExpr-F.Array x))
      by_layer (TypeExpr-F.ByRef x) = ap (definition_passes flag) (out-roll-TypeExpr (TypeExpr-F.ByRef x))
      by_layer (TypeExpr-F.Var n) = ap (definition_passes flag) (out-roll-TypeExpr (TypeExpr-F.Var n))
      by_layer (TypeExpr-F.MVar n) = ap (definition_passes flag) (out-roll-TypeExpr (TypeExpr-F.MVar n))

  passes_def : (t : TypeId) → Passes (expr.Def t) ≡ flag t.0
  passes_def t = ap Passes (sym (expr.rolls-Def t)) ∙ passes_rolled (TypeExpr-F.Def t)

  passes_array : (e : TypeExpr) → Passes (expr.Array e) ≡ true
  passes_array e = ap Passes (sym (expr.rolls-Array e)) ∙ passes_rolled (TypeExpr-F.Array e)

  pub passes_prim : (n : ℕ) → Passes (expr.Prim n) ≡ true
  passes_prim n = ap Passes (sym (expr.rolls-Prim n)) ∙ passes_rolled (TypeExpr-F.Prim n)

  -- with arguments put in
  module _ (targs margs : List TypeExpr) where
    abbrev PassesIn : TypeExpr → Type 0
    PassesIn e = IsTrue (Passes e) → IsTrue (Passes (exprs.subst targs margs e))

    passes_by : (x : TypeExpr-F TypeExpr) (e d : TypeExpr) → roll-TypeExpr x ≡ e → exprs.subst targs margs e ≡ d → (IsTrue (passes_in x) → IsTrue (Passes d)) → PassesIn (roll-TypeExpr x)
    passes_by x e d rolls is f h =
        let there : exprs.subst targs margs (roll-TypeExpr x) ≡ d = ap (exprs.subst targs margs) rolls ∙ is in
        ap Passes there ∙ f (sym (passes_rolled x) ∙ h)

    never : (x : TypeExpr-F TypeExpr) → passes_in x ≡ false → PassesIn (roll-TypeExpr x)
    never x not_so h = absurd (false≢true (sym not_so ∙ sym (passes_rolled x) ∙ h))

    in_layer : (y : TypeExpr-F (With PassesIn)) → PassesIn (roll-TypeExpr (plain_parts PassesIn y))
    in_layer (TypeExpr-F.Prim n) = passes_by _ (expr.Prim n) _ (expr.rolls-Prim n) (subst_prim targs margs n) (λ h. passes_prim n)
    in_layer (TypeExpr-F.Def t) = passes_by _ (expr.Def t) _ (expr.rolls-Def t) (subst_def targs margs t) (λ h. passes_def t ∙ h)
    in_layer (TypeExpr-F.Inst t xs) =
        let args : List TypeExpr = map (λ e. e.0) xs in
        let new : List TypeExpr = map (exprs.subst targs margs) args in
        passes_by _ (expr.Inst t args) (expr.Inst t new) (expr.rolls-Inst t args) (subst_inst targs margs t args)
        (λ h. ap Passes (sym (expr.rolls-Inst t new)) ∙ passes_rolled (TypeExpr-F.Inst t new) ∙ h)
    in_layer (TypeExpr-F.Array x) = passes_by _ (expr.Array x.0) _ (expr.rolls-Array x.0) (subst_array targs margs x.0) (λ h. passes_array (exprs.subst targs margs x.0))
    in_layer (TypeExpr-F.ByRef x) =
        let new : TypeExpr = exprs.subst targs margs x.0 in
        passes_by _ (expr.ByRef x.0) _ (expr.rolls-ByRef x.0) (subst_by_ref targs margs x.0) (λ h. ap Passes (sym (expr.rolls-ByRef new)) ∙ passes_rolled (TypeExpr-F.ByRef new))
    in_layer (TypeExpr-F.Var n) = never (TypeExpr-F.Var n) refl
    in_layer (TypeExpr-F.MVar n) = never (TypeExpr-F.MVar n) refl
    in_layer (TypeExpr-F.Mod required by x) =
        let new : TypeExpr = exprs.subst targs margs x.0 in
        passes_by _ (expr.Mod required by x.0) _ (expr.rolls-Mod required by x.0) (subst_mod targs margs required by x.0)
        (λ h. ap Passes (sym (expr.rolls-Mod required by new)) ∙ passes_rolled (TypeExpr-F.Mod required by new) ∙ x.1 h)

    pub passes_in_stays : (e : TypeExpr) → IsTrue (Passes e) → IsTrue (Passes (exprs.subst targs margs e))
    passes_in_stays = ind-TypeExpr PassesIn (λ x y is. subst (λ z. PassesIn (roll-TypeExpr z)) is (in_layer y))

    pub passes_closed : (e : TypeExpr) → IsTrue (Passes e) → IsTrue (Passes (plain (exprs.subst targs margs e)))
    passes_closed e h = ap (λ (d : TypeExpr). definition_passes flag (out-TypeExpr d)) (plain_twice (exprs.subst targs margs e)) ∙ passes_in_stays e h

    flag_of : (x : TypeExpr-F TypeExpr) (t : ℕ) → IsTrue (definition_passes flag x) → definition_in x ≡ Some t → IsTrue (flag t)
    flag_of (TypeExpr-F.Prim n) t h e = cc
    flag_of (TypeExpr-F.Def d) t h e = let is : d.0 ≡ t = cc in ap flag (sym is) ∙ h
    flag_of (TypeExpr-F.Inst d args) t h e = let is : d.0 ≡ t = cc in ap flag (sym is) ∙ h
    flag_of (TypeExpr-F.Array x) t h e = cc
    flag_of (TypeExpr-F.ByRef x) t h e = cc
    flag_of (TypeExpr-F.Var n) t h e = cc
    flag_of (TypeExpr-F.MVar n) t h e = cc
    flag_of (TypeExpr-F.Mod required by x) t h e = cc

    pub definition_flag : (e : TypeExpr) (t : ℕ) → IsTrue (Passes e) → definition_of (plain (exprs.subst targs margs e)) ≡ Some t → IsTrue (flag t)
    unfolding definition_of
    definition_flag e t h is = flag_of (out-TypeExpr (plain (exprs.subst targs margs e))) t (passes_in_stays e h) is

-- ---- the types of objects

-- an access to a type may begin its initializer
abbrev pub Begins : Keep → TypeExpr → Type 0
Begins k e = (t : ℕ) → definition_of e ≡ Some t → IsTrue (k.begun t)

pub begins_closed : (k : Keep) (targs margs : List TypeExpr) (e : TypeExpr) → IsTrue (begins_expr k e) → Begins k (plain (exprs.subst targs margs e))
unfolding begins_expr
begins_closed k targs margs e h t is = definition_flag k.begun targs margs e t h is

-- what passes as a definition passes where a parameter does too
passes_too : (flag : ℕ → Bool) (x : TypeExpr-F TypeExpr) → IsTrue (definition_passes flag x) → IsTrue (parameter_passes flag x)
passes_too flag (TypeExpr-F.Prim n) h = h
passes_too flag (TypeExpr-F.Def t) h = h
passes_too flag (TypeExpr-F.Inst t args) h = h
passes_too flag (TypeExpr-F.Array x) h = h
passes_too flag (TypeExpr-F.ByRef x) h = h
passes_too flag (TypeExpr-F.Var n) h = refl
passes_too flag (TypeExpr-F.MVar n) h = refl
passes_too flag (TypeExpr-F.Mod required by x) h = h

pub news_make : (k : Keep) (e : TypeExpr) → IsTrue (news_expr k e) → IsTrue (makes_expr k e)
unfolding news_expr makes_expr
news_make k e h = passes_too k.made (out-TypeExpr (plain e)) h

news_closed : (k : Keep) (targs margs : List TypeExpr) (e : TypeExpr) → IsTrue (news_expr k e) → IsTrue (news_expr k (plain (exprs.subst targs margs e)))
unfolding news_expr
news_closed k targs margs e h = passes_closed k.made targs margs e h

pub makes_closed : (k : Keep) (targs margs : List TypeExpr) (e : TypeExpr) → IsTrue (news_expr k e) → IsTrue (makes_expr k (plain (exprs.subst targs margs e)))
makes_closed k targs margs e h = news_make k (plain (exprs.subst targs margs e)) (news_closed k targs margs e h)

-- the outermost construct of a type without modifiers there
out_plain : (x : TypeExpr-F TypeExpr) (e : TypeExpr) → roll-TypeExpr x ≡ e → plain_in x ≡ roll-TypeExpr x → out-TypeExpr (plain e) ≡ x
out_plain x e rolls is = ap (λ (d : TypeExpr). out-TypeExpr (plain d)) (sym rolls) ∙ ap out-TypeExpr (plain_rolled x ∙ is) ∙ out-roll-TypeExpr x

pub makes_def : (k : Keep) (t : TypeId) → makes_expr k (expr.Def t) ≡ k.made t.0
unfolding makes_expr
makes_def k t = ap (parameter_passes k.made) (out_plain (TypeExpr-F.Def t) (expr.Def t) (expr.rolls-Def t) refl)

pub makes_array : (k : Keep) (e : TypeExpr) → IsTrue (makes_expr k (expr.Array e))
unfolding makes_expr
makes_array k e = ap (parameter_passes k.made) (out_plain (TypeExpr-F.Array e) (expr.Array e) (expr.rolls-Array e) refl)

pub makes_prim : (k : Keep) (n : ℕ) → IsTrue (makes_expr k (expr.Prim n))
unfolding makes_expr
makes_prim k n = ap (parameter_passes k.made) (out_plain (TypeExpr-F.Prim n) (expr.Prim n) (expr.rolls-Prim n) refl)
