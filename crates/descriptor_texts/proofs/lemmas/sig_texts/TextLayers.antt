-- The text of a type in a signature by its outermost construct.
use Rattle.std.specs.Prelude.{OnOk, Result, Ok, Err}
use Rattle.std.proofs.Common.{◌≡◌, ℕ, ◌++◌, ◌∷◌, codes, Bool, List, [], map, Option, Some, None, refl, sym, ap, ◌∙◌, append_assoc}
use Rattle.std.proofs.lemmas.List.{append-nil}
use Rattle.il_base.specs.declared.ids.TypeId.{TypeId}
use Rattle.il_base.specs.declared.world_model.expr.TypeExpr.{TypeExpr, fold-TypeExpr, fold-roll-TypeExpr}
use Rattle.il_base.specs.declared.world_model.expr.TypeExpr.TheOpen.{TypeExpr-F}
use Rattle.il_base.specs.declared.world_model.expr.TypeExpr.TheVariants as expr
use Rattle.il_base.specs.declared.world_model.record.AsmRec.{AsmRec}
use Rattle.il_base.specs.world_model.Worlds.{prim_type}
use Rattle.rules.specs.type_rules.Texts.{joined}
use Rattle.rules.specs.mark_rules.Roots.{Owners, definition_slashed, parameter_name, sig_text_layer, sig_text}

pub no_definition : (recs : List AsmRec) (t : Option TypeId) (out : List ℕ) → t ≡ None → out ++ definition_slashed recs t ≡ out
no_definition recs t out h = rw h (append-nil out)

module _ (recs : List AsmRec) (rec : AsmRec) (o : Owners) where
  pub text_prim : (n : ℕ) → sig_text recs rec o (expr.Prim n) ≡ definition_slashed recs (prim_type recs n)
  unfolding sig_text
  text_prim n = ap (fold-TypeExpr (List ℕ) (sig_text_layer recs rec o)) (sym (expr.rolls-Prim n)) ∙ fold-roll-TypeExpr (List ℕ) (sig_text_layer recs rec o) (TypeExpr-F.Prim n)

  pub text_def : (t : TypeId) → sig_text recs rec o (expr.Def t) ≡ definition_slashed recs (Some t)
  unfolding sig_text
  text_def t = ap (fold-TypeExpr (List ℕ) (sig_text_layer recs rec o)) (sym (expr.rolls-Def t)) ∙ fold-roll-TypeExpr (List ℕ) (sig_text_layer recs rec o) (TypeExpr-F.Def t)

  pub text_inst : (t : TypeId) (args : List TypeExpr) → sig_text recs rec o (expr.Inst t args) ≡ definition_slashed recs (Some t) ++ codes "<" ++ joined (map (sig_text recs rec o) args) ++ codes ">"
  unfolding sig_text
  text_inst t args = ap (fold-TypeExpr (List ℕ) (sig_text_layer recs rec o)) (sym (expr.rolls-Inst t args)) ∙ fold-roll-TypeExpr (List ℕ) (sig_text_layer recs rec o) (TypeExpr-F.Inst t args)

  pub text_array : (e : TypeExpr) → sig_text recs rec o (expr.Array e) ≡ sig_text recs rec o e ++ codes "[]"
  unfolding sig_text
  text_array e = ap (fold-TypeExpr (List ℕ) (sig_text_layer recs rec o)) (sym (expr.rolls-Array e)) ∙ fold-roll-TypeExpr (List ℕ) (sig_text_layer recs rec o) (TypeExpr-F.Array e)

  pub text_by_ref : (e : TypeExpr) → sig_text recs rec o (expr.ByRef e) ≡ sig_text recs rec o e ++ codes "&"
  unfolding sig_text
  text_by_ref e = ap (fold-TypeExpr (List ℕ) (sig_text_layer recs rec o)) (sym (expr.rolls-ByRef e)) ∙ fold-roll-TypeExpr (List ℕ) (sig_text_layer recs rec o) (TypeExpr-F.ByRef e)

  pub text_var : (n : ℕ) → sig_text recs rec o (expr.Var n) ≡ parameter_name rec o.type n
  unfolding sig_text
  text_var n = ap (fold-TypeExpr (List ℕ) (sig_text_layer recs rec o)) (sym (expr.rolls-Var n)) ∙ fold-roll-TypeExpr (List ℕ) (sig_text_layer recs rec o) (TypeExpr-F.Var n)

  pub text_mvar : (n : ℕ) → sig_text recs rec o (expr.MVar n) ≡ parameter_name rec o.method n
  unfolding sig_text
  text_mvar n = ap (fold-TypeExpr (List ℕ) (sig_text_layer recs rec o)) (sym (expr.rolls-MVar n)) ∙ fold-roll-TypeExpr (List ℕ) (sig_text_layer recs rec o) (TypeExpr-F.MVar n)

  pub text_mod : (required : Bool) (by : TypeId) (e : TypeExpr) → sig_text recs rec o (expr.Mod required by e) ≡ sig_text recs rec o e
  unfolding sig_text
  text_mod required by e = ap (fold-TypeExpr (List ℕ) (sig_text_layer recs rec o)) (sym (expr.rolls-Mod required by e)) ∙ fold-roll-TypeExpr (List ℕ) (sig_text_layer recs rec o) (TypeExpr-F.Mod required by e)

module _ (recs : List AsmRec) (rec : AsmRec) (o : Owners) (out : List ℕ) where
  pub put_prim : (n : ℕ) → out ++ sig_text recs rec o (expr.Prim n) ≡ out ++ definition_slashed recs (prim_type recs n)
  put_prim n = rw (text_prim recs rec o n) refl

  pub put_def : (t : TypeId) → out ++ sig_text recs rec o (expr.Def t) ≡ out ++ definition_slashed recs (Some t)
  put_def t = rw (text_def recs rec o t) refl

  pub put_inst : (t : TypeId) (args : List TypeExpr) → out ++ sig_text recs rec o (expr.Inst t args) ≡ (((out ++ definition_slashed recs (Some t)) ++ codes "<") ++ joined (map (sig_text recs rec o) args)) ++ codes ">"
  put_inst t args = rw (text_inst recs rec o t args) (simp append_assoc)

  pub put_array : (e : TypeExpr) → out ++ sig_text recs rec o (expr.Array e) ≡ (out ++ sig_text recs rec o e) ++ codes "[]"
  put_array e = rw (text_array recs rec o e) (simp append_assoc)

  pub put_by_ref : (e : TypeExpr) → out ++ sig_text recs rec o (expr.ByRef e) ≡ (out ++ sig_text recs rec o e) ++ codes "&"
  put_by_ref e = rw (text_by_ref recs rec o e) (simp append_assoc)

  pub put_var : (n : ℕ) → out ++ sig_text recs rec o (expr.Var n) ≡ out ++ parameter_name rec o.type n
  put_var n = rw (text_var recs rec o n) refl

  pub put_mvar : (n : ℕ) → out ++ sig_text recs rec o (expr.MVar n) ≡ out ++ parameter_name rec o.method n
  put_mvar n = rw (text_mvar recs rec o n) refl

  pub put_mod : (required : Bool) (by : TypeId) (e : TypeExpr) → out ++ sig_text recs rec o (expr.Mod required by e) ≡ out ++ sig_text recs rec o e
  put_mod required by e = rw (text_mod recs rec o required by e) refl

  -- a constructed type, put in its parts: `<` is 60 and `>` is 62
  pub inst_put : (t : TypeId) (args passed : List TypeExpr) (e : TypeExpr) (a b c d : List ℕ) → e ≡ expr.Inst t args → a ≡ out ++ definition_slashed recs (Some t) → b ≡ a ++ 60 ∷ [] → passed ≡ args
      → c ≡ b ++ joined (map (sig_text recs rec o) passed) → d ≡ c ++ 62 ∷ [] → d ≡ out ++ sig_text recs rec o e
  inst_put t args passed e a b c d ty p q s r h =
      h
      ∙ ap (λ (x : List ℕ). x ++ 62 ∷ [])
      (r ∙ ap (λ (xs : List TypeExpr). b ++ joined (map (sig_text recs rec o) xs)) s ∙ ap (λ (x : List ℕ). x ++ joined (map (sig_text recs rec o) args)) (q ∙ ap (λ (x : List ℕ). x ++ 60 ∷ []) p))
      ∙ sym (put_inst t args) ∙ ap (λ (x : TypeExpr). out ++ sig_text recs rec o x) (sym ty)

-- what holds where a call succeeds gives what is to hold there
pub on_ok : {A E : Type 0} (P Q : Type 0) (r : Result A E) → (P → Q) → OnOk r P → OnOk r Q
on_ok P Q (Ok x) f p = f p
on_ok P Q (Err e) f p = p

-- texts after others, one level of a type at a time
pub ruleset writing = (put_prim, put_def, put_inst, put_array, put_by_ref, put_var, put_mvar, put_mod)
