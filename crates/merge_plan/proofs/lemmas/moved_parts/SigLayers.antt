-- A signature with new tokens, by its outermost construct.
use Rattle.std.proofs.Common.{◌≡◌, ℕ, Bool, List, map, sym, ap, ◌∙◌}
use Rattle.il_base.specs.declared.sig.Sig.{Sig, fold-Sig, fold-roll-Sig}
use Rattle.il_base.specs.declared.sig.Sig.TheOpen.{Sig-F}
use Rattle.il_base.specs.declared.sig.Sig.TheVariants as sig
use Rattle.merge_plan.specs.declared.moved_parts.tokens.NewTokens.{NewTokens}
use Rattle.merge_plan.specs.moved_parts.Moves.{new_token, sig_layer, sig_by}

module _ (t : NewTokens) where
  pub by_prim : (n : ℕ) → sig_by t (sig.Prim n) ≡ sig.Prim n
  unfolding sig_by
  by_prim n = ap (fold-Sig Sig (sig_layer t)) (sym (sig.rolls-Prim n)) ∙ fold-roll-Sig Sig (sig_layer t) (Sig-F.Prim n)

  pub by_named : (value : Bool) (token : ℕ) → sig_by t (sig.Named value token) ≡ sig.Named value (new_token t.classes token)
  unfolding sig_by
  by_named value token = ap (fold-Sig Sig (sig_layer t)) (sym (sig.rolls-Named value token)) ∙ fold-roll-Sig Sig (sig_layer t) (Sig-F.Named value token)

  pub by_array : (s : Sig) → sig_by t (sig.Array s) ≡ sig.Array (sig_by t s)
  unfolding sig_by
  by_array s = ap (fold-Sig Sig (sig_layer t)) (sym (sig.rolls-Array s)) ∙ fold-roll-Sig Sig (sig_layer t) (Sig-F.Array s)

  pub by_by_ref : (s : Sig) → sig_by t (sig.ByRef s) ≡ sig.ByRef (sig_by t s)
  unfolding sig_by
  by_by_ref s = ap (fold-Sig Sig (sig_layer t)) (sym (sig.rolls-ByRef s)) ∙ fold-roll-Sig Sig (sig_layer t) (Sig-F.ByRef s)

  pub by_inst : (value : Bool) (token : ℕ) (args : List Sig) → sig_by t (sig.Inst value token args) ≡ sig.Inst value (new_token t.classes token) (map (sig_by t) args)
  unfolding sig_by
  by_inst value token args = ap (fold-Sig Sig (sig_layer t)) (sym (sig.rolls-Inst value token args)) ∙ fold-roll-Sig Sig (sig_layer t) (Sig-F.Inst value token args)

  pub by_var : (n : ℕ) → sig_by t (sig.Var n) ≡ sig.Var n
  unfolding sig_by
  by_var n = ap (fold-Sig Sig (sig_layer t)) (sym (sig.rolls-Var n)) ∙ fold-roll-Sig Sig (sig_layer t) (Sig-F.Var n)

  pub by_mvar : (n : ℕ) → sig_by t (sig.MVar n) ≡ sig.MVar n
  unfolding sig_by
  by_mvar n = ap (fold-Sig Sig (sig_layer t)) (sym (sig.rolls-MVar n)) ∙ fold-roll-Sig Sig (sig_layer t) (Sig-F.MVar n)

  pub by_mod : (required : Bool) (token : ℕ) (s : Sig) → sig_by t (sig.Mod required token s) ≡ sig.Mod required (new_token t.modifiers token) (sig_by t s)
  unfolding sig_by
  by_mod required token s = ap (fold-Sig Sig (sig_layer t)) (sym (sig.rolls-Mod required token s)) ∙ fold-roll-Sig Sig (sig_layer t) (Sig-F.Mod required token s)

  pub by_pinned : (s : Sig) → sig_by t (sig.Pinned s) ≡ sig.Pinned (sig_by t s)
  unfolding sig_by
  by_pinned s = ap (fold-Sig Sig (sig_layer t)) (sym (sig.rolls-Pinned s)) ∙ fold-roll-Sig Sig (sig_layer t) (Sig-F.Pinned s)

-- one level of a signature at a time
pub ruleset moving = (by_prim, by_named, by_array, by_by_ref, by_inst, by_var, by_mvar, by_mod, by_pinned)
