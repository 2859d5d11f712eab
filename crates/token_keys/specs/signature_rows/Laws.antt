-- Signatures over the types of the world, and those of the output, by maps of tokens and numbers.
use Rattle.std.specs.Prelude.{◌≡◌, ℕ}
use Rattle.il_base.specs.declared.sig.Sig.{Sig}
use Rattle.il_base.specs.declared.sig.MethodSig.{MethodSig}
use Rattle.il_base.specs.declared.world_model.record.AsmRec.{AsmRec}
use Rattle.std.specs.Prelude.{List}
use Rattle.rules.specs.merge_rules.Keys.{class_number, modifier_number, world_sig, world_method_sig}
use Rattle.rules.specs.merge_rules.Refs.{Output, number_token, new_sig, new_method_sig, type_specs, locals_sigs, type_spec_rows, locals_rows}
use Rattle.merge_plan.specs.declared.moved_parts.tokens.NewTokens.{NewTokens}
use Rattle.merge_plan.specs.moved_parts.Moves.{new_token, sig_by, method_sig_by}
use Rattle.token_keys.specs.signature_rows.Rows.{type_specs_by, locals_by}

-- the numbers of the types that the tokens of an assembly name
pub record AreNumbers (recs : List AsmRec) (a : ℕ) (rec : AsmRec) (t : NewTokens) : Type 0 where
  pub classes : (token : ℕ) → new_token t.classes token ≡ class_number recs a rec token
  pub modifiers : (token : ℕ) → new_token t.modifiers token ≡ modifier_number recs a rec token

-- the tokens that the output has for types, by their numbers
pub record AreNumberTokens (o : Output) (t : NewTokens) : Type 0 where
  pub classes : (n : ℕ) → new_token t.classes n ≡ number_token o n
  pub modifiers : (n : ℕ) → new_token t.modifiers n ≡ number_token o n

pub record AreWorlds (recs : List AsmRec) (a : ℕ) (rec : AsmRec) (t : NewTokens) : Type 0 where
  pub sigs : (s : Sig) → sig_by t s ≡ world_sig recs a rec s
  pub methods : (s : MethodSig) → method_sig_by t s ≡ world_method_sig recs a rec s

pub record AreOutputs (o : Output) (t : NewTokens) : Type 0 where
  pub sigs : (s : Sig) → sig_by t s ≡ new_sig o s
  pub methods : (s : MethodSig) → method_sig_by t s ≡ new_method_sig o s

pub record Signatures : Type 0 where
  pub worlds : (recs : List AsmRec) (a : ℕ) (rec : AsmRec) (t : NewTokens) → AreNumbers recs a rec t → AreWorlds recs a rec t
  pub outputs : (o : Output) (t : NewTokens) → AreNumberTokens o t → AreOutputs o t

abbrev pub SignaturesTell : Type 0
SignaturesTell = Signatures

pub record AreRows (o : Output) (t : NewTokens) : Type 0 where
  pub type_specs_are : type_specs_by t (type_specs o.recs o.mets) ≡ type_spec_rows o
  pub locals_are : locals_by t (locals_sigs o.mets) ≡ locals_rows o

abbrev pub RowsTell : Type 0
RowsTell = (o : Output) (t : NewTokens) → AreNumberTokens o t → AreRows o t
