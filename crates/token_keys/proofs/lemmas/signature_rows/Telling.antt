-- A map of tokens makes of a signature what the definitions make of it, one level at a time.
use Rattle.std.proofs.Common.{◌≡◌, ℕ, List, map, refl, ap}
use Rattle.std.proofs.Math.Path.{fun_ext}
use Rattle.il_base.specs.declared.sig.Sig.{Sig, fold-Sig}
use Rattle.il_base.specs.declared.sig.Sig.TheOpen.{Sig-F}
use Rattle.il_base.specs.declared.sig.Sig as sig
use Rattle.il_base.specs.declared.world_model.known.Known.TheVariants.{Good}
use Rattle.il_base.specs.declared.world_model.record.AsmRec.{AsmRec}
use Rattle.rules.specs.merge_rules.Keys.{world_layer, world_sig}
use Rattle.rules.specs.merge_rules.Refs.{Output, new_sig_layer, new_sig, type_specs, locals_sigs, type_spec_rows, locals_rows}
use Rattle.merge_plan.specs.declared.moved_parts.tokens.NewTokens.{NewTokens}
use Rattle.merge_plan.specs.moved_parts.Moves.{sig_layer, sig_by}
use Rattle.token_keys.specs.signature_rows.Rows.{type_specs_by, locals_by}
use Rattle.token_keys.specs.signature_rows.Laws.{AreNumbers, AreNumberTokens, AreWorlds, AreOutputs, Signatures, AreRows}

module _ (recs : List AsmRec) (a : ℕ) (rec : AsmRec) (t : NewTokens) (are : AreNumbers recs a rec t) where
  world_layers : (x : Sig-F Sig) → sig_layer t x ≡ world_layer recs a rec x
  world_layers (Sig-F.Prim n) = refl
  world_layers (Sig-F.Named value token) = ap (λ (n : ℕ). sig.Named value n) (are.classes token)
  world_layers (Sig-F.Array x) = refl
  world_layers (Sig-F.ByRef x) = refl
  world_layers (Sig-F.Inst value token args) = ap (λ (n : ℕ). sig.Inst value n args) (are.classes token)
  world_layers (Sig-F.Var n) = refl
  world_layers (Sig-F.MVar n) = refl
  world_layers (Sig-F.Mod required token x) = ap (λ (n : ℕ). sig.Mod required n x) (are.modifiers token)
  world_layers (Sig-F.Pinned x) = refl

  worlds : sig_by t ≡ world_sig recs a rec
  unfolding sig_by world_sig
  worlds = ap (λ (f : Sig-F Sig → Sig). fold-Sig Sig f) (fun_ext world_layers)

  are_worlds : AreWorlds recs a rec t
  are_worlds = record {
    sigs = λ s i. worlds i s;
    methods = λ s i. record s { ret = worlds i s.ret; params = map (worlds i) s.params };
  }

module _ (o : Output) (t : NewTokens) (are : AreNumberTokens o t) where
  new_layers : (x : Sig-F Sig) → sig_layer t x ≡ new_sig_layer o x
  new_layers (Sig-F.Prim n) = refl
  new_layers (Sig-F.Named value k) = ap (λ (n : ℕ). sig.Named value n) (are.classes k)
  new_layers (Sig-F.Array x) = refl
  new_layers (Sig-F.ByRef x) = refl
  new_layers (Sig-F.Inst value k args) = ap (λ (n : ℕ). sig.Inst value n args) (are.classes k)
  new_layers (Sig-F.Var n) = refl
  new_layers (Sig-F.MVar n) = refl
  new_layers (Sig-F.Mod required k x) = ap (λ (n : ℕ). sig.Mod required n x) (are.modifiers k)
  new_layers (Sig-F.Pinned x) = refl

  outputs : sig_by t ≡ new_sig o
  unfolding sig_by new_sig
  outputs = ap (λ (f : Sig-F Sig → Sig). fold-Sig Sig f) (fun_ext new_layers)

  are_outputs : AreOutputs o t
  are_outputs = record {
    sigs = λ s i. outputs i s;
    methods = λ s i. record s { ret = outputs i s.ret; params = map (outputs i) s.params };
  }

  specs_are : type_specs_by t (type_specs o.recs o.mets) ≡ type_spec_rows o
  unfolding type_spec_rows
  specs_are = λ i. map (λ (s : Sig). record { signature = Good (outputs i s) }) (type_specs o.recs o.mets)

  locals_are : locals_by t (locals_sigs o.mets) ≡ locals_rows o
  unfolding locals_rows
  locals_are = λ i. map (λ (ss : List Sig). record { signature = Good (map (outputs i) ss) }) (locals_sigs o.mets)

  pub rows_are : AreRows o t
  rows_are = record { type_specs_are = specs_are; locals_are = locals_are }

pub signatures : Signatures
signatures = record { worlds = are_worlds; outputs = are_outputs }
