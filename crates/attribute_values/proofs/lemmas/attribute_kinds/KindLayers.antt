-- The kind of a signature's type, by its outermost construct.
use Rattle.std.proofs.Common.{◌≡◌, ℕ, Bool, List, sym, ap, ◌∙◌}
use Rattle.std.specs.Prelude.{Option, None, ◌&&◌}
use Rattle.std.specs.Option.{option_map}
use Rattle.il_base.specs.declared.sig.Sig.{Sig, roll-Sig, fold-roll-Sig}
use Rattle.il_base.specs.declared.sig.Sig.TheFolds.{map-Sig}
use Rattle.il_base.specs.declared.sig.Sig.TheOpen.{Sig-F}
use Rattle.il_base.specs.declared.sig.Sig.TheVariants as sig
use Rattle.attr_blobs.specs.declared.kind.ParamKind.{ParamKind}
use Rattle.attr_blobs.specs.declared.kind.ParamKind as kind
use Rattle.il_base.specs.declared.world_model.record.AsmRec.{AsmRec}
use Rattle.rules.specs.link_rules.Types.{definition_at}
use Rattle.rules.specs.mark_rules.Attributes.{prim_kind, is_core_ref, kind_of_named, kind_layer, kind_of}

module _ (recs : List AsmRec) (a : ℕ) (rec : AsmRec) where
  of_layer : (x : Sig-F Sig) (s : Sig) → roll-Sig x ≡ s → kind_of recs a rec s ≡ kind_layer recs a rec (map-Sig Sig (Option ParamKind) (kind_of recs a rec) x)
  unfolding kind_of
  of_layer x s e = ap (kind_of recs a rec) (sym e) ∙ fold-roll-Sig (Option ParamKind) (kind_layer recs a rec) x

  pub kind_prim : (n : ℕ) → kind_of recs a rec (sig.Prim n) ≡ prim_kind n
  kind_prim n = of_layer (Sig-F.Prim n) (sig.Prim n) (sig.rolls-Prim n)

  pub kind_named : (value : Bool) (token : ℕ) → kind_of recs a rec (sig.Named value token) ≡ kind_of_named recs (value && is_core_ref rec token) (definition_at recs a rec token)
  kind_named value token = of_layer (Sig-F.Named value token) (sig.Named value token) (sig.rolls-Named value token)

  pub kind_array : (s : Sig) → kind_of recs a rec (sig.Array s) ≡ option_map (λ k. kind.List k) (kind_of recs a rec s)
  kind_array s = of_layer (Sig-F.Array s) (sig.Array s) (sig.rolls-Array s)

  pub kind_by_ref : (s : Sig) → kind_of recs a rec (sig.ByRef s) ≡ None
  kind_by_ref s = of_layer (Sig-F.ByRef s) (sig.ByRef s) (sig.rolls-ByRef s)

  pub kind_inst : (value : Bool) (token : ℕ) (args : List Sig) → kind_of recs a rec (sig.Inst value token args) ≡ None
  kind_inst value token args = of_layer (Sig-F.Inst value token args) (sig.Inst value token args) (sig.rolls-Inst value token args)

  pub kind_var : (n : ℕ) → kind_of recs a rec (sig.Var n) ≡ None
  kind_var n = of_layer (Sig-F.Var n) (sig.Var n) (sig.rolls-Var n)

  pub kind_mvar : (n : ℕ) → kind_of recs a rec (sig.MVar n) ≡ None
  kind_mvar n = of_layer (Sig-F.MVar n) (sig.MVar n) (sig.rolls-MVar n)

  pub kind_mod : (required : Bool) (token : ℕ) (s : Sig) → kind_of recs a rec (sig.Mod required token s) ≡ kind_of recs a rec s
  kind_mod required token s = of_layer (Sig-F.Mod required token s) (sig.Mod required token s) (sig.rolls-Mod required token s)

  pub kind_pinned : (s : Sig) → kind_of recs a rec (sig.Pinned s) ≡ None
  kind_pinned s = of_layer (Sig-F.Pinned s) (sig.Pinned s) (sig.rolls-Pinned s)

-- one level of a signature at a time
pub ruleset kinds = (kind_prim, kind_named, kind_array, kind_by_ref, kind_inst, kind_var, kind_mvar, kind_mod, kind_pinned)
