-- Signatures over the types of the world, and those of the output, are those of the inputs with other tokens.
use Rattle.std.proofs.Common.{◌≡◌, ℕ, List, map, sym, ap, ◌∙◌}
use Rattle.il_base.specs.declared.sig.MethodSig.{MethodSig}
use Rattle.il_base.specs.declared.sig.Sig.{Sig, fold-roll-Sig, roll-Sig}
use Rattle.il_base.specs.declared.sig.Sig.TheFolds.{map-Sig}
use Rattle.il_base.specs.declared.sig.Sig.TheOpen.{Sig-F}
use Rattle.il_base.specs.declared.sig.Sig.TheVariants.{Named, Array, ByRef, Inst, Var, MVar, Mod, Pinned, rolls-Prim, rolls-Named, rolls-Array, rolls-ByRef, rolls-Inst, rolls-Var, rolls-MVar, rolls-Mod, rolls-Pinned}
use Rattle.il_base.specs.declared.sig.Sig.TheVariants as sig
use Rattle.il_base.specs.declared.world_model.record.AsmRec.{AsmRec}
use Rattle.il_base.specs.blob_grammar.Signatures.{levels}
use Rattle.rules.specs.merge_rules.Keys.{class_number, modifier_number, world_layer, world_sig, world_sigs, world_method_sig}
use Rattle.rules.specs.merge_rules.Refs.{Output, number_token, new_sig_layer, new_sig, new_method_sig}
use Rattle.trim_laws.proofs.lemmas.spelled_parts.Shapes.{Shape, RowShape, MethodShape, Changes, changed, row_changed}

module _ (recs : List AsmRec) (a : ℕ) (rec : AsmRec) where
  world_is : (x : Sig-F Sig) (s : Sig) → roll-Sig x ≡ s → world_sig recs a rec s ≡ world_layer recs a rec (map-Sig Sig Sig (world_sig recs a rec) x)
  unfolding world_sig
  world_is x s e = ap (world_sig recs a rec) (sym e) ∙ fold-roll-Sig Sig (world_layer recs a rec) x

  world_changes : Changes (world_sig recs a rec) (class_number recs a rec) (modifier_number recs a rec)
  world_changes = record {
    primitive = λ b. world_is (Sig-F.Prim b) (sig.Prim b) (rolls-Prim b);
    named = λ value token. world_is (Sig-F.Named value token) (Named value token) (rolls-Named value token);
    of_type = λ n. world_is (Sig-F.Var n) (Var n) (rolls-Var n);
    of_method = λ n. world_is (Sig-F.MVar n) (MVar n) (rolls-MVar n);
    vector = λ s. world_is (Sig-F.Array s) (Array s) (rolls-Array s);
    reference = λ s. world_is (Sig-F.ByRef s) (ByRef s) (rolls-ByRef s);
    pinned = λ s. world_is (Sig-F.Pinned s) (Pinned s) (rolls-Pinned s);
    modified = λ required token s. world_is (Sig-F.Mod required token s) (Mod required token s) (rolls-Mod required token s);
    instance = λ value token ss. world_is (Sig-F.Inst value token ss) (Inst value token ss) (rolls-Inst value token ss);
  }

  pub world_shape : (room : ℕ) (s : Sig) → Shape room s → Shape room (world_sig recs a rec s)
  world_shape = changed (world_sig recs a rec) (class_number recs a rec) (modifier_number recs a rec) world_changes

  pub world_row_shape : (ss : List Sig) → RowShape ss → RowShape (world_sigs recs a rec ss)
  world_row_shape = row_changed (world_sig recs a rec) (class_number recs a rec) (modifier_number recs a rec) world_changes

  pub world_method_shape : (s : MethodSig) → MethodShape s → MethodShape (world_method_sig recs a rec s)
  world_method_shape s h = record { generic = h.generic; ret = world_shape levels s.ret h.ret; params = world_row_shape s.params h.params }

module _ (o : Output) where
  new_is : (x : Sig-F Sig) (s : Sig) → roll-Sig x ≡ s → new_sig o s ≡ new_sig_layer o (map-Sig Sig Sig (new_sig o) x)
  unfolding new_sig
  new_is x s e = ap (new_sig o) (sym e) ∙ fold-roll-Sig Sig (new_sig_layer o) x

  new_changes : Changes (new_sig o) (number_token o) (number_token o)
  new_changes = record {
    primitive = λ b. new_is (Sig-F.Prim b) (sig.Prim b) (rolls-Prim b);
    named = λ value token. new_is (Sig-F.Named value token) (Named value token) (rolls-Named value token);
    of_type = λ n. new_is (Sig-F.Var n) (Var n) (rolls-Var n);
    of_method = λ n. new_is (Sig-F.MVar n) (MVar n) (rolls-MVar n);
    vector = λ s. new_is (Sig-F.Array s) (Array s) (rolls-Array s);
    reference = λ s. new_is (Sig-F.ByRef s) (ByRef s) (rolls-ByRef s);
    pinned = λ s. new_is (Sig-F.Pinned s) (Pinned s) (rolls-Pinned s);
    modified = λ required token s. new_is (Sig-F.Mod required token s) (Mod required token s) (rolls-Mod required token s);
    instance = λ value token ss. new_is (Sig-F.Inst value token ss) (Inst value token ss) (rolls-Inst value token ss);
  }

  pub new_shape : (room : ℕ) (s : Sig) → Shape room s → Shape room (new_sig o s)
  new_shape = changed (new_sig o) (number_token o) (number_token o) new_changes

  pub new_row_shape : (ss : List Sig) → RowShape ss → RowShape (map (new_sig o) ss)
  new_row_shape = row_changed (new_sig o) (number_token o) (number_token o) new_changes

  pub new_method_shape : (s : MethodSig) → MethodShape s → MethodShape (new_method_sig o s)
  new_method_shape s h = record { generic = h.generic; ret = new_shape levels s.ret h.ret; params = new_row_shape s.params h.params }
