-- The written bytes of a type by its outermost construct.
use Rattle.std.proofs.Common.{◌≡◌, ℕ, Bool, List, [], ◌∷◌, ◌++◌, length, map, refl, sym, ap, ◌∙◌, append_assoc}
use Rattle.std.specs.List.{concat, flat_map}
use Rattle.std.proofs.lemmas.List.{length-map, append-nil}
use Rattle.std.proofs.lemmas.List.Concat.{flat_map-cons}
use Rattle.il_base.specs.declared.sig.Sig.{Sig, fold-Sig, fold-roll-Sig}
use Rattle.il_base.specs.declared.sig.Sig.TheOpen.{Sig-F}
use Rattle.il_base.specs.declared.sig.Sig.TheVariants.{Named, Array, ByRef, Inst, Var, MVar, Mod, Pinned, rolls-Prim, rolls-Named, rolls-Array, rolls-ByRef, rolls-Inst, rolls-Var, rolls-MVar, rolls-Mod, rolls-Pinned}
use Rattle.il_base.specs.declared.sig.Sig.TheVariants as sig
use Rattle.il_base.specs.blob_grammar.Numbers.{shortest}
use Rattle.il_base.specs.blob_grammar.Tokens.{token_bytes}
use Rattle.il_base.specs.blob_grammar.Signatures.{class_byte, modifier_byte, layer_bytes, type_bytes, types_bytes}
use Rattle.sig_blobs.specs.Answers.{Extends}

-- the written bytes of each type

pub bytes_primitive : (b : ℕ) → type_bytes (sig.Prim b) ≡ b ∷ []
unfolding type_bytes
bytes_primitive b = ap (fold-Sig (List ℕ) layer_bytes) (sym (rolls-Prim b)) ∙ fold-roll-Sig (List ℕ) layer_bytes (Sig-F.Prim b)

pub bytes_named : (value : Bool) (token : ℕ) → type_bytes (Named value token) ≡ class_byte value ∷ token_bytes token
unfolding type_bytes
bytes_named value token = ap (fold-Sig (List ℕ) layer_bytes) (sym (rolls-Named value token)) ∙ fold-roll-Sig (List ℕ) layer_bytes (Sig-F.Named value token)

pub bytes_var : (n : ℕ) → type_bytes (Var n) ≡ 19 ∷ shortest n
unfolding type_bytes
bytes_var n = ap (fold-Sig (List ℕ) layer_bytes) (sym (rolls-Var n)) ∙ fold-roll-Sig (List ℕ) layer_bytes (Sig-F.Var n)

pub bytes_mvar : (n : ℕ) → type_bytes (MVar n) ≡ 30 ∷ shortest n
unfolding type_bytes
bytes_mvar n = ap (fold-Sig (List ℕ) layer_bytes) (sym (rolls-MVar n)) ∙ fold-roll-Sig (List ℕ) layer_bytes (Sig-F.MVar n)

pub bytes_vector : (s : Sig) → type_bytes (Array s) ≡ 29 ∷ type_bytes s
unfolding type_bytes
bytes_vector s = ap (fold-Sig (List ℕ) layer_bytes) (sym (rolls-Array s)) ∙ fold-roll-Sig (List ℕ) layer_bytes (Sig-F.Array s)

pub bytes_reference : (s : Sig) → type_bytes (ByRef s) ≡ 16 ∷ type_bytes s
unfolding type_bytes
bytes_reference s = ap (fold-Sig (List ℕ) layer_bytes) (sym (rolls-ByRef s)) ∙ fold-roll-Sig (List ℕ) layer_bytes (Sig-F.ByRef s)

pub bytes_pinned : (s : Sig) → type_bytes (Pinned s) ≡ 69 ∷ type_bytes s
unfolding type_bytes
bytes_pinned s = ap (fold-Sig (List ℕ) layer_bytes) (sym (rolls-Pinned s)) ∙ fold-roll-Sig (List ℕ) layer_bytes (Sig-F.Pinned s)

pub bytes_modified : (required : Bool) (token : ℕ) (s : Sig) → type_bytes (Mod required token s) ≡ modifier_byte required ∷ (token_bytes token ++ type_bytes s)
unfolding type_bytes
bytes_modified required token s = ap (fold-Sig (List ℕ) layer_bytes) (sym (rolls-Mod required token s)) ∙ fold-roll-Sig (List ℕ) layer_bytes (Sig-F.Mod required token s)

joined : (f : Sig → List ℕ) (ss : List Sig) → concat (map f ss) ≡ flat_map f ss
joined f [] = refl
joined f (s ∷ ss) = ap (λ (x : List ℕ). f s ++ x) (joined f ss) ∙ sym (flat_map-cons f s ss)

pub bytes_instance : (value : Bool) (token : ℕ) (ss : List Sig) → type_bytes (Inst value token ss) ≡ 21 ∷ class_byte value ∷ (token_bytes token ++ shortest (length ss) ++ types_bytes ss)
unfolding type_bytes types_bytes
bytes_instance value token ss = ap (fold-Sig (List ℕ) layer_bytes) (sym (rolls-Inst value token ss)) ∙ fold-roll-Sig (List ℕ) layer_bytes (Sig-F.Inst value token ss)
    ∙ rw length-map (ap (λ (x : List ℕ). 21 ∷ class_byte value ∷ (token_bytes token ++ shortest (length ss) ++ x)) (joined (fold-Sig (List ℕ) layer_bytes) ss))

-- ---- what a write leaves that fails on the way

pub extends_same : (old new : List ℕ) → new ≡ old → Extends old new
extends_same old new e = record { more = []; is_behind = e ∙ sym (append-nil old) }

pub extends_behind : (old front middle new : List ℕ) → middle ≡ old ++ front → Extends middle new → Extends old new
extends_behind old front middle new e h = record { more = front ++ h.more; is_behind = h.is_behind ∙ ap (λ (l : List ℕ). l ++ h.more) e ∙ append_assoc old front h.more }
