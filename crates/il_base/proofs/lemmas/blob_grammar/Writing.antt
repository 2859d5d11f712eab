-- The spelling that is written is one of the value's spellings.
use Rattle.std.proofs.Common.{◌≡◌, ℕ, Bool, List, [], ◌∷◌, ◌++◌, length, map, refl, sym, ap, ◌∙◌}
use Rattle.std.specs.List.{concat, flat_map}
use Rattle.std.proofs.lemmas.List.Concat.{flat_map-cons}
use Rattle.il_base.specs.declared.sig.Sig.{Sig, fold-Sig, fold-roll-Sig}
use Rattle.il_base.specs.declared.sig.Sig.TheOpen.{Sig-F}
use Rattle.il_base.specs.declared.sig.Sig.TheVariants.{Named, Array, ByRef, Inst, Var, MVar, Mod, Pinned, rolls-Prim, rolls-Named, rolls-Array, rolls-ByRef, rolls-Inst, rolls-Var, rolls-MVar, rolls-Mod, rolls-Pinned}
use Rattle.il_base.specs.declared.sig.Sig.TheVariants as sig
use Rattle.il_base.specs.blob_grammar.Numbers.{IsNumber, shortest}
use Rattle.il_base.specs.blob_grammar.Tokens.{token_bytes}
use Rattle.il_base.specs.blob_grammar.Signatures.{class_byte, modifier_byte, layer_bytes, type_bytes, types_bytes, IsType, AreTypes, primitive, named, of_type, of_method, vector, reference, pinned, modified, instance, none, more}
use Rattle.std.proofs.lemmas.List.{length-map}
use Rattle.il_base.proofs.lemmas.blob_grammar.Numbers.{number_small, is_shortest}
use Rattle.il_base.proofs.lemmas.blob_grammar.Tokens.{token_is_shortest}

-- the written bytes of each type

pub bytes_primitive : (b : ℕ) → type_bytes (sig.Prim b) ≡ b ∷ []
unfolding type_bytes
bytes_primitive b = ap (fold-Sig (List ℕ) layer_bytes) (sym (rolls-Prim b)) ∙ fold-roll-Sig (List ℕ) layer_bytes (Sig-F.Prim b)

pub bytes_named : (value : Bool) (token : ℕ) → type_bytes (Named value token) ≡ class_byte value ∷ token_bytes token
unfolding type_bytes
bytes_named value token = ap (fold-Sig (List ℕ) layer_bytes) (sym (rolls-Named value token)) ∙ fold-roll-Sig (List ℕ) layer_bytes (Sig-F.Named value token)

pub bytes_var : (n : ℕ) → type_bytes (Var n) ≡ 19 ∷ shortest n
unfolding type_bytes
bytes_var n = ap (fold-Sig (List ℕ) layer_bytes) (sym (rolls-Var n)) ∙ fold-roll-Sig (List ℕ) layer_bytes (Sig-F.Var n)

pub bytes_mvar : (n : ℕ) → type_bytes (MVar n) ≡ 30 ∷ shortest n
unfolding type_bytes
bytes_mvar n = ap (fold-Sig (List ℕ) layer_bytes) (sym (rolls-MVar n)) ∙ fold-roll-Sig (List ℕ) layer_bytes (Sig-F.MVar n)

pub bytes_vector : (s : Sig) → type_bytes (Array s) ≡ 29 ∷ type_bytes s
unfolding type_bytes
bytes_vector s = ap (fold-Sig (List ℕ) layer_bytes) (sym (rolls-Array s)) ∙ fold-roll-Sig (List ℕ) layer_bytes (Sig-F.Array s)

pub bytes_reference : (s : Sig) → type_bytes (ByRef s) ≡ 16 ∷ type_bytes s
unfolding type_bytes
bytes_reference s = ap (fold-Sig (List ℕ) layer_bytes) (sym (rolls-ByRef s)) ∙ fold-roll-Sig (List ℕ) layer_bytes (Sig-F.ByRef s)

pub bytes_pinned : (s : Sig) → type_bytes (Pinned s) ≡ 69 ∷ type_bytes s
unfolding type_bytes
bytes_pinned s = ap (fold-Sig (List ℕ) layer_bytes) (sym (rolls-Pinned s)) ∙ fold-roll-Sig (List ℕ) layer_bytes (Sig-F.Pinned s)

pub bytes_modified : (required : Bool) (token : ℕ) (s : Sig) → type_bytes (Mod required token s) ≡ modifier_byte required ∷ (token_bytes token ++ type_bytes s)
unfolding type_bytes
bytes_modified required token s = ap (fold-Sig (List ℕ) layer_bytes) (sym (rolls-Mod required token s)) ∙ fold-roll-Sig (List ℕ) layer_bytes (Sig-F.Mod required token s)

joined : (f : Sig → List ℕ) (ss : List Sig) → concat (map f ss) ≡ flat_map f ss
joined f [] = refl
joined f (s ∷ ss) = ap (λ (x : List ℕ). f s ++ x) (joined f ss) ∙ sym (flat_map-cons f s ss)

pub bytes_instance : (value : Bool) (token : ℕ) (ss : List Sig) → type_bytes (Inst value token ss) ≡ 21 ∷ class_byte value ∷ (token_bytes token ++ shortest (length ss) ++ types_bytes ss)
unfolding type_bytes types_bytes
bytes_instance value token ss = ap (fold-Sig (List ℕ) layer_bytes) (sym (rolls-Inst value token ss)) ∙ fold-roll-Sig (List ℕ) layer_bytes (Sig-F.Inst value token ss)
    ∙ rw length-map (ap (λ (x : List ℕ). 21 ∷ class_byte value ∷ (token_bytes token ++ shortest (length ss) ++ x)) (joined (fold-Sig (List ℕ) layer_bytes) ss))

bytes_more : (s : Sig) (ss : List Sig) → types_bytes (s ∷ ss) ≡ type_bytes s ++ types_bytes ss
unfolding types_bytes
bytes_more s ss = flat_map-cons type_bytes s ss

bytes_none : types_bytes [] ≡ []
unfolding types_bytes
bytes_none = refl

pub number_written : (n : ℕ) (bs : List ℕ) → IsNumber n bs → IsNumber n (shortest n)
number_written n bs h = is_shortest n (number_small n bs h)

mutual
  pub type_written : (room : ℕ) (s : Sig) (bs : List ℕ) → IsType room s bs → IsType room s (type_bytes s)
  type_written _ _ _ (primitive room b h) = rw (bytes_primitive b) (primitive room b h)
  type_written _ _ _ (named room value token bs h) = rw (bytes_named value token) (named room value token (token_bytes token) (token_is_shortest token bs h))
  type_written _ _ _ (of_type room n bs h) = rw (bytes_var n) (of_type room n (shortest n) (number_written n bs h))
  type_written _ _ _ (of_method room n bs h) = rw (bytes_mvar n) (of_method room n (shortest n) (number_written n bs h))
  type_written _ _ _ (vector room s bs h) = rw (bytes_vector s) (vector room s (type_bytes s) (type_written room s bs h))
  type_written _ _ _ (reference room s bs h) = rw (bytes_reference s) (reference room s (type_bytes s) (type_written room s bs h))
  type_written _ _ _ (pinned room s bs h) = rw (bytes_pinned s) (pinned room s (type_bytes s) (type_written room s bs h))
  type_written _ _ _ (modified room required token s ts bs t h) =
      rw (bytes_modified required token s) (modified room required token s (token_bytes token) (type_bytes s) (token_is_shortest token ts t) (type_written room s bs h))
  type_written _ _ _ (instance room value token ss ts ns bs t n h) =
      rw (bytes_instance value token ss) (instance room value token ss (token_bytes token) (shortest (length ss)) (types_bytes ss) (token_is_shortest token ts t) (number_written (length ss) ns n) (types_written room ss bs h))

  pub types_written : (room : ℕ) (ss : List Sig) (bs : List ℕ) → AreTypes room ss bs → AreTypes room ss (types_bytes ss)
  types_written _ _ _ (none room) = rw bytes_none (none room)
  types_written _ _ _ (more room s ss front bs h k) = rw (bytes_more s ss) (more room s ss (type_bytes s) (types_bytes ss) (type_written room s front h) (types_written room ss bs k))
