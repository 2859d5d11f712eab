-- Types that have a spelling but for what their tokens name; other tokens keep that.
use Rattle.std.proofs.Common.{◌≡◌, ℕ, suc, Bool, true, List, [], ◌∷◌, ◌++◌, length, map, refl, sym, ap, subst, ◌∙◌, arith}
use Rattle.std.specs.List.{flat_map}
use Rattle.std.proofs.lemmas.List.{length-map}
use Rattle.std.proofs.lemmas.List.Elements.{Contains-append_left, Contains-append_right}
use Rattle.il_base.specs.declared.sig.MethodSig.{MethodSig}
use Rattle.il_base.specs.declared.sig.Sig.{Sig, fold-Sig, fold-roll-Sig}
use Rattle.il_base.specs.declared.sig.Sig.TheOpen.{Sig-F}
use Rattle.il_base.specs.declared.sig.Sig.TheVariants.{Named, Array, ByRef, Inst, Var, MVar, Mod, Pinned, rolls-Named, rolls-Array, rolls-ByRef, rolls-Inst, rolls-Mod, rolls-Pinned}
use Rattle.il_base.specs.declared.sig.Sig.TheVariants as sig
use Rattle.il_base.specs.blob_grammar.Signatures.{is_primitive, levels}
use Rattle.il_base.specs.blob_grammar.Values.{IsTypeToken, FitsNumber, FitsType, FitTypes, FitRow, FitsMethod, FitsProperty}
use Rattle.il_base.specs.blob_grammar.Values as v
use Rattle.rules.specs.merge_rules.Refs.{numbers_layer, numbers_in}
use Rattle.trim_laws.specs.spelled_parts.Laws.{AreTypeTokens, tokens_in, tokens_of_method}

-- ---- the shape of a type

mutual
  pub data Shape : ℕ → Sig → Type 0 where
    primitive : (room b : ℕ) → is_primitive b ≡ true → Shape room (sig.Prim b)
    named : (room : ℕ) (value : Bool) (token : ℕ) → Shape room (Named value token)
    of_type : (room n : ℕ) → FitsNumber n → Shape room (Var n)
    of_method : (room n : ℕ) → FitsNumber n → Shape room (MVar n)
    vector : (room : ℕ) (s : Sig) → Shape room s → Shape (suc room) (Array s)
    reference : (room : ℕ) (s : Sig) → Shape room s → Shape (suc room) (ByRef s)
    pinned : (room : ℕ) (s : Sig) → Shape room s → Shape (suc room) (Pinned s)
    modified : (room : ℕ) (required : Bool) (token : ℕ) (s : Sig) → Shape room s → Shape (suc room) (Mod required token s)
    instance : (room : ℕ) (value : Bool) (token : ℕ) (ss : List Sig) → FitsNumber (length ss) → Shapes room ss → Shape (suc room) (Inst value token ss)

  pub data Shapes : ℕ → List Sig → Type 0 where
    none : (room : ℕ) → Shapes room []
    more : (room : ℕ) (s : Sig) (ss : List Sig) → Shape room s → Shapes room ss → Shapes room (s ∷ ss)

pub record RowShape (ss : List Sig) : Type 0 where
  pub count : FitsNumber (length ss)
  pub each : Shapes levels ss

pub record MethodShape (m : MethodSig) : Type 0 where
  pub generic : FitsNumber m.generic
  pub ret : Shape levels m.ret
  pub params : RowShape m.params

-- ---- what fits has the shape

mutual
  pub type_shape : (room : ℕ) (s : Sig) → FitsType room s → Shape room s
  type_shape _ _ (v.primitive room b h) = primitive room b h
  type_shape _ _ (v.named room value token h) = named room value token
  type_shape _ _ (v.of_type room n h) = of_type room n h
  type_shape _ _ (v.of_method room n h) = of_method room n h
  type_shape _ _ (v.vector room s h) = vector room s (type_shape room s h)
  type_shape _ _ (v.reference room s h) = reference room s (type_shape room s h)
  type_shape _ _ (v.pinned room s h) = pinned room s (type_shape room s h)
  type_shape _ _ (v.modified room required token s k h) = modified room required token s (type_shape room s h)
  type_shape _ _ (v.instance room value token ss k n h) = instance room value token ss n (types_shape room ss h)

  pub types_shape : (room : ℕ) (ss : List Sig) → FitTypes room ss → Shapes room ss
  types_shape _ _ (v.none room) = none room
  types_shape _ _ (v.more room s ss h k) = more room s ss (type_shape room s h) (types_shape room ss k)

pub row_shape : (ss : List Sig) → FitRow ss → RowShape ss
row_shape ss h = record { count = h.count; each = types_shape levels ss h.each }

pub method_shape : (m : MethodSig) → FitsMethod m → MethodShape m
method_shape m h = record { generic = h.generic; ret = type_shape levels m.ret h.ret; params = row_shape m.params h.params }

-- ---- and so does what has it, where each token is of a type

numbers_named : (value : Bool) (token : ℕ) → numbers_in (Named value token) ≡ token ∷ []
unfolding numbers_in
numbers_named value token = ap (fold-Sig (List ℕ) numbers_layer) (sym (rolls-Named value token)) ∙ fold-roll-Sig (List ℕ) numbers_layer (Sig-F.Named value token)

numbers_vector : (s : Sig) → numbers_in (Array s) ≡ numbers_in s
unfolding numbers_in
numbers_vector s = ap (fold-Sig (List ℕ) numbers_layer) (sym (rolls-Array s)) ∙ fold-roll-Sig (List ℕ) numbers_layer (Sig-F.Array s)

numbers_reference : (s : Sig) → numbers_in (ByRef s) ≡ numbers_in s
unfolding numbers_in
numbers_reference s = ap (fold-Sig (List ℕ) numbers_layer) (sym (rolls-ByRef s)) ∙ fold-roll-Sig (List ℕ) numbers_layer (Sig-F.ByRef s)

numbers_pinned : (s : Sig) → numbers_in (Pinned s) ≡ numbers_in s
unfolding numbers_in
numbers_pinned s = ap (fold-Sig (List ℕ) numbers_layer) (sym (rolls-Pinned s)) ∙ fold-roll-Sig (List ℕ) numbers_layer (Sig-F.Pinned s)

numbers_modified : (required : Bool) (token : ℕ) (s : Sig) → numbers_in (Mod required token s) ≡ token ∷ numbers_in s
unfolding numbers_in
numbers_modified required token s = ap (fold-Sig (List ℕ) numbers_layer) (sym (rolls-Mod required token s)) ∙ fold-roll-Sig (List ℕ) numbers_layer (Sig-F.Mod required token s)

joined : (ss : List Sig) → flat_map (λ (ns : List ℕ). ns) (map numbers_in ss) ≡ flat_map numbers_in ss
joined [] = refl
joined (s ∷ ss) = ap (λ (ns : List ℕ). numbers_in s ++ ns) (joined ss)

numbers_instance : (value : Bool) (token : ℕ) (ss : List Sig) → numbers_in (Inst value token ss) ≡ token ∷ tokens_in ss
unfolding numbers_in
numbers_instance value token ss =
    ap (fold-Sig (List ℕ) numbers_layer) (sym (rolls-Inst value token ss)) ∙ fold-roll-Sig (List ℕ) numbers_layer (Sig-F.Inst value token ss) ∙ ap (λ (ns : List ℕ). token ∷ ns) (joined ss)

first_of : (n : ℕ) (ns : List ℕ) → AreTypeTokens (n ∷ ns) → IsTypeToken n
first_of n ns h = h n (0, omega arith, refl)

rest_of : (n : ℕ) (ns : List ℕ) → AreTypeTokens (n ∷ ns) → AreTypeTokens ns
rest_of n ns h = λ m c. h m (suc c.0, let lt = c.1 in omega (arith, lt), c.2)

left_of : (ns ms : List ℕ) → AreTypeTokens (ns ++ ms) → AreTypeTokens ns
left_of ns ms h = λ n c. h n (Contains-append_left ns ms n c)

right_of : (ns ms : List ℕ) → AreTypeTokens (ns ++ ms) → AreTypeTokens ms
right_of ns ms h = λ n c. h n (Contains-append_right ns ms n c)

mutual
  pub type_fits : (room : ℕ) (s : Sig) → Shape room s → AreTypeTokens (numbers_in s) → FitsType room s
  type_fits _ _ (primitive room b h) t = v.primitive room b h
  type_fits _ _ (named room value token) t = v.named room value token (first_of token [] (subst AreTypeTokens (numbers_named value token) t))
  type_fits _ _ (of_type room n h) t = v.of_type room n h
  type_fits _ _ (of_method room n h) t = v.of_method room n h
  type_fits _ _ (vector room s h) t = v.vector room s (type_fits room s h (subst AreTypeTokens (numbers_vector s) t))
  type_fits _ _ (reference room s h) t = v.reference room s (type_fits room s h (subst AreTypeTokens (numbers_reference s) t))
  type_fits _ _ (pinned room s h) t = v.pinned room s (type_fits room s h (subst AreTypeTokens (numbers_pinned s) t))
  type_fits _ _ (modified room required token s h) t =
      let u : AreTypeTokens (token ∷ numbers_in s) = subst AreTypeTokens (numbers_modified required token s) t in
      v.modified room required token s (first_of token (numbers_in s) u) (type_fits room s h (rest_of token (numbers_in s) u))
  type_fits _ _ (instance room value token ss n h) t =
      let u : AreTypeTokens (token ∷ tokens_in ss) = subst AreTypeTokens (numbers_instance value token ss) t in
      v.instance room value token ss (first_of token (tokens_in ss) u) n (types_fit room ss h (rest_of token (tokens_in ss) u))

  pub types_fit : (room : ℕ) (ss : List Sig) → Shapes room ss → AreTypeTokens (tokens_in ss) → FitTypes room ss
  types_fit _ _ (none room) t = v.none room
  types_fit _ _ (more room s ss h k) t =
      v.more room s ss (type_fits room s h (left_of (numbers_in s) (tokens_in ss) t)) (types_fit room ss k (right_of (numbers_in s) (tokens_in ss) t))

pub row_fits : (ss : List Sig) → RowShape ss → AreTypeTokens (tokens_in ss) → FitRow ss
row_fits ss h t = record { count = h.count; each = types_fit levels ss h.each t }

pub method_fits : (m : MethodSig) → MethodShape m → AreTypeTokens (tokens_of_method m) → FitsMethod m
method_fits m h t = record {
  generic = h.generic;
  ret = type_fits levels m.ret h.ret (left_of (numbers_in m.ret) (tokens_in m.params) t);
  params = row_fits m.params h.params (right_of (numbers_in m.ret) (tokens_in m.params) t);
}

pub property_fits : (m : MethodSig) → m.generic ≡ 0 → MethodShape m → AreTypeTokens (tokens_of_method m) → FitsProperty m
property_fits m plain h t = let all = method_fits m h t in record { generic = plain; ret = all.ret; params = all.params }

-- ---- other tokens in the same types

-- a type with other tokens of classes and of modifiers
pub record Changes (f : Sig → Sig) (class modifier : ℕ → ℕ) : Type 0 where
  pub primitive : (b : ℕ) → f (sig.Prim b) ≡ sig.Prim b
  pub named : (value : Bool) (token : ℕ) → f (Named value token) ≡ Named value (class token)
  pub of_type : (n : ℕ) → f (Var n) ≡ Var n
  pub of_method : (n : ℕ) → f (MVar n) ≡ MVar n
  pub vector : (s : Sig) → f (Array s) ≡ Array (f s)
  pub reference : (s : Sig) → f (ByRef s) ≡ ByRef (f s)
  pub pinned : (s : Sig) → f (Pinned s) ≡ Pinned (f s)
  pub modified : (required : Bool) (token : ℕ) (s : Sig) → f (Mod required token s) ≡ Mod required (modifier token) (f s)
  pub instance : (value : Bool) (token : ℕ) (ss : List Sig) → f (Inst value token ss) ≡ Inst value (class token) (map f ss)

module _ (f : Sig → Sig) (class modifier : ℕ → ℕ) (c : Changes f class modifier) where
  mutual
    pub changed : (room : ℕ) (s : Sig) → Shape room s → Shape room (f s)
    changed _ _ (primitive room b h) = subst (Shape room) (sym (c.primitive b)) (primitive room b h)
    changed _ _ (named room value token) = subst (Shape room) (sym (c.named value token)) (named room value (class token))
    changed _ _ (of_type room n h) = subst (Shape room) (sym (c.of_type n)) (of_type room n h)
    changed _ _ (of_method room n h) = subst (Shape room) (sym (c.of_method n)) (of_method room n h)
    changed _ _ (vector room s h) = subst (Shape (suc room)) (sym (c.vector s)) (vector room (f s) (changed room s h))
    changed _ _ (reference room s h) = subst (Shape (suc room)) (sym (c.reference s)) (reference room (f s) (changed room s h))
    changed _ _ (pinned room s h) = subst (Shape (suc room)) (sym (c.pinned s)) (pinned room (f s) (changed room s h))
    changed _ _ (modified room required token s h) = subst (Shape (suc room)) (sym (c.modified required token s)) (modified room required (modifier token) (f s) (changed room s h))
    changed _ _ (instance room value token ss n h) =
        subst (Shape (suc room)) (sym (c.instance value token ss)) (instance room value (class token) (map f ss) (subst FitsNumber (sym (length-map ss f)) n) (all_changed room ss h))

    pub all_changed : (room : ℕ) (ss : List Sig) → Shapes room ss → Shapes room (map f ss)
    all_changed _ _ (none room) = none room
    all_changed _ _ (more room s ss h k) = more room (f s) (map f ss) (changed room s h) (all_changed room ss k)

  pub row_changed : (ss : List Sig) → RowShape ss → RowShape (map f ss)
  row_changed ss h = record { count = subst FitsNumber (sym (length-map ss f)) h.count; each = all_changed levels ss h.each }
