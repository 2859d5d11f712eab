-- A value has a spelling exactly where it fits.
use Rattle.std.proofs.Common.{◌≡◌, ℕ, zero, suc, ◌+◌, ◌*◌, ◌/◌, ◌%◌, ◌<◌, inl, inr, List, [], ◌∷◌, ◌++◌, length, refl, sym, subst, arith}
use Rattle.il_base.specs.declared.sig.MethodSig.{MethodSig}
use Rattle.il_base.specs.declared.sig.Sig.{Sig}
use Rattle.il_base.specs.blob_grammar.Laws.{IsSpelled}
use Rattle.il_base.specs.blob_grammar.Numbers.{IsNumber, shortest}
use Rattle.il_base.specs.blob_grammar.Tokens.{IsToken, coded, table_of}
use Rattle.il_base.specs.blob_grammar.Signatures.{levels, class_byte, modifier_byte, generic_byte, property_byte, IsType, AreTypes, AreParts, IsMethod, IsProperty, IsField, AreCounted}
use Rattle.il_base.specs.blob_grammar.Signatures as s
use Rattle.il_base.specs.blob_grammar.Values.{IsTypeToken, FitsType, FitTypes, FitRow, FitsMethod, FitsProperty}
use Rattle.il_base.specs.blob_grammar.Values as v
use Rattle.il_base.proofs.lemmas.blob_grammar.Numbers.{number_small, is_shortest}

-- ---- tokens

table_fits : (tag token : ℕ) → tag < 3 → token / 16777216 ≡ table_of tag → IsTypeToken token
table_fits zero token lt e = inl e
table_fits (suc zero) token lt e = inr (inl e)
table_fits (suc (suc zero)) token lt e = inr (inr e)
table_fits (suc (suc (suc tag))) token lt e = absurd (omega arith)

token_fits : (token : ℕ) (bs : List ℕ) → IsToken token bs → IsTypeToken token
token_fits _ _ (coded row tag bs few lt number) = table_fits tag (table_of tag * 16777216 + row) lt (omega arith)

token_of : (row tag token : ℕ) → row < 16777216 → tag < 3 → table_of tag * 16777216 + row ≡ token → IsSpelled IsToken token
token_of row tag token few lt e =
    (shortest (row * 4 + tag), subst (λ (t : ℕ). IsToken t (shortest (row * 4 + tag))) e (coded row tag (shortest (row * 4 + tag)) few lt (is_shortest (row * 4 + tag) (omega arith))))

token_spelled : (token : ℕ) → IsTypeToken token → IsSpelled IsToken token
token_spelled token (inl e) = token_of (token % 16777216) 0 token (omega arith) (omega arith) (omega arith)
token_spelled token (inr (inl e)) = token_of (token % 16777216) 1 token (omega arith) (omega arith) (omega arith)
token_spelled token (inr (inr e)) = token_of (token % 16777216) 2 token (omega arith) (omega arith) (omega arith)

-- ---- types

mutual
  pub type_fits : (room : ℕ) (s : Sig) (bs : List ℕ) → IsType room s bs → FitsType room s
  type_fits _ _ _ (s.primitive room b h) = v.primitive room b h
  type_fits _ _ _ (s.named room value token bs h) = v.named room value token (token_fits token bs h)
  type_fits _ _ _ (s.of_type room n bs h) = v.of_type room n (number_small n bs h)
  type_fits _ _ _ (s.of_method room n bs h) = v.of_method room n (number_small n bs h)
  type_fits _ _ _ (s.vector room t bs h) = v.vector room t (type_fits room t bs h)
  type_fits _ _ _ (s.reference room t bs h) = v.reference room t (type_fits room t bs h)
  type_fits _ _ _ (s.pinned room t bs h) = v.pinned room t (type_fits room t bs h)
  type_fits _ _ _ (s.modified room required token t ts bs k h) = v.modified room required token t (token_fits token ts k) (type_fits room t bs h)
  type_fits _ _ _ (s.instance room value token ss ts ns bs k n h) = v.instance room value token ss (token_fits token ts k) (number_small (length ss) ns n) (types_fit room ss bs h)

  pub types_fit : (room : ℕ) (ss : List Sig) (bs : List ℕ) → AreTypes room ss bs → FitTypes room ss
  types_fit _ _ _ (s.none room) = v.none room
  types_fit _ _ _ (s.more room t ss front bs h k) = v.more room t ss (type_fits room t front h) (types_fit room ss bs k)

mutual
  pub type_spelled : (room : ℕ) (s : Sig) → FitsType room s → IsSpelled (IsType room) s
  type_spelled _ _ (v.primitive room b h) = (b ∷ [], s.primitive room b h)
  type_spelled _ _ (v.named room value token h) = let t = token_spelled token h in (class_byte value ∷ t.0, s.named room value token t.0 t.1)
  type_spelled _ _ (v.of_type room n h) = (19 ∷ shortest n, s.of_type room n (shortest n) (is_shortest n h))
  type_spelled _ _ (v.of_method room n h) = (30 ∷ shortest n, s.of_method room n (shortest n) (is_shortest n h))
  type_spelled _ _ (v.vector room t h) = let i = type_spelled room t h in (29 ∷ i.0, s.vector room t i.0 i.1)
  type_spelled _ _ (v.reference room t h) = let i = type_spelled room t h in (16 ∷ i.0, s.reference room t i.0 i.1)
  type_spelled _ _ (v.pinned room t h) = let i = type_spelled room t h in (69 ∷ i.0, s.pinned room t i.0 i.1)
  type_spelled _ _ (v.modified room required token t k h) =
      let n = token_spelled token k in
      let i = type_spelled room t h in
      (modifier_byte required ∷ (n.0 ++ i.0), s.modified room required token t n.0 i.0 n.1 i.1)
  type_spelled _ _ (v.instance room value token ss k n h) =
      let t = token_spelled token k in
      let i = types_spelled room ss h in
      (21 ∷ class_byte value ∷ (t.0 ++ shortest (length ss) ++ i.0), s.instance room value token ss t.0 (shortest (length ss)) i.0 t.1 (is_shortest (length ss) n) i.1)

  pub types_spelled : (room : ℕ) (ss : List Sig) → FitTypes room ss → IsSpelled (AreTypes room) ss
  types_spelled _ _ (v.none room) = ([], s.none room)
  types_spelled _ _ (v.more room t ss h k) =
      let i = type_spelled room t h in
      let j = types_spelled room ss k in
      (i.0 ++ j.0, s.more room t ss i.0 j.0 i.1 j.1)

-- ---- signatures

row_fits : (ss : List Sig) (ns bs : List ℕ) → IsNumber (length ss) ns → AreTypes levels ss bs → FitRow ss
row_fits ss ns bs n h = record { count = number_small (length ss) ns n; each = types_fit levels ss bs h }

-- the return type and the parameters
record FitParts (ret : Sig) (params : List Sig) : Type 0 where
  ret_fits : FitsType levels ret
  params_fit : FitRow params

parts_fit : (ret : Sig) (params : List Sig) (bs : List ℕ) → AreParts ret params bs → FitParts ret params
parts_fit _ _ _ (s.parts ret params ns rs ps n r p) = record { ret_fits = type_fits levels ret rs r; params_fit = row_fits params ns ps n p }

parts_spelled : (ret : Sig) (params : List Sig) → FitsType levels ret → FitRow params → IsSpelled (AreParts ret) params
parts_spelled ret params r p =
    let i = type_spelled levels ret r in
    let j = types_spelled levels params p.each in
    (shortest (length params) ++ i.0 ++ j.0, s.parts ret params (shortest (length params)) i.0 j.0 (is_shortest (length params) p.count) i.1 j.1)

pub method_fits : (m : MethodSig) (bs : List ℕ) → IsMethod m bs → FitsMethod m
method_fits _ _ (s.plain this ret params bs h) = let p = parts_fit ret params bs h in record { generic = omega arith; ret = p.ret_fits; params = p.params_fit }
method_fits _ _ (s.generic this count ret params gs bs g h) = let p = parts_fit ret params bs h in record { generic = number_small count gs g; ret = p.ret_fits; params = p.params_fit }

pub method_spelled : (m : MethodSig) → FitsMethod m → IsSpelled IsMethod m
method_spelled m h =
    let p = parts_spelled m.ret m.params h.ret h.params in
    (generic_byte m.this ∷ (shortest m.generic ++ p.0), s.generic m.this m.generic m.ret m.params (shortest m.generic) p.0 (is_shortest m.generic h.generic) p.1)

pub property_fits : (m : MethodSig) (bs : List ℕ) → IsProperty m bs → FitsProperty m
property_fits _ _ (s.property this ret params bs h) = let p = parts_fit ret params bs h in record { generic = refl; ret = p.ret_fits; params = p.params_fit }

pub property_spelled : (m : MethodSig) → FitsProperty m → IsSpelled IsProperty m
property_spelled m h =
    let p = parts_spelled m.ret m.params h.ret h.params in
    let made : (count : ℕ) → MethodSig = λ (count : ℕ). record { this = m.this; generic = count; ret = m.ret; params = m.params } in
    subst (λ (count : ℕ). IsSpelled IsProperty (made count)) (sym h.generic) (property_byte m.this ∷ p.0, s.property m.this m.ret m.params p.0 p.1)

pub field_fits : (t : Sig) (bs : List ℕ) → IsField t bs → FitsType levels t
field_fits _ _ (s.field t bs h) = type_fits levels t bs h

pub field_spelled : (t : Sig) → FitsType levels t → IsSpelled IsField t
field_spelled t h = let i = type_spelled levels t h in (6 ∷ i.0, s.field t i.0 i.1)

pub counted_fit : (lead : ℕ) (ss : List Sig) (bs : List ℕ) → AreCounted lead ss bs → FitRow ss
counted_fit lead _ _ (s.counted ss ns bs n h) = row_fits ss ns bs n h

pub counted_spelled : (lead : ℕ) (ss : List Sig) → FitRow ss → IsSpelled (AreCounted lead) ss
counted_spelled lead ss h =
    let j = types_spelled levels ss h.each in
    (lead ∷ (shortest (length ss) ++ j.0), s.counted ss (shortest (length ss)) j.0 (is_shortest (length ss) h.count) j.1)
