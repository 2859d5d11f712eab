-- What numbers, texts, blobs and GUIDs have that are read from bytes.
use Rattle.std.proofs.Common.{◌≡◌, ℕ, suc, ◌+◌, ◌*◌, ◌-◌, ◌/◌, ◌^◌, ◌<◌, ◌≤◌, Bool, true, false, not, leb, ltb, eqb, cond, List, [], ◌∷◌, length, take, drop, Option, Some, None, unwrap_or, inl, inr, refl, sym, subst, arith, one-add}
use Rattle.std.specs.Prelude.{◌==◌, ◌&&◌}
use Rattle.std.specs.Option.{option_and_then}
use Rattle.std.specs.List.{prefix_len, position_or_len, AllByRecursion}
use Rattle.std.specs.Str.{is_utf8}
use Rattle.std.proofs.lemmas.Bool.{cases_Bool, eqb-false, leb-true, and_parts}
use Rattle.std.proofs.lemmas.List.{length-take, length-drop, get_or_past}
use Rattle.std.proofs.lemmas.Str.{is_utf8-from_IsUtf8, IsUtf8-nil}
use Rattle.byteorder.specs.Numbers.{little_from-lt}
use Rattle.il_base.specs.Bytes.{bytes_at, number_at, compressed_at}
use Rattle.il_base.specs.blob_grammar.Laws.{AreBytes}
use Rattle.il_base.proofs.lemmas.blob_grammar.Numbers.{compressed_found, number_small}
use Rattle.il_base.proofs.lemmas.body_grammar.ReadNumbers.{bytes-drop, bytes-take}
use Rattle.il_base.specs.declared.cli_format.stream.StreamName.{StreamName}
use Rattle.il_base.specs.cli_format.Demand.{number}
use Rattle.il_base.specs.cli_format.Image.{metadata_of}
use Rattle.il_base.specs.cli_format.Streams.{heap}
use Rattle.il_base.specs.cli_format.Heaps.{good_text, text_at, string_of, counted_at, blob_of, guid_of}
use Rattle.rules.specs.record_format.Texts.{units_of}
use Rattle.file_laws.specs.written_tables.Written.{IsText}
use Rattle.file_laws.specs.layout_laws.Columns.{IsGuid}

-- ---- bytes

pub no_bytes : AreBytes []
no_bytes i = subst (λ (n : ℕ). n < 256) (sym (get_or_past {X = ℕ} [] i 0 (omega arith))) (omega arith)

pub heap_bytes : (m : List ℕ) (name : StreamName) → AreBytes m → AreBytes (heap m name)
unfolding heap
heap_bytes m name h = bytes-take _ _ (bytes-drop _ m h)

pub metadata_bytes : (bs : List ℕ) → AreBytes bs → AreBytes (metadata_of bs)
unfolding metadata_of
metadata_bytes bs h = bytes-take _ _ (bytes-drop _ bs h)

-- ---- numbers

pub number_below : (n : ℕ) (bs : List ℕ) (at : ℕ) → AreBytes bs → 0 < 256 ^ n → number n bs at < 256 ^ n
unfolding number number_at
number_below n bs at h z = elim (cases_Bool (leb (at + n) (length bs))) [
  | inl e ↦ rw e (little_from-lt 0 n (drop at bs) (bytes-drop at bs h))
  | inr e ↦ rw e z
]

-- ---- texts

empty_text : IsText []
empty_text = record { utf8 = is_utf8-from_IsUtf8 [] IsUtf8-nil; no_zero = tt }

front : (bs : List ℕ) → AllByRecursion (λ b. b ≡ 0 → ⊥) (take (prefix_len (λ b. not (b == 0)) bs) bs)
front [] = tt
front (b ∷ bs) = elim (cases_Bool (eqb b 0)) [
  | inl e ↦ rw e tt
  | inr e ↦ rw (e, one-add) (eqb-false b 0 e, front bs)
]

good_is : (text : List ℕ) → AllByRecursion (λ b. b ≡ 0 → ⊥) text → IsText (unwrap_or (good_text text) [])
unfolding good_text
good_is text h = elim (cases_Bool (is_utf8 text)) [
  | inl e ↦ rw e (record { utf8 = e; no_zero = h })
  | inr e ↦ rw e empty_text
]

text_at_is : (bs : List ℕ) → IsText (unwrap_or (text_at bs) [])
unfolding text_at
text_at_is bs = at (ltb (position_or_len (λ b. b == 0) bs) (length bs))
  where
    at : (below : Bool) → IsText (unwrap_or (option_and_then (λ n. good_text (take n bs)) (cond below (Some (position_or_len (λ b. b == 0) bs)) None)) [])
    at true = good_is (take (position_or_len (λ b. b == 0) bs) bs) (front bs)
    at false = empty_text

pub text_is : (h : List ℕ) (at : ℕ) → IsText (unwrap_or (string_of h at) [])
unfolding string_of
text_is h at = elim (cases_Bool ((at == 0) && (length h == 0))) [
  | inl e ↦ rw e empty_text
  | inr e ↦ rw e (text_at_is (drop at h))
]

-- ---- blobs

pub record BlobIs (b : List ℕ) : Type 0 where
  pub bytes : AreBytes b
  pub small : length b < 2 ^ 29

empty_blob : BlobIs []
empty_blob = record { bytes = no_bytes; small = omega arith }

bytes_are : (bs : List ℕ) (at n : ℕ) → AreBytes bs → n < 2 ^ 29 → BlobIs (unwrap_or (bytes_at bs at n) [])
unfolding bytes_at
bytes_are bs at n h lt = elim (cases_Bool (leb (at + n) (length bs))) [
  | inl e ↦ rw e (record { bytes = bytes-take n (drop at bs) (bytes-drop at bs h); small = omega (arith, length-take n (drop at bs)) })
  | inr e ↦ rw e empty_blob
]

counted_by : (bs : List ℕ) → AreBytes bs → (o : Option (ℕ × ℕ)) → compressed_at bs ≡ o → BlobIs (unwrap_or (option_and_then (λ n. bytes_at bs n.1 n.0) o) [])
counted_by bs h None e = empty_blob
counted_by bs h (Some x) e = bytes_are bs x.1 x.0 h (number_small x.0 (take x.1 bs) (compressed_found bs x.0 x.1 h e))

pub counted_is : (bs : List ℕ) → AreBytes bs → BlobIs (unwrap_or (counted_at bs) [])
unfolding counted_at
counted_is bs h = counted_by bs h (compressed_at bs) refl

pub blob_is : (h : List ℕ) (at : ℕ) → AreBytes h → BlobIs (unwrap_or (blob_of h at) [])
unfolding blob_of
blob_is h at bytes = elim (cases_Bool ((at == 0) && (length h == 0))) [
  | inl e ↦ rw e empty_blob
  | inr e ↦ rw e (counted_is (drop at h) (bytes-drop at h bytes))
]

-- ---- GUIDs

pub guid_is : (h : List ℕ) (n : ℕ) → IsGuid (unwrap_or (guid_of h n) [])
unfolding guid_of
guid_is h n = elim (cases_Bool (leb 1 n && leb n (length h / 16))) [
  | inl e ↦
      let p = and_parts (leb 1 n) (leb n (length h / 16)) e in
      let low : 1 ≤ n = leb-true 1 n p.0 in
      let high : n ≤ length h / 16 = leb-true n (length h / 16) p.1 in
      let long : length (take 16 (drop (16 * (n - 1)) h)) ≡ 16 = omega (arith, length-take 16 (drop (16 * (n - 1)) h), length-drop (16 * (n - 1)) h) in
      rw e (inr long)
  | inr e ↦ rw e (inl refl)
]

-- ---- units

pub units_small : (bs : List ℕ) → AreBytes bs → AllByRecursion (λ u. u < 2 ^ 16) (units_of bs)
unfolding units_of
units_small [] h = tt
units_small (a ∷ []) h = tt
units_small (a ∷ b ∷ bs) h =
    let low : a < 256 = h 0 in
    let high : b < 256 = h 1 in
    (omega arith, units_small bs (λ i. h (suc (suc i))))
