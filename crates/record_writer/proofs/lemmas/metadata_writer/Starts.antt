-- Where items stand, by where each begins.
use Rattle.std.proofs.Common.{◌≡◌, ℕ, suc, ◌+◌, Bool, true, false, cond, List, [], ◌∷◌, length, get_or, bytes_eq, refl, ap, ◌∙◌, arith}
use Rattle.rules.specs.file_layout.Interning.{place_among}
use Rattle.rules.specs.file_layout.Heaps.{string_item, string_place, blob_item, blob_place, guid_number}
use Rattle.record_writer.specs.metadata_writer.Places.{index_among, starts_of}
use Rattle.record_writer.specs.metadata_writer.Lengths.{blob_put}
use Rattle.record_writer.specs.metadata_writer.Numbers.{place_or_none}
use Rattle.record_writer.proofs.lemmas.metadata_writer.Puts.{blob_put-length}

chosen : (b : Bool) (at k m : ℕ) (ns : List ℕ) → get_or ns k 0 ≡ m → get_or (at ∷ ns) (cond b 0 (suc k)) 0 ≡ cond b at m
chosen true at k m ns e = refl
chosen false at k m ns e = e

place_is : (w : List ℕ → List ℕ) (at : ℕ) (ys : List (List ℕ)) (x : List ℕ) → get_or (starts_of w at ys) (index_among ys x) 0 ≡ place_among w at ys x
unfolding place_among
place_is w at [] x = refl
place_is w at (y ∷ ys) x = chosen (bytes_eq y x) at (index_among ys x) (place_among w (at + length (w y)) ys x) (starts_of w (at + length (w y)) ys) (place_is w (at + length (w y)) ys x)

starts_same : (f g : List ℕ → List ℕ) → ((x : List ℕ) → length (f x) ≡ length (g x)) → (at : ℕ) (ys : List (List ℕ)) → starts_of f at ys ≡ starts_of g at ys
starts_same f g same at [] = refl
starts_same f g same at (y ∷ ys) =
    ap (λ (ns : List ℕ). at ∷ ns) (ap (λ (n : ℕ). starts_of f (at + n) ys) (same y) ∙ starts_same f g same (at + length (g y)) ys)

pub string_place_is : (texts : List (List ℕ)) (t : List ℕ) → place_or_none (λ x. get_or (starts_of string_item 1 texts) (index_among texts x) 0) t ≡ string_place texts t
unfolding string_place
string_place_is texts [] = refl
string_place_is texts (c ∷ cs) = place_is string_item 1 texts (c ∷ cs)

pub blob_place_is : (blobs : List (List ℕ)) (b : List ℕ) → place_or_none (λ x. get_or (starts_of blob_put 1 blobs) (index_among blobs x) 0) b ≡ blob_place blobs b
unfolding blob_place
blob_place_is blobs [] = refl
blob_place_is blobs (c ∷ cs) =
    ap (λ (ns : List ℕ). get_or ns (index_among blobs (c ∷ cs)) 0) (starts_same blob_put blob_item blob_put-length 1 blobs) ∙ place_is blob_item 1 blobs (c ∷ cs)

guid_place : (at : ℕ) (ys : List (List ℕ)) (x : List ℕ) → at + index_among ys x ≡ place_among (λ g. 0 ∷ []) at ys x
unfolding place_among
guid_place at [] x = omega arith
guid_place at (y ∷ ys) x =
    elim (bytes_eq y x) as (λ b. at + cond b 0 (suc (index_among ys x)) ≡ cond b at (place_among (λ g. 0 ∷ []) (at + 1) ys x))
    [ true ↦ omega arith | false ↦ omega (arith, guid_place (at + 1) ys x) ]

pub guid_number_is : (guids : List (List ℕ)) (g : List ℕ) → place_or_none (λ x. 1 + index_among guids x) g ≡ guid_number guids g
unfolding guid_number
guid_number_is guids [] = refl
guid_number_is guids (c ∷ cs) = guid_place 1 guids (c ∷ cs)
