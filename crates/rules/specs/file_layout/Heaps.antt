-- The heaps (II.24.2.3 to II.24.2.5). Items are written whole and once, in order; `#Strings`, `#US` and `#Blob` begin with
-- their empty item and end with zeros up to a multiple of 4.
use Rattle.std.specs.Prelude.{ℕ, ◌+◌, ◌*◌, Bool, nat_le, nat_lt, ◌||◌, ◌&&◌, ◌==◌, List, [], ◌∷◌, ◌++◌, length, if◌then◌else◌}
use Rattle.std.specs.List.{flat_map, list_any}
use Rattle.il_base.specs.blob_grammar.Numbers.{shortest}
use Rattle.rules.specs.file_layout.Bytes.{half, padded}
use Rattle.rules.specs.file_layout.Interning.{place_among}

-- ---- `#Strings`: each text with a zero after it

abbrev pub string_item : List ℕ → List ℕ
string_item text = text ++ 0 ∷ []

unfoldable pub strings_heap : List (List ℕ) → List ℕ
strings_heap texts = padded 4 (0 ∷ flat_map string_item texts)

-- the place of a text; the empty one is at 0
unfoldable pub string_place : List (List ℕ) → List ℕ → ℕ
string_place texts [] = 0
string_place texts (c ∷ cs) = place_among string_item 1 texts (c ∷ cs)

-- ---- `#Blob`: each blob after its length

abbrev pub blob_item : List ℕ → List ℕ
blob_item blob = shortest (length blob) ++ blob

unfoldable pub blobs_heap : List (List ℕ) → List ℕ
blobs_heap blobs = padded 4 (0 ∷ flat_map blob_item blobs)

unfoldable pub blob_place : List (List ℕ) → List ℕ → ℕ
blob_place blobs [] = 0
blob_place blobs (b ∷ bs) = place_among blob_item 1 blobs (b ∷ bs)

-- ---- `#GUID`: 16 bytes each, counted from 1; 0 is none

unfoldable pub guids_heap : List (List ℕ) → List ℕ
guids_heap guids = flat_map (λ g. g) guids

unfoldable pub guid_number : List (List ℕ) → List ℕ → ℕ
guid_number guids [] = 0
guid_number guids (b ∷ bs) = place_among (λ g. 0 ∷ []) 1 guids (b ∷ bs)

-- ---- `#US`: UTF-16 units after their length, and a last byte: 1 where one of the units is special, else 0

-- a special unit: one with a nonzero high byte, or of the characters 01 to 08, 0e to 1f, 27, 2d and 7f (II.24.2.4)
unfoldable pub is_special : ℕ → Bool
is_special u =
    nat_le 0x100 u || (nat_le 0x01 u && nat_le u 0x08) || (nat_le 0x0e u && nat_le u 0x1f) || u == 0x27 || u == 0x2d || u == 0x7f

abbrev pub last_byte : List ℕ → ℕ
last_byte units = if list_any is_special units then 1 else 0

abbrev pub units_bytes : List ℕ → List ℕ
units_bytes units = flat_map half units

unfoldable pub user_item : List ℕ → List ℕ
user_item units = shortest (2 * length units + 1) ++ units_bytes units ++ last_byte units ∷ []

unfoldable pub users_heap : List (List ℕ) → List ℕ
users_heap texts = padded 4 (0 ∷ flat_map user_item texts)

-- the place of a text in `#US`, where the empty text is an item as any other
unfoldable pub user_place : List (List ℕ) → List ℕ → ℕ
user_place texts units = place_among user_item 1 texts units

-- ---- HeapSizes (II.24.2.6): a bit for each heap of 2^16 bytes or more

unfoldable pub heap_bits : ℕ → ℕ → ℕ → ℕ
heap_bits strings guids blobs =
    (if nat_lt strings 0x10000 then 0 else 1) + (if nat_lt guids 0x10000 then 0 else 2) + (if nat_lt blobs 0x10000 then 0 else 4)
