-- Items of heaps at their places.
use Rattle.std.proofs.Common.{◌≡◌, ℕ, zero, suc, ◌+◌, ◌*◌, ◌-◌, ◌/◌, ◌<◌, ◌≤◌, true, false, not, eqb, leb, ltb, List, [], ◌∷◌, ◌++◌, length, take, drop, replicate, Some, inl, inr, refl, sym, ap, ◌∙◌, arith, append_assoc}
use Rattle.std.specs.Prelude.{slice_get, bytes_eq, ◌&&◌, ◌==◌}
use Rattle.std.specs.List.{flat_map, prefix_len, AllByRecursion}
use Rattle.std.proofs.lemmas.Bool.{cases_Bool, le-leb, lt-ltb, ne_eqb, and_right, false≢true}
use Rattle.std.proofs.lemmas.List.{length-append, append-nil, take_at, drop_at}
use Rattle.std.proofs.lemmas.Slice.Eq.{bytes_eq-Decides}
use Rattle.std.proofs.lemmas.Str.{is_utf8-from_IsUtf8, IsUtf8-nil}
use Rattle.std.proofs.lemmas.Option.{none-some, slice_get_within}
use Rattle.il_base.specs.Bytes.{bytes_at, compressed_at}
use Rattle.il_base.specs.blob_grammar.Numbers.{shortest}
use Rattle.il_base.proofs.lemmas.blob_grammar.Numbers.{compressed_again, is_shortest}
use Rattle.il_base.specs.cli_format.Demand.{number}
use Rattle.il_base.specs.cli_format.Heaps.{good_text, text_at, string_of, counted_at, blob_of, user_string_of, guid_of}
use Rattle.rules.specs.file_layout.Bytes.{padded, zeros, aligned}
use Rattle.rules.specs.file_layout.Interning.{place_among}
use Rattle.rules.specs.file_layout.Heaps.{string_item, strings_heap, string_place, blob_item, blobs_heap, blob_place, guids_heap, guid_number, units_bytes, last_byte, user_item, users_heap, user_place}
use Rattle.file_laws.specs.written_tables.Written.{IsText, IsIn, StringsReadBack, BlobsReadBack, GuidsReadBack, UsersReadBack}
use Rattle.file_laws.proofs.lemmas.written_tables.Places.{Stands, stands_first, stands_in, stands_at, stands_within, stands_dropped, byte_stands, item_stands, length_items, length_items_before}
use Rattle.file_laws.proofs.lemmas.written_tables.Once.{Items, in_first}

-- ---- an item of a list stands at its place, after whatever stands before the items

in_rest : (y : List ℕ) (ys : Items) (x : List ℕ) → bytes_eq y x ≡ false → IsIn (y ∷ ys) x → IsIn ys x
in_rest y ys x other h = elim (in_first y ys x h) [
  | inl e ↦ absurd (false≢true (sym other ∙ (bytes_eq-Decides y x).1 e))
  | inr m ↦ m
]

pub place_stands : (written : List ℕ → List ℕ) (before : List ℕ) (xs : Items) (x : List ℕ) → IsIn xs x
    → Stands (before ++ flat_map written xs) (place_among written (length before) xs x) (written x)
unfolding place_among
place_stands written before [] x h = absurd (none-some x h.1)
place_stands written before (y ∷ ys) x h = elim (cases_Bool (bytes_eq y x)) [
  | inl e ↦
      let same : y ≡ x = (bytes_eq-Decides y x).0 e in
      rw e (rw same (record { before = before; after = flat_map written ys; parts = refl; place = refl }))
  | inr e ↦
      let rest : Stands ((before ++ written y) ++ flat_map written ys) (place_among written (length (before ++ written y)) ys x) (written x) =
      place_stands written (before ++ written y) ys x (in_rest y ys x e h) in
      rw e (rw append_assoc at (rw length-append at rest))
]

-- the place of an item in a heap that begins with a zero
pub heap_stands : (written : List ℕ → List ℕ) (xs : Items) (x : List ℕ) → IsIn xs x
    → Stands (padded 4 (0 ∷ flat_map written xs)) (place_among written 1 xs x) (written x)
heap_stands written xs x h =
    let heap : List ℕ = padded 4 (0 ∷ flat_map written xs) in
    let at : ℕ = place_among written 1 xs x in
    stands_at heap (written x) (0 + at) at (omega arith)
    (stands_in heap (0 ∷ flat_map written xs) (written x) 0 at (stands_first (0 ∷ flat_map written xs) _) (place_stands written (0 ∷ []) xs x h))

pub begins : (bs : List ℕ) → number 1 (padded 4 (0 ∷ bs)) 0 ≡ 0
begins bs = byte_stands 0 0 (padded 4 (0 ∷ bs)) (record { before = []; after = bs ++ zeros (aligned 4 (length (0 ∷ bs)) - length (0 ∷ bs)); parts = refl; place = refl })

-- ---- `#Strings`

-- the last byte is a zero
abbrev Ends : List ℕ → Type 0
Ends bs = (front : List ℕ) × (bs ≡ front ++ 0 ∷ [])

ends_items : (texts : Items) (bs : List ℕ) → Ends bs → Ends (bs ++ flat_map string_item texts)
ends_items [] bs h = rw (append-nil bs) h
ends_items (t ∷ ts) bs h =
    let next : Ends (bs ++ (t ++ 0 ∷ [])) = (bs ++ t, sym (append_assoc bs t (0 ∷ []))) in
    rw (← append_assoc bs (t ++ 0 ∷ []) (flat_map string_item ts)) (ends_items ts (bs ++ (t ++ 0 ∷ [])) next)

ends_zeros : (n : ℕ) (bs : List ℕ) → Ends bs → Ends (bs ++ replicate n 0)
ends_zeros zero bs h = rw (append-nil bs) h
ends_zeros (suc n) bs h = rw (← append_assoc bs (0 ∷ []) (replicate n 0)) (ends_zeros n (bs ++ 0 ∷ []) (bs, refl))

ends_number : (bs : List ℕ) → Ends bs → number 1 bs (length bs - 1) ≡ 0
ends_number bs h =
    let long : length bs ≡ length (h.0 ++ 0 ∷ []) = ap length h.1 in
    let place : length h.0 ≡ length bs - 1 = omega (arith, long, length-append h.0 (0 ∷ [])) in
    byte_stands 0 (length bs - 1) bs (record { before = h.0; after = []; parts = h.1; place = place })

strings_end : (texts : Items) → Ends (strings_heap texts)
unfolding strings_heap
strings_end texts = ends_zeros _ (0 ∷ flat_map string_item texts) (ends_items texts (0 ∷ []) ([], refl))

first_zero : (text rest : List ℕ) → AllByRecursion (λ b. b ≡ 0 → ⊥) text → prefix_len (λ b. not (b == 0)) (text ++ 0 ∷ rest) ≡ length text
first_zero [] rest h = refl
first_zero (b ∷ bs) rest h =
    let other : eqb b 0 ≡ false = ne_eqb b 0 h.0 in
    let more : prefix_len (λ c. not (c == 0)) (bs ++ 0 ∷ rest) ≡ length bs = first_zero bs rest h.1 in
    rw (other, more) (omega arith)

text_there : (text rest : List ℕ) → IsText text → text_at (text ++ 0 ∷ rest) ≡ Some text
unfolding text_at good_text
text_there text rest t =
    let here : prefix_len (λ b. not (b == 0)) (text ++ 0 ∷ rest) ≡ length text = first_zero text rest t.no_zero in
    let within : ltb (length text) (length (text ++ 0 ∷ rest)) ≡ true = lt-ltb _ _ (omega (arith, length-append text (0 ∷ rest))) in
    rw (here, within, take_at text (0 ∷ rest) (length text) refl, t.utf8) refl

-- a heap that isn't empty has its items where they stand
has_length : (bs rest : List ℕ) (b at : ℕ) → ((at == 0) && (length (b ∷ bs ++ rest) == 0)) ≡ false
has_length bs rest b at = and_right (at == 0) (length (b ∷ bs ++ rest) == 0) (ne_eqb (length (b ∷ bs ++ rest)) 0 (λ e. absurd (omega (arith, e))))

string_there : (texts : Items) (at : ℕ) (text : List ℕ) → IsText text → Stands (strings_heap texts) at (string_item text) → string_of (strings_heap texts) at ≡ Some text
unfolding string_of strings_heap
string_there texts at text t p =
    let there : drop at (strings_heap texts) ≡ string_item text ++ p.after = stands_dropped (strings_heap texts) (string_item text) at p in
    rw (has_length (flat_map string_item texts) _ 0 at, there, append_assoc text (0 ∷ []) p.after) (text_there text p.after t)

empty_text : IsText []
empty_text = record { utf8 = is_utf8-from_IsUtf8 [] IsUtf8-nil; no_zero = tt }

string_empty : (texts : Items) → string_of (strings_heap texts) 0 ≡ Some []
unfolding strings_heap
string_empty texts = string_there texts 0 [] empty_text (record { before = []; after = _; parts = refl; place = refl })

string_each : (texts : Items) (text : List ℕ) → IsIn texts text → IsText text → string_of (strings_heap texts) (string_place texts text) ≡ Some text
unfolding string_place strings_heap
string_each texts [] h t = string_empty texts
string_each texts (c ∷ cs) h t = string_there texts (place_among string_item 1 texts (c ∷ cs)) (c ∷ cs) t (heap_stands string_item texts (c ∷ cs) h)

string_within : (texts : Items) (text : List ℕ) → IsIn texts text → string_place texts text < length (strings_heap texts)
unfolding string_place strings_heap
string_within texts [] h = omega arith
string_within texts (c ∷ cs) h =
    omega (arith, stands_within (strings_heap texts) (string_item (c ∷ cs)) (place_among string_item 1 texts (c ∷ cs)) (heap_stands string_item texts (c ∷ cs) h))

pub strings_law : (texts : Items) → StringsReadBack texts
unfolding strings_heap string_place
strings_law texts = record {
  first = begins (flat_map string_item texts);
  last = ends_number (strings_heap texts) (strings_end texts);
  empty = string_empty texts;
  each = string_each texts;
  within = string_within texts;
}

-- ---- bytes after their length

counted_there : (xs rest : List ℕ) (n : ℕ) → length xs ≡ n → n < 536870912 → counted_at (shortest n ++ (xs ++ rest)) ≡ Some xs
unfolding counted_at bytes_at
counted_there xs rest n len lt =
    let read : compressed_at (shortest n ++ (xs ++ rest)) ≡ Some (n, length (shortest n)) = compressed_again n (shortest n) (is_shortest n lt) (xs ++ rest) in
    let within : leb (length (shortest n) + n) (length (shortest n ++ (xs ++ rest))) ≡ true =
    le-leb _ _ (omega (arith, length-append (shortest n) (xs ++ rest), length-append xs rest, len)) in
    rw (read, within, drop_at (shortest n) (xs ++ rest) (length (shortest n)) refl, take_at xs rest n len) refl

-- ---- `#Blob`

blob_there : (blobs : Items) (at : ℕ) (blob : List ℕ) → length blob < 536870912 → Stands (blobs_heap blobs) at (blob_item blob) → blob_of (blobs_heap blobs) at ≡ Some blob
unfolding blob_of blobs_heap
blob_there blobs at blob lt p =
    let there : drop at (blobs_heap blobs) ≡ blob_item blob ++ p.after = stands_dropped (blobs_heap blobs) (blob_item blob) at p in
    rw (has_length (flat_map blob_item blobs) _ 0 at, there, append_assoc (shortest (length blob)) blob p.after) (counted_there blob p.after (length blob) refl lt)

blob_empty : (blobs : Items) → blob_of (blobs_heap blobs) 0 ≡ Some []
unfolding blobs_heap shortest
blob_empty blobs = blob_there blobs 0 [] (omega arith) (record { before = []; after = _; parts = refl; place = refl })

blob_each : (blobs : Items) (blob : List ℕ) → IsIn blobs blob → length blob < 536870912 → blob_of (blobs_heap blobs) (blob_place blobs blob) ≡ Some blob
unfolding blob_place blobs_heap
blob_each blobs [] h lt = blob_empty blobs
blob_each blobs (b ∷ bs) h lt = blob_there blobs (place_among blob_item 1 blobs (b ∷ bs)) (b ∷ bs) lt (heap_stands blob_item blobs (b ∷ bs) h)

blob_within : (blobs : Items) (blob : List ℕ) → IsIn blobs blob → blob_place blobs blob < length (blobs_heap blobs)
unfolding blob_place blobs_heap
blob_within blobs [] h = omega arith
blob_within blobs (b ∷ bs) h =
    omega (arith, stands_within (blobs_heap blobs) (blob_item (b ∷ bs)) (place_among blob_item 1 blobs (b ∷ bs)) (heap_stands blob_item blobs (b ∷ bs) h), length-append (shortest (length (b ∷ bs))) (b ∷ bs))

pub blobs_law : (blobs : Items) → BlobsReadBack blobs
unfolding blobs_heap blob_place
blobs_law blobs = record {
  first = begins (flat_map blob_item blobs);
  empty = blob_empty blobs;
  each = blob_each blobs;
  within = blob_within blobs;
}

-- ---- `#GUID`

-- an item by its number
numbered : (at : ℕ) (xs : Items) (x : List ℕ) → IsIn xs x → (k : ℕ) × (place_among (λ g. 0 ∷ []) at xs x ≡ at + k) × (slice_get xs k ≡ Some x)
unfolding place_among
numbered at [] x h = absurd (none-some x h.1)
numbered at (y ∷ ys) x h = elim (cases_Bool (bytes_eq y x)) [
  | inl e ↦
      let same : y ≡ x = (bytes_eq-Decides y x).0 e in
      (0, rw e (omega arith), ap (λ (z : List ℕ). Some z) same)
  | inr e ↦
      let n = numbered (at + 1) ys x (in_rest y ys x e h) in
      (suc n.0, rw e (n.1 ∙ omega arith), n.2)
]

abbrev AreGuids : Items → Type 0
AreGuids guids = (k : ℕ) (g : List ℕ) → slice_get guids k ≡ Some g → length g ≡ 16

guids_length : (guids : Items) → AreGuids guids → length (guids_heap guids) ≡ 16 * length guids
unfolding guids_heap
guids_length guids h = omega (arith, length_items (λ g. g) 16 guids h)

guid_there : (guids : Items) → AreGuids guids → (k : ℕ) (g : List ℕ) → slice_get guids k ≡ Some g → guid_of (guids_heap guids) (1 + k) ≡ Some g
unfolding guids_heap guid_of
guid_there guids h k g e =
    let heap : List ℕ = flat_map (λ x. x) guids in
    let size : length heap ≡ 16 * length guids = guids_length guids h in
    let below : k < length guids = slice_get_within guids k g e in
    let first : leb 1 (1 + k) ≡ true = le-leb 1 (1 + k) (omega arith) in
    let last : leb (1 + k) (length heap / 16) ≡ true = le-leb (1 + k) (length heap / 16) (omega arith) in
    let place : length (flat_map (λ x. x) (take k guids)) ≡ 16 * (1 + k - 1) = omega (arith, length_items_before (λ x. x) 16 guids h k (omega arith)) in
    let p : Stands heap (16 * (1 + k - 1)) g = stands_at heap g _ _ place (item_stands (λ x. x) guids k g e) in
    rw (first, last, stands_dropped heap g (16 * (1 + k - 1)) p, take_at g p.after 16 (h k g e)) refl

guid_each : (guids : Items) → AreGuids guids → (g : List ℕ) → IsIn guids g → guid_of (guids_heap guids) (guid_number guids g) ≡ Some g
unfolding guid_number
guid_each guids h [] m = absurd (let none = h m.0 [] m.1 in omega (arith, none))
guid_each guids h (b ∷ bs) m = let n = numbered 1 guids (b ∷ bs) m in rw n.1 (guid_there guids h n.0 (b ∷ bs) n.2)

guid_within : (guids : Items) (g : List ℕ) → IsIn guids g → guid_number guids g ≤ length guids
unfolding guid_number
guid_within guids [] m = omega arith
guid_within guids (b ∷ bs) m =
    let n = numbered 1 guids (b ∷ bs) m in
    let below : n.0 < length guids = slice_get_within guids n.0 (b ∷ bs) n.2 in
    omega (arith, n.1, below)

pub guids_law : (guids : Items) → AreGuids guids → GuidsReadBack guids
guids_law guids h = record { each = guid_each guids h; within = guid_within guids; size = guids_length guids h }

-- ---- `#US`

length_units : (units : List ℕ) → length (units_bytes units) ≡ 2 * length units
length_units [] = refl
length_units (u ∷ us) = omega (arith, length_units us)

user_each : (texts : Items) (units : List ℕ) → IsIn texts units → 2 * length units + 1 < 536870912
    → user_string_of (users_heap texts) (user_place texts units) ≡ Some (units_bytes units ++ last_byte units ∷ [])
unfolding user_string_of users_heap user_place user_item
user_each texts units h lt =
    let at : ℕ = place_among user_item 1 texts units in
    let item : List ℕ = units_bytes units ++ last_byte units ∷ [] in
    let n : ℕ = 2 * length units + 1 in
    let p : Stands (users_heap texts) at (user_item units) = heap_stands user_item texts units h in
    let there : drop at (users_heap texts) ≡ user_item units ++ p.after = stands_dropped (users_heap texts) (user_item units) at p in
    let parts : user_item units ++ p.after ≡ shortest n ++ (item ++ p.after) = simp append_assoc in
    let long : length item ≡ n = omega (arith, length-append (units_bytes units) (last_byte units ∷ []), length_units units) in
    rw (there, parts) (counted_there item p.after n long lt)

user_within : (texts : Items) (units : List ℕ) → IsIn texts units → user_place texts units < length (users_heap texts)
unfolding users_heap user_place user_item
user_within texts units h =
    let p : Stands (users_heap texts) (place_among user_item 1 texts units) (user_item units) = heap_stands user_item texts units h in
    omega (arith, stands_within (users_heap texts) (user_item units) (place_among user_item 1 texts units) p, length-append (shortest (2 * length units + 1) ++ units_bytes units) (last_byte units ∷ []))

pub users_law : (texts : Items) → UsersReadBack texts
unfolding users_heap
users_law texts = record { first = begins (flat_map user_item texts); each = user_each texts; within = user_within texts }
