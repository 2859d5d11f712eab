-- The counts of rows after the head, and where they stand (II.24.2.6).
use Rattle.std.proofs.Common.{◌≡◌, ℕ, zero, suc, ◌+◌, ◌*◌, ◌^◌, ◌<◌, Bool, true, false, not, cond, List, [], ◌∷◌, ◌++◌, length, take, Some, refl, sym, ap, ◌∙◌, arith, inl, inr, append_assoc}
use Rattle.std.specs.Prelude.{get_or, slice_get}
use Rattle.std.specs.List.{flat_map}
use Rattle.std.proofs.lemmas.Bool.{cases_lt}
use Rattle.std.proofs.lemmas.List.{length-append, append-nil, get_or_past, take_all}
use Rattle.std.proofs.lemmas.Option.{slice_get-get_or}
use Rattle.byteorder.specs.Endian.{little_bytes}
use Rattle.il_base.specs.cli_format.Demand.{number}
use Rattle.il_base.specs.cli_format.Tables.{heap_sizes, valid_of, is_present, present_before, count_place, rows_of}
use Rattle.rules.specs.file_layout.Bytes.{word}
use Rattle.rules.specs.file_layout.TableStream.{Row, Tables, rows_in, is_empty, valid_bits, counts_bytes, sorted_bits, head_bytes, tables_bytes, tables_stream}
use Rattle.file_laws.specs.written_tables.Written.{CanTables}
use Rattle.file_laws.proofs.lemmas.written_tables.Places.{Stands, stands_first, stands_in, stands_at, number_stands, byte_stands, item_stands}
use Rattle.file_laws.proofs.lemmas.written_tables.Head.{bits_of, valid_is, bits_below, present_is}

-- the count of a table, where it has rows
abbrev pub count_of : List Row → List ℕ
count_of rows = cond (is_empty rows) [] (word (length rows))

pub counts_are : (tables : Tables) → counts_bytes tables ≡ flat_map count_of tables
unfolding counts_bytes
counts_are [] = refl
counts_are (rows ∷ more) = ap (λ (bs : List ℕ). count_of rows ++ bs) (counts_are more)

-- one piece more; past the end there are none
pub flat_more : {X : Type 0} (f : X → List ℕ) (d : X) → f d ≡ [] → (xs : List X) (t : ℕ) → flat_map f (take (suc t) xs) ≡ flat_map f (take t xs) ++ f (get_or xs t d)
flat_more f d e [] zero = rw e refl
flat_more f d e [] (suc t) = rw e refl
flat_more f d e (x ∷ xs) zero = append-nil (f x)
flat_more f d e (x ∷ xs) (suc t) =
    ap (λ (bs : List ℕ). f x ++ bs) (flat_more f d e xs t) ∙ sym (append_assoc (f x) (flat_map f (take t xs)) (f (get_or xs t d)))

length_count : (rows : List Row) → length (count_of rows) ≡ 4 * cond (not (is_empty rows)) 1 0
length_count [] = refl
length_count (r ∷ rs) = refl

pub counts_before : (ts : List ℕ) (tables : Tables) → ((t : ℕ) → is_present ts t ≡ not (is_empty (get_or tables t [])))
    → (t : ℕ) → 4 * present_before ts t ≡ length (flat_map count_of (take t tables))
unfolding present_before
counts_before ts tables present zero = refl
counts_before ts tables present (suc t) =
    let rest : 4 * present_before ts t ≡ length (flat_map count_of (take t tables)) = counts_before ts tables present t in
    let rows : List Row = get_or tables t [] in
    let one : ◌≡◌ {A = ℕ} (cond (is_present ts t) 1 0) (cond (not (is_empty rows)) 1 0) = ap (λ (b : Bool). cond b 1 0) (present t) in
    let more : length (flat_map count_of (take (suc t) tables)) ≡ length (flat_map count_of (take t tables)) + length (count_of rows) =
    ap length (flat_more count_of [] refl tables t) ∙ length-append (flat_map count_of (take t tables)) (count_of rows) in
    omega (arith, rest, one, more, length_count rows)

-- ---- a stream that is laid out

module _ (sizes : ℕ) (tables : Tables) (h : CanTables sizes tables) where
  abbrev pub stream : List ℕ
  stream = tables_stream sizes tables

  abbrev pub head : List ℕ
  head = head_bytes sizes tables

  abbrev pub counts : List ℕ
  counts = flat_map count_of tables

  abbrev pub rows_bytes : List ℕ
  rows_bytes = tables_bytes sizes tables 0 tables

  pub all_stand : Stands stream 0 (head ++ rows_bytes)
  unfolding tables_stream
  all_stand = stands_first (head ++ rows_bytes) _

  pub head_stands : Stands stream 0 head
  head_stands = stands_in stream (head ++ rows_bytes) head 0 0 all_stand (stands_first head rows_bytes)

  -- what stands in the head stands in the stream
  in_head : (xs : List ℕ) (at : ℕ) → Stands head at xs → Stands stream at xs
  in_head xs at p = stands_at stream xs (0 + at) at (omega arith) (stands_in stream head xs 0 at head_stands p)

  pub version_read : number 2 stream 4 ≡ 2
  unfolding head_bytes
  version_read =
      number_stands 2 2 4 stream (omega arith) (in_head (2 ∷ 0 ∷ []) 4 (record { before = 0 ∷ 0 ∷ 0 ∷ 0 ∷ []; after = _; parts = refl; place = refl }))

  pub sizes_read : heap_sizes stream ≡ sizes
  unfolding head_bytes heap_sizes
  sizes_read = byte_stands sizes 6 stream (in_head (sizes ∷ []) 6 (record { before = 0 ∷ 0 ∷ 0 ∷ 0 ∷ 2 ∷ 0 ∷ []; after = _; parts = refl; place = refl }))

  valid_small : valid_bits 0 tables < 256 ^ 8
  valid_small =
      let below : bits_of tables < 2 ^ length tables = bits_below tables in
      let few : bits_of tables < 2 ^ 45 = rw h.count at below in
      omega (arith, few, valid_is tables)

  pub valid_read : valid_of stream ≡ valid_bits 0 tables
  unfolding head_bytes valid_of
  valid_read =
      number_stands 8 (valid_bits 0 tables) 8 stream valid_small
      (in_head (little_bytes 8 (valid_bits 0 tables)) 8 (record { before = 0 ∷ 0 ∷ 0 ∷ 0 ∷ 2 ∷ 0 ∷ sizes ∷ 1 ∷ []; after = _; parts = refl; place = refl }))

  pub present : (t : ℕ) → is_present stream t ≡ not (is_empty (get_or tables t []))
  present t = present_is stream tables valid_read h.count t

  counts_stand : Stands stream 24 counts
  unfolding head_bytes
  counts_stand =
      in_head counts 24 (record {
        before = 0 ∷ 0 ∷ 0 ∷ 0 ∷ 2 ∷ 0 ∷ sizes ∷ 1 ∷ (little_bytes 8 (valid_bits 0 tables) ++ little_bytes 8 sorted_bits);
        after = [];
        parts = ap (λ (bs : List ℕ). 0 ∷ 0 ∷ 0 ∷ 0 ∷ 2 ∷ 0 ∷ sizes ∷ 1 ∷ (little_bytes 8 (valid_bits 0 tables) ++ little_bytes 8 sorted_bits ++ bs)) (counts_are tables ∙ sym (append-nil counts));
        place = refl;
      })

  pub count_place_is : (t : ℕ) → count_place stream t ≡ 24 + length (flat_map count_of (take t tables))
  unfolding count_place
  count_place_is t = omega (arith, counts_before stream tables present t)

  pub length_head : length head ≡ count_place stream 64
  unfolding head_bytes
  length_head =
      let all : take 64 tables ≡ tables = take_all 64 tables (omega (arith, h.count)) in
      let same : length counts ≡ length (flat_map count_of (take 64 tables)) = ap (λ (xs : Tables). length (flat_map count_of xs)) (sym all) in
      let given : length (counts_bytes tables) ≡ length counts = ap length (counts_are tables) in
      omega (arith, count_place_is 64, same, given)

  -- ---- the counts

  pub table_within : (t : ℕ) (r : Row) (rs : List Row) → get_or tables t [] ≡ r ∷ rs → slice_get tables t ≡ Some (r ∷ rs)
  table_within t r rs e = elim (cases_lt t (length tables)) [
    | inl below ↦ slice_get-get_or tables t [] below ∙ ap (λ (rows : List Row). Some rows) e
    | inr past ↦ absurd (let none : get_or tables t [] ≡ [] = get_or_past tables t [] past in cc)
  ]

  count_read : (t : ℕ) (rows : List Row) → get_or tables t [] ≡ rows → rows_of stream t ≡ length rows
  unfolding rows_of
  count_read t [] e =
      let gone : is_present stream t ≡ false = present t ∙ ap (λ (rows : List Row). not (is_empty rows)) e in
      rw gone refl
  count_read t (r ∷ rs) e =
      let here : is_present stream t ≡ true = present t ∙ ap (λ (rows : List Row). not (is_empty rows)) e in
      let n : ℕ = length (r ∷ rs) in
      let same : rows_in tables t ≡ n = ap length e in
      let small : n < 256 ^ 4 = omega (arith, h.few t, same) in
      let at : ℕ = 24 + length (flat_map count_of (take t tables)) in
      let p : Stands stream at (word n) = stands_in stream counts (word n) 24 _ counts_stand (item_stands count_of tables t (r ∷ rs) (table_within t r rs e)) in
      rw (here, count_place_is t) (number_stands 4 n at stream small p)

  pub rows_read : (t : ℕ) → rows_of stream t ≡ rows_in tables t
  rows_read t = count_read t (get_or tables t []) refl
