-- Metadata that is laid out meets the demands on its root and streams, and reads back as its streams.
use Rattle.std.proofs.Common.{◌≡◌, ℕ, suc, ◌+◌, ◌≤◌, Bool, true, false, List, [], ◌∷◌, ◌++◌, length, take, drop, Some, None, refl, ap, ◌∙◌, append_assoc, arith, length-append}
use Rattle.std.specs.Prelude.{nat_le, ◌%◌, ◌==◌, ◌&&◌, ◌||◌, is_some}
use Rattle.std.proofs.lemmas.Bool.{le-leb}
use Rattle.std.proofs.lemmas.List.{append-nil}
use Rattle.il_base.specs.declared.reason.TheConstants.{BAD_ROOT, BAD_STREAM}
use Rattle.il_base.specs.declared.cli_format.error.TablesError.{TablesError}
use Rattle.il_base.specs.declared.cli_format.stream.Stream.{Stream}
use Rattle.il_base.specs.declared.cli_format.stream.StreamName.{StreamName}
use Rattle.il_base.specs.declared.cli_format.stream.StreamName.TheVariants.{Tables, Strings, UserStrings, Guids, Blobs, Uncompressed}
use Rattle.il_base.specs.cli_format.Demand.{Demand, first_fault, number}
use Rattle.il_base.specs.cli_format.Streams.{version_length, streams_place, header_size, header_place, nth_stream, streams_before, streams_of, stream_at, stream_called, heap, heap_place, heap_size, name_number, agrees, apart, repeats}
use Rattle.il_base.specs.cli_format.Metadata.{bad_at, header_fits, stream_fits, stream_demands, nth_stream_demands, streams_demands, root_demands}
use Rattle.il_base.proofs.lemmas.cli_format.Faults.{none_then, one_holds, none_below, none_more}
use Rattle.rules.specs.file_layout.Metadata.{Streams, tables_at, strings_at, users_at, guids_at, blobs_at, stream_headers, root_bytes, metadata_bytes}
use Rattle.file_laws.specs.written_image.Written.{CanStream, StreamsReadBack}
use Rattle.file_laws.proofs.lemmas.written_image.Numbers.{part_between}
use Rattle.file_laws.proofs.lemmas.written_image.Names.{Header}
use Rattle.file_laws.proofs.lemmas.written_image.Heaps.{Headers, headers_read, metadata_size, before_size, signature_is, version_length_is, stream_count_is, streams_place_is, whole}

-- ---- the streams that are read

abbrev tables_of : Streams → Stream
tables_of s = record { name = Tables; offset = tables_at; size = length s.tables }

abbrev strings_of : Streams → Stream
strings_of s = record { name = Strings; offset = strings_at s; size = length s.strings }

abbrev users_of : Streams → Stream
users_of s = record { name = UserStrings; offset = users_at s; size = length s.users }

abbrev guids_of : Streams → Stream
guids_of s = record { name = Guids; offset = guids_at s; size = length s.guids }

abbrev blobs_of : Streams → Stream
blobs_of s = record { name = Blobs; offset = blobs_at s; size = length s.blobs }

-- the places of their headers
first_place : (bs : List ℕ) (h : ℕ) → streams_place bs ≡ h → header_place bs 0 ≡ h
unfolding header_place
first_place bs h e = e

next_place : (bs : List ℕ) (i h n next : ℕ) → header_place bs i ≡ h → header_size bs h ≡ n → next ≡ h + n → header_place bs (suc i) ≡ next
unfolding header_place
next_place bs i h n next e f g = rw (e, f, g) refl

record Places (s : Streams) : Type 0 where
  pub zeroth : header_place (metadata_bytes s) 0 ≡ 32
  pub first : header_place (metadata_bytes s) 1 ≡ 44
  pub second : header_place (metadata_bytes s) 2 ≡ 64
  pub third : header_place (metadata_bytes s) 3 ≡ 76
  pub fourth : header_place (metadata_bytes s) 4 ≡ 92

places : (s : Streams) → Headers s → Places s
places s h =
    let bs : List ℕ = metadata_bytes s in
    let zeroth = first_place bs 32 (streams_place_is s) in
    let first = next_place bs 0 32 12 44 zeroth h.tables.whole refl in
    let second = next_place bs 1 44 20 64 first h.strings.whole refl in
    let third = next_place bs 2 64 12 76 second h.users.whole refl in
    let fourth = next_place bs 3 76 16 92 third h.guids.whole refl in
    record { zeroth = zeroth; first = first; second = second; third = third; fourth = fourth }

stream_is : (bs : List ℕ) (i h : ℕ) (stream : Stream) → header_place bs i ≡ h → stream_at bs h ≡ stream → nth_stream bs i ≡ stream
unfolding nth_stream
stream_is bs i h stream e f = rw e f

before_none : (bs : List ℕ) → streams_before bs 0 ≡ []
unfolding streams_before
before_none bs = refl

before_more : (bs : List ℕ) (i : ℕ) (earlier : List Stream) (stream : Stream) → streams_before bs i ≡ earlier → nth_stream bs i ≡ stream → streams_before bs (suc i) ≡ earlier ++ stream ∷ []
unfolding streams_before
before_more bs i earlier stream e f = rw (e, f) refl

record Earlier (s : Streams) : Type 0 where
  pub one : streams_before (metadata_bytes s) 1 ≡ tables_of s ∷ []
  pub two : streams_before (metadata_bytes s) 2 ≡ tables_of s ∷ strings_of s ∷ []
  pub three : streams_before (metadata_bytes s) 3 ≡ tables_of s ∷ strings_of s ∷ users_of s ∷ []
  pub four : streams_before (metadata_bytes s) 4 ≡ tables_of s ∷ strings_of s ∷ users_of s ∷ guids_of s ∷ []
  pub all : streams_before (metadata_bytes s) 5 ≡ tables_of s ∷ strings_of s ∷ users_of s ∷ guids_of s ∷ blobs_of s ∷ []

earlier : (s : Streams) → Headers s → Places s → Earlier s
earlier s h p =
    let bs : List ℕ = metadata_bytes s in
    let one : streams_before bs 1 ≡ tables_of s ∷ [] = before_more bs 0 [] (tables_of s) (before_none bs) (stream_is bs 0 32 (tables_of s) p.zeroth h.tables.fields) in
    let two : streams_before bs 2 ≡ tables_of s ∷ strings_of s ∷ [] = before_more bs 1 (tables_of s ∷ []) (strings_of s) one (stream_is bs 1 44 (strings_of s) p.first h.strings.fields) in
    let three : streams_before bs 3 ≡ tables_of s ∷ strings_of s ∷ users_of s ∷ [] = before_more bs 2 (tables_of s ∷ strings_of s ∷ []) (users_of s) two (stream_is bs 2 64 (users_of s) p.second h.users.fields) in
    let four : streams_before bs 4 ≡ tables_of s ∷ strings_of s ∷ users_of s ∷ guids_of s ∷ [] = before_more bs 3 (tables_of s ∷ strings_of s ∷ users_of s ∷ []) (guids_of s) three (stream_is bs 3 76 (guids_of s) p.third h.guids.fields) in
    record {
      one = one;
      two = two;
      three = three;
      four = four;
      all = before_more bs 4 (tables_of s ∷ strings_of s ∷ users_of s ∷ guids_of s ∷ []) (blobs_of s) four (stream_is bs 4 92 (blobs_of s) p.fourth h.blobs.fields);
    }

-- ---- how they stand beside each other

third_holds : (a b d : Bool) → (a || b || true || d) ≡ true
third_holds true b d = refl
third_holds false true d = refl
third_holds false false d = refl

apart_before : (s t : Stream) → s.offset + s.size ≤ t.offset → apart s t ≡ true
unfolding apart
apart_before s t h = rw (le-leb (s.offset + s.size) t.offset h) (third_holds (s.size == 0) (t.size == 0) (nat_le (t.offset + t.size) s.offset))

agrees_none : (s : Stream) → agrees s [] ≡ true
unfolding agrees
agrees_none s = refl

agrees_more : (s t : Stream) (ts : List Stream) → t.offset + t.size ≤ s.offset → repeats t s ≡ false → agrees s ts ≡ true → agrees s (t ∷ ts) ≡ true
unfolding agrees
agrees_more s t ts h r e = rw (apart_before t s h, r, e) refl

strings_agree : (s : Streams) → agrees (strings_of s) (tables_of s ∷ []) ≡ true
unfolding repeats name_number
strings_agree s = agrees_more (strings_of s) (tables_of s) [] (omega arith) refl (agrees_none (strings_of s))

users_agree : (s : Streams) → agrees (users_of s) (tables_of s ∷ strings_of s ∷ []) ≡ true
unfolding repeats name_number
users_agree s = agrees_more (users_of s) (tables_of s) (strings_of s ∷ []) (omega arith) refl
    (agrees_more (users_of s) (strings_of s) [] (omega arith) refl (agrees_none (users_of s)))

guids_agree : (s : Streams) → agrees (guids_of s) (tables_of s ∷ strings_of s ∷ users_of s ∷ []) ≡ true
unfolding repeats name_number
guids_agree s = agrees_more (guids_of s) (tables_of s) (strings_of s ∷ users_of s ∷ []) (omega arith) refl
    (agrees_more (guids_of s) (strings_of s) (users_of s ∷ []) (omega arith) refl
    (agrees_more (guids_of s) (users_of s) [] (omega arith) refl (agrees_none (guids_of s))))

blobs_agree : (s : Streams) → agrees (blobs_of s) (tables_of s ∷ strings_of s ∷ users_of s ∷ guids_of s ∷ []) ≡ true
unfolding repeats name_number
blobs_agree s = agrees_more (blobs_of s) (tables_of s) (strings_of s ∷ users_of s ∷ guids_of s ∷ []) (omega arith) refl
    (agrees_more (blobs_of s) (strings_of s) (users_of s ∷ guids_of s ∷ []) (omega arith) refl
    (agrees_more (blobs_of s) (users_of s) (guids_of s ∷ []) (omega arith) refl
    (agrees_more (blobs_of s) (guids_of s) [] (omega arith) refl (agrees_none (blobs_of s)))))

-- ---- demands on the root

root_held : (s : Streams) (base : ℕ) → first_fault (root_demands (metadata_bytes s) base) ≡ None
unfolding root_demands
root_held s base =
    let bs : List ℕ = metadata_bytes s in
    none_then _ _ (none_then _ _
    (one_holds (number 4 bs 0 == 0x424a5342) (bad_at base BAD_ROOT) (rw (signature_is s) refl))
    (one_holds ((version_length bs % 4 == 0) && nat_le (version_length bs) 256) (bad_at base BAD_ROOT) (rw (version_length_is s) refl)))
    (one_holds (nat_le (20 + version_length bs) (length bs)) (bad_at base BAD_ROOT) (rw (version_length_is s) (le-leb 32 (length bs) (omega (arith, metadata_size s)))))

-- ---- demands on the streams

fits_is : (bs : List ℕ) (s : Stream) (earlier : List Stream) → s.offset + s.size ≤ length bs → agrees s earlier ≡ true → (name_number s.name == name_number Uncompressed) ≡ false → stream_fits bs s earlier ≡ true
unfolding stream_fits
fits_is bs s earlier h a n = rw (le-leb (s.offset + s.size) (length bs) h, a, n) refl

stream_held : (bs : List ℕ) (base i h at size n : ℕ) (name : StreamName) (before : List Stream) → header_place bs i ≡ h → streams_before bs i ≡ before → Header bs h at size n name
    → at + size ≤ length bs → agrees (record { name = name; offset = at; size = size }) before ≡ true → (name_number name == name_number Uncompressed) ≡ false
    → first_fault (nth_stream_demands bs base i) ≡ None
unfolding nth_stream_demands stream_demands
stream_held bs base i h at size n name before e f header room agreed other =
    rw (e, f) (none_then _ _
    (one_holds (header_fits bs h) (bad_at (base + h) BAD_STREAM) header.fits)
    (one_holds (stream_fits bs (stream_at bs h) before) (bad_at (base + h) BAD_STREAM)
    (rw header.fields (fits_is bs (record { name = name; offset = at; size = size }) before room agreed other))))

streams_are : (s : Streams) → Earlier s → streams_of (metadata_bytes s) ≡ tables_of s ∷ strings_of s ∷ users_of s ∷ guids_of s ∷ blobs_of s ∷ []
unfolding streams_of
streams_are s e = rw (stream_count_is s) e.all

tables_called : (s : Streams) → Earlier s → is_some (stream_called Tables (streams_of (metadata_bytes s))) ≡ true
unfolding stream_called name_number
tables_called s e = rw (streams_are s e) refl

streams_held : (s : Streams) (base : ℕ) → Headers s → Places s → Earlier s → first_fault (streams_demands (metadata_bytes s) base) ≡ None
unfolding streams_demands name_number
streams_held s base h p e =
    let bs : List ℕ = metadata_bytes s in
    let size = metadata_size s in
    let demands : ℕ → List (Demand TablesError) = nth_stream_demands bs base in
    let d0 = stream_held bs base 0 32 tables_at (length s.tables) 12 Tables [] p.zeroth (before_none bs) h.tables (omega arith) (agrees_none (tables_of s)) refl in
    let d1 = stream_held bs base 1 44 (strings_at s) (length s.strings) 20 Strings (tables_of s ∷ []) p.first e.one h.strings (omega arith) (strings_agree s) refl in
    let d2 = stream_held bs base 2 64 (users_at s) (length s.users) 12 UserStrings (tables_of s ∷ strings_of s ∷ []) p.second e.two h.users (omega arith) (users_agree s) refl in
    let d3 = stream_held bs base 3 76 (guids_at s) (length s.guids) 16 Guids (tables_of s ∷ strings_of s ∷ users_of s ∷ []) p.third e.three h.guids (omega arith) (guids_agree s) refl in
    let d4 = stream_held bs base 4 92 (blobs_at s) (length s.blobs) 16 Blobs (tables_of s ∷ strings_of s ∷ users_of s ∷ guids_of s ∷ []) p.fourth e.four h.blobs (omega arith) (blobs_agree s) refl in
    let all = none_more demands 4 (none_more demands 3 (none_more demands 2 (none_more demands 1 (none_more demands 0 (none_below demands) d0) d1) d2) d3) d4 in
    none_then _ _ (rw (stream_count_is s) all)
    (one_holds (is_some (stream_called Tables (streams_of bs))) (bad_at base BAD_STREAM) (tables_called s e))

-- ---- heaps

called : (s : Streams) (name : StreamName) (stream : Stream) → Earlier s → stream_called name (tables_of s ∷ strings_of s ∷ users_of s ∷ guids_of s ∷ blobs_of s ∷ []) ≡ Some stream
    → (heap_place (metadata_bytes s) name ≡ stream.offset) × (heap_size (metadata_bytes s) name ≡ stream.size)
unfolding heap_place heap_size
called s name stream e f = (rw (streams_are s e, f) refl, rw (streams_are s e, f) refl)

heap_is : (s : Streams) (name : StreamName) (stream : Stream) (pre xs post : List ℕ) → Earlier s → stream_called name (tables_of s ∷ strings_of s ∷ users_of s ∷ guids_of s ∷ blobs_of s ∷ []) ≡ Some stream
    → metadata_bytes s ≡ (pre ++ xs) ++ post → stream.offset ≡ length pre → stream.size ≡ length xs → heap (metadata_bytes s) name ≡ xs
unfolding heap
heap_is s name stream pre xs post e f shape at size =
    let found = called s name stream e f in
    rw (found.0, found.1, size) (ap (λ (bs : List ℕ). take (length xs) (drop stream.offset bs)) shape ∙ part_between pre xs post stream.offset at)

split1 : (r a b c d e : List ℕ) → r ++ a ++ b ++ c ++ d ++ e ≡ (r ++ a) ++ (b ++ (c ++ (d ++ e)))
split1 r a b c d e = simp append_assoc

split2 : (r a b c d e : List ℕ) → r ++ a ++ b ++ c ++ d ++ e ≡ ((r ++ a) ++ b) ++ (c ++ (d ++ e))
split2 r a b c d e = simp append_assoc

split3 : (r a b c d e : List ℕ) → r ++ a ++ b ++ c ++ d ++ e ≡ (((r ++ a) ++ b) ++ c) ++ (d ++ e)
split3 r a b c d e = simp append_assoc

split5 : (r a b c d e : List ℕ) → r ++ a ++ b ++ c ++ d ++ e ≡ (((((r ++ a) ++ b) ++ c) ++ d) ++ e) ++ []
split5 r a b c d e = simp append-nil

-- ---- the law

pub metadata_law : (s : Streams) → CanStream s → StreamsReadBack s (metadata_bytes s)
unfolding stream_called name_number
metadata_law s can =
    let h = headers_read s can.small in
    let p = places s h in
    let e = earlier s h p in
    let r : List ℕ = root_bytes ++ stream_headers s in
    let before = before_size s in
    let one = length-append r s.tables in
    let two = length-append (r ++ s.tables) s.strings in
    let three = length-append (r ++ s.tables ++ s.strings) s.users in
    let four = length-append (r ++ s.tables ++ s.strings ++ s.users) s.guids in
    record {
      root = root_held s;
      streams = λ base. streams_held s base h p e;
      tables_place = (called s Tables (tables_of s) e refl).0;
      tables = heap_is s Tables (tables_of s) r s.tables (s.strings ++ (s.users ++ (s.guids ++ s.blobs))) e refl (whole s ∙ split1 r s.tables s.strings s.users s.guids s.blobs) (omega arith) refl;
      strings = heap_is s Strings (strings_of s) (r ++ s.tables) s.strings (s.users ++ (s.guids ++ s.blobs)) e refl (whole s ∙ split2 r s.tables s.strings s.users s.guids s.blobs) (omega arith) refl;
      users = heap_is s UserStrings (users_of s) (r ++ s.tables ++ s.strings) s.users (s.guids ++ s.blobs) e refl (whole s ∙ split3 r s.tables s.strings s.users s.guids s.blobs) (omega arith) refl;
      guids = heap_is s Guids (guids_of s) (r ++ s.tables ++ s.strings ++ s.users) s.guids s.blobs e refl (whole s) (omega arith) refl;
      blobs = heap_is s Blobs (blobs_of s) (r ++ s.tables ++ s.strings ++ s.users ++ s.guids) s.blobs [] e refl (whole s ∙ split5 r s.tables s.strings s.users s.guids s.blobs) (omega arith) refl;
    }
