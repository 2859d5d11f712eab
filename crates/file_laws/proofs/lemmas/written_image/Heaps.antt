-- The root and the stream headers of metadata that is laid out, and where its streams are found.
use Rattle.std.proofs.Common.{◌≡◌, ℕ, ◌+◌, ◌^◌, ◌<◌, ◌≤◌, List, ◌++◌, length, refl, ap, ◌∙◌, append_assoc, arith, length-append}
use Rattle.std.specs.Prelude.{codes}
use Rattle.il_base.specs.Bytes.{number_at}
use Rattle.il_base.specs.declared.cli_format.stream.StreamName.TheVariants.{Tables, Strings, UserStrings, Guids, Blobs}
use Rattle.il_base.specs.cli_format.Demand.{number}
use Rattle.il_base.specs.cli_format.Streams.{version_length, stream_count, streams_place}
use Rattle.rules.specs.file_layout.Bytes.{zeros}
use Rattle.rules.specs.file_layout.Metadata.{Streams, stream_header, tables_at, strings_at, users_at, guids_at, blobs_at, stream_headers, root_bytes, metadata_bytes}
use Rattle.file_laws.proofs.lemmas.written_image.Numbers.{number_front}
use Rattle.file_laws.proofs.lemmas.written_image.Names.{Header, read_header, tables_name, strings_name, users_name, guids_name, blobs_name}

-- ---- sizes

root_size : length root_bytes ≡ 32
unfolding root_bytes
root_size = refl

headers_size : (s : Streams) → length (stream_headers s) ≡ 76
unfolding stream_headers
headers_size s = refl

-- the five headers
abbrev pub header1 : Streams → List ℕ
header1 s = stream_header tables_at s.tables (codes "#~" ++ zeros 2)

abbrev pub header2 : Streams → List ℕ
header2 s = stream_header (strings_at s) s.strings (codes "#Strings" ++ zeros 4)

abbrev pub header3 : Streams → List ℕ
header3 s = stream_header (users_at s) s.users (codes "#US" ++ zeros 1)

abbrev pub header4 : Streams → List ℕ
header4 s = stream_header (guids_at s) s.guids (codes "#GUID" ++ zeros 3)

abbrev pub header5 : Streams → List ℕ
header5 s = stream_header (blobs_at s) s.blobs (codes "#Blob" ++ zeros 3)

headers_are : (s : Streams) → stream_headers s ≡ header1 s ++ header2 s ++ header3 s ++ header4 s ++ header5 s
unfolding stream_headers
headers_are s = refl

pub before_size : (s : Streams) → length (root_bytes ++ stream_headers s) ≡ tables_at
before_size s = omega (arith, root_size, headers_size s, length-append root_bytes (stream_headers s))

pub whole : (s : Streams) → metadata_bytes s ≡ root_bytes ++ stream_headers s ++ s.tables ++ s.strings ++ s.users ++ s.guids ++ s.blobs
unfolding metadata_bytes
whole s = refl

pub metadata_size : (s : Streams) → length (metadata_bytes s) ≡ blobs_at s + length s.blobs
metadata_size s =
    let before = before_size s in
    ap length (whole s) ∙ sizes (root_bytes ++ stream_headers s) s.tables s.strings s.users s.guids s.blobs ∙ omega arith
  where
    sizes : (a b c d e f : List ℕ) → length (a ++ b ++ c ++ d ++ e ++ f) ≡ length a + length b + length c + length d + length e + length f
    sizes a b c d e f = simp length-append

-- ---- the root (II.24.2.1)

in_root : (s : Streams) (n at : ℕ) → at + n ≤ 32 → number n (metadata_bytes s) at ≡ number n root_bytes at
in_root s n at h =
    let size = root_size in
    ap (λ (bs : List ℕ). number n bs at) (whole s ∙ root_first root_bytes (stream_headers s) s.tables s.strings s.users s.guids s.blobs)
    ∙ number_front n root_bytes (stream_headers s ++ (s.tables ++ (s.strings ++ (s.users ++ (s.guids ++ s.blobs))))) at (omega arith)
  where
    root_first : (r a b c d e f : List ℕ) → r ++ a ++ b ++ c ++ d ++ e ++ f ≡ r ++ (a ++ (b ++ (c ++ (d ++ (e ++ f)))))
    root_first r a b c d e f = simp append_assoc

pub signature_is : (s : Streams) → number 4 (metadata_bytes s) 0 ≡ 0x424a5342
unfolding number number_at root_bytes
signature_is s = in_root s 4 0 (omega arith) ∙ refl

pub version_length_is : (s : Streams) → version_length (metadata_bytes s) ≡ 12
unfolding version_length number number_at root_bytes
version_length_is s = in_root s 4 12 (omega arith) ∙ refl

five : (s : Streams) → number 2 (metadata_bytes s) 30 ≡ 5
unfolding number number_at root_bytes
five s = in_root s 2 30 (omega arith) ∙ refl

pub stream_count_is : (s : Streams) → stream_count (metadata_bytes s) ≡ 5
unfolding stream_count
stream_count_is s = rw (version_length_is s) (five s)

pub streams_place_is : (s : Streams) → streams_place (metadata_bytes s) ≡ 32
unfolding streams_place
streams_place_is s = rw (version_length_is s) refl

-- ---- the stream headers (II.24.2.2)

pub record Headers (s : Streams) : Type 0 where
  pub tables : Header (metadata_bytes s) 32 tables_at (length s.tables) 12 Tables
  pub strings : Header (metadata_bytes s) 44 (strings_at s) (length s.strings) 20 Strings
  pub users : Header (metadata_bytes s) 64 (users_at s) (length s.users) 12 UserStrings
  pub guids : Header (metadata_bytes s) 76 (guids_at s) (length s.guids) 16 Guids
  pub blobs : Header (metadata_bytes s) 92 (blobs_at s) (length s.blobs) 16 Blobs

abbrev contents : Streams → List ℕ
contents s = s.tables ++ (s.strings ++ (s.users ++ (s.guids ++ s.blobs)))

flat : (s : Streams) → metadata_bytes s ≡ root_bytes ++ (header1 s ++ header2 s ++ header3 s ++ header4 s ++ header5 s) ++ s.tables ++ s.strings ++ s.users ++ s.guids ++ s.blobs
flat s = whole s ∙ ap (λ (headers : List ℕ). root_bytes ++ headers ++ s.tables ++ s.strings ++ s.users ++ s.guids ++ s.blobs) (headers_are s)

split1 : (r a b c d e f g h i j : List ℕ) → r ++ (a ++ b ++ c ++ d ++ e) ++ f ++ g ++ h ++ i ++ j ≡ (r ++ a) ++ (b ++ (c ++ (d ++ (e ++ (f ++ (g ++ (h ++ (i ++ j))))))))
split1 r a b c d e f g h i j = simp append_assoc

split2 : (r a b c d e f g h i j : List ℕ) → r ++ (a ++ b ++ c ++ d ++ e) ++ f ++ g ++ h ++ i ++ j ≡ ((r ++ a) ++ b) ++ (c ++ (d ++ (e ++ (f ++ (g ++ (h ++ (i ++ j)))))))
split2 r a b c d e f g h i j = simp append_assoc

split3 : (r a b c d e f g h i j : List ℕ) → r ++ (a ++ b ++ c ++ d ++ e) ++ f ++ g ++ h ++ i ++ j ≡ (((r ++ a) ++ b) ++ c) ++ (d ++ (e ++ (f ++ (g ++ (h ++ (i ++ j))))))
split3 r a b c d e f g h i j = simp append_assoc

split4 : (r a b c d e f g h i j : List ℕ) → r ++ (a ++ b ++ c ++ d ++ e) ++ f ++ g ++ h ++ i ++ j ≡ ((((r ++ a) ++ b) ++ c) ++ d) ++ (e ++ (f ++ (g ++ (h ++ (i ++ j)))))
split4 r a b c d e f g h i j = simp append_assoc

split5 : (r a b c d e f g h i j : List ℕ) → r ++ (a ++ b ++ c ++ d ++ e) ++ f ++ g ++ h ++ i ++ j ≡ (((((r ++ a) ++ b) ++ c) ++ d) ++ e) ++ (f ++ (g ++ (h ++ (i ++ j))))
split5 r a b c d e f g h i j = simp append_assoc

-- all of it has less than 2^31 bytes, so each number fits its field
pub headers_read : (s : Streams) → length (metadata_bytes s) < 2 ^ 31 → Headers s
headers_read s small =
    let size = metadata_size s in
    let root = root_size in
    let one = length-append root_bytes (header1 s) in
    let two = length-append (root_bytes ++ header1 s) (header2 s) in
    let three = length-append (root_bytes ++ header1 s ++ header2 s) (header3 s) in
    let four = length-append (root_bytes ++ header1 s ++ header2 s ++ header3 s) (header4 s) in
    record {
      tables = read_header (metadata_bytes s) root_bytes (codes "#~" ++ zeros 2) (header2 s ++ (header3 s ++ (header4 s ++ (header5 s ++ contents s)))) 32 tables_at (length s.tables) 2 2 Tables tables_name
          (flat s ∙ split1 root_bytes (header1 s) (header2 s) (header3 s) (header4 s) (header5 s) s.tables s.strings s.users s.guids s.blobs) (omega arith) (omega arith) (omega arith);
      strings = read_header (metadata_bytes s) (root_bytes ++ header1 s) (codes "#Strings" ++ zeros 4) (header3 s ++ (header4 s ++ (header5 s ++ contents s))) 44 (strings_at s) (length s.strings) 8 4 Strings strings_name
          (flat s ∙ split2 root_bytes (header1 s) (header2 s) (header3 s) (header4 s) (header5 s) s.tables s.strings s.users s.guids s.blobs) (omega arith) (omega arith) (omega arith);
      users = read_header (metadata_bytes s) (root_bytes ++ header1 s ++ header2 s) (codes "#US" ++ zeros 1) (header4 s ++ (header5 s ++ contents s)) 64 (users_at s) (length s.users) 3 1 UserStrings users_name
          (flat s ∙ split3 root_bytes (header1 s) (header2 s) (header3 s) (header4 s) (header5 s) s.tables s.strings s.users s.guids s.blobs) (omega arith) (omega arith) (omega arith);
      guids = read_header (metadata_bytes s) (root_bytes ++ header1 s ++ header2 s ++ header3 s) (codes "#GUID" ++ zeros 3) (header5 s ++ contents s) 76 (guids_at s) (length s.guids) 5 3 Guids guids_name
          (flat s ∙ split4 root_bytes (header1 s) (header2 s) (header3 s) (header4 s) (header5 s) s.tables s.strings s.users s.guids s.blobs) (omega arith) (omega arith) (omega arith);
      blobs = read_header (metadata_bytes s) (root_bytes ++ header1 s ++ header2 s ++ header3 s ++ header4 s) (codes "#Blob" ++ zeros 3) (contents s) 92 (blobs_at s) (length s.blobs) 5 3 Blobs blobs_name
          (flat s ∙ split5 root_bytes (header1 s) (header2 s) (header3 s) (header4 s) (header5 s) s.tables s.strings s.users s.guids s.blobs) (omega arith) (omega arith) (omega arith);
    }
