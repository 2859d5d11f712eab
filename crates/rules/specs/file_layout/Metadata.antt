-- The metadata root and its five streams (II.24.2.1, II.24.2.2), one after the other.
use Rattle.std.specs.Prelude.{ℕ, ◌+◌, List, ◌++◌, length, codes}
use Rattle.rules.specs.file_layout.Bytes.{half, word, zeros}

pub record Streams : Type 0 where
  pub tables : List ℕ
  pub strings : List ℕ
  pub users : List ℕ
  pub guids : List ℕ
  pub blobs : List ℕ

-- a stream header: offset from the root, size, and the name with its zeros
abbrev pub stream_header : ℕ → List ℕ → List ℕ → List ℕ
stream_header at stream name = word at ++ word (length stream) ++ name

-- where each stream begins; the headers end at 6c
abbrev pub tables_at : ℕ
tables_at = 0x6c

abbrev pub strings_at : Streams → ℕ
strings_at s = tables_at + length s.tables

abbrev pub users_at : Streams → ℕ
users_at s = strings_at s + length s.strings

abbrev pub guids_at : Streams → ℕ
guids_at s = users_at s + length s.users

abbrev pub blobs_at : Streams → ℕ
blobs_at s = guids_at s + length s.guids

unfoldable pub stream_headers : Streams → List ℕ
stream_headers s =
    stream_header tables_at s.tables (codes "#~" ++ zeros 2)
    ++ stream_header (strings_at s) s.strings (codes "#Strings" ++ zeros 4)
    ++ stream_header (users_at s) s.users (codes "#US" ++ zeros 1)
    ++ stream_header (guids_at s) s.guids (codes "#GUID" ++ zeros 3)
    ++ stream_header (blobs_at s) s.blobs (codes "#Blob" ++ zeros 3)

-- the signature, version 1.1, the version text with its length, no flags, five streams
unfoldable pub root_bytes : List ℕ
root_bytes = word 0x424a5342 ++ half 1 ++ half 1 ++ word 0 ++ word 12 ++ (codes "v4.0.30319" ++ zeros 2) ++ half 0 ++ half 5

unfoldable pub metadata_bytes : Streams → List ℕ
metadata_bytes s = root_bytes ++ stream_headers s ++ s.tables ++ s.strings ++ s.users ++ s.guids ++ s.blobs
