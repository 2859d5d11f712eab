-- The metadata root and its streams (II.24.2.1, II.24.2.2). `bs` are the bytes of the metadata, from its root on.
use Rattle.std.specs.Prelude.{ℕ, zero, suc, ◌+◌, ◌-◌, ◌%◌, Bool, true, not, ◌==◌, ◌&&◌, ◌||◌, nat_le, nat_lt, List, [], ◌∷◌, ◌++◌, length, take, drop, Option, Some, None, if◌then◌else◌, codes, bytes_eq, position, unwrap_or}
use Rattle.std.specs.Option.{option_map}
use Rattle.il_base.specs.declared.cli_format.stream.Stream.{Stream}
use Rattle.il_base.specs.declared.cli_format.stream.StreamName.{StreamName}
use Rattle.il_base.specs.declared.cli_format.stream.StreamName.TheVariants.{Tables, Strings, UserStrings, Guids, Blobs, Uncompressed, Other}
use Rattle.il_base.specs.cli_format.Demand.{number}

-- the stream that a name, without its zeros, names
abbrev pub named : List ℕ → StreamName
named name =
    if bytes_eq name (codes "#~") then Tables
    else if bytes_eq name (codes "#Strings") then Strings
    else if bytes_eq name (codes "#US") then UserStrings
    else if bytes_eq name (codes "#GUID") then Guids
    else if bytes_eq name (codes "#Blob") then Blobs
    else if bytes_eq name (codes "#-") then Uncompressed
    else Other

-- ---- the root (II.24.2.1)

-- the bytes of the version text, with the zeros after it
unfoldable pub version_length : List ℕ → ℕ
version_length bs = number 4 bs 12

unfoldable pub stream_count : List ℕ → ℕ
stream_count bs = number 2 bs (18 + version_length bs)

-- where the stream headers begin
unfoldable pub streams_place : List ℕ → ℕ
streams_place bs = 20 + version_length bs

-- ---- stream headers (II.24.2.2): offset, size, and a name with zeros up to a multiple of 4, at least one

-- the length of the name in a header at a place; more than 32 are not looked at
unfoldable pub name_length : List ℕ → ℕ → ℕ
name_length bs h = unwrap_or (position (λ b. b == 0) (take 33 (drop (h + 8) bs))) (length (take 33 (drop (h + 8) bs)))

-- the zeros after the name
unfoldable pub padding_length : List ℕ → ℕ → ℕ
padding_length bs h = 4 - name_length bs h % 4

unfoldable pub header_size : List ℕ → ℕ → ℕ
header_size bs h = 8 + name_length bs h + padding_length bs h

unfoldable pub stream_at : List ℕ → ℕ → Stream
stream_at bs h = record { name = named (take (name_length bs h) (drop (h + 8) bs)); offset = number 4 bs h; size = number 4 bs (h + 4) }

-- the place of the header with a number, from 0
unfoldable pub header_place : List ℕ → ℕ → ℕ
header_place bs zero = streams_place bs
header_place bs (suc i) = header_place bs i + header_size bs (header_place bs i)

unfoldable pub nth_stream : List ℕ → ℕ → Stream
nth_stream bs i = stream_at bs (header_place bs i)

-- the streams before the one with a number
unfoldable pub streams_before : List ℕ → ℕ → List Stream
streams_before bs zero = []
streams_before bs (suc i) = streams_before bs i ++ nth_stream bs i ∷ []

unfoldable pub streams_of : List ℕ → List Stream
streams_of bs = streams_before bs (stream_count bs)

-- ---- how streams stand beside each other

unfoldable pub name_number : StreamName → ℕ
name_number Tables = 0
name_number Strings = 1
name_number UserStrings = 2
name_number Guids = 3
name_number Blobs = 4
name_number Uncompressed = 5
name_number Other = 6

-- two streams of the same name, one of those that II.24.2.2 describes
unfoldable pub repeats : Stream → Stream → Bool
repeats s t = (name_number s.name == name_number t.name) && nat_lt (name_number s.name) 5

-- two streams have no byte in common
unfoldable pub apart : Stream → Stream → Bool
apart s t = s.size == 0 || t.size == 0 || nat_le (s.offset + s.size) t.offset || nat_le (t.offset + t.size) s.offset

-- a stream overlaps none of the earlier ones, and repeats the name of none
unfoldable pub agrees : Stream → List Stream → Bool
agrees s [] = true
agrees s (t ∷ ts) = apart t s && not (repeats t s) && agrees s ts

-- ---- heaps

-- the first stream of a name
unfoldable pub stream_called : StreamName → List Stream → Option Stream
stream_called name [] = None
stream_called name (s ∷ ss) = if name_number s.name == name_number name then Some s else stream_called name ss

-- the place of a heap, and 0 where there is none
unfoldable pub heap_place : List ℕ → StreamName → ℕ
heap_place bs name = unwrap_or (option_map (λ s. s.offset) (stream_called name (streams_of bs))) 0

unfoldable pub heap_size : List ℕ → StreamName → ℕ
heap_size bs name = unwrap_or (option_map (λ s. s.size) (stream_called name (streams_of bs))) 0

-- the bytes of a heap: one that is missing is empty
unfoldable pub heap : List ℕ → StreamName → List ℕ
heap bs name = take (heap_size bs name) (drop (heap_place bs name) bs)

-- all bytes are zeros
unfoldable pub zeros : List ℕ → Bool
zeros [] = true
zeros (b ∷ bs) = (b == 0) && zeros bs
