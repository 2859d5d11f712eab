-- What holds of metadata once parts of it were looked at.
use Rattle.std.specs.Prelude.{◌≡◌, ℕ, ◌+◌, ◌<◌, ◌≤◌, List, [], ◌∷◌, Bool, true, false, not, ◌&&◌, ◌||◌, nat_le, nat_lt, length, drop, get_or, is_some, Some}
use Rattle.il_base.specs.cli_format.Heaps.{text_at}
use Rattle.il_base.specs.declared.cli_format.stream.StreamName.{StreamName}
use Rattle.il_base.specs.declared.cli_format.stream.Stream.{Stream}
use Rattle.il_base.specs.cli_format.Tables.{rows_of, table_place}
use Rattle.il_base.specs.cli_format.Streams.{streams_of, stream_called, apart, repeats}

-- each stream lies in the metadata
abbrev pub StreamsWithin : List ℕ → Type 0
StreamsWithin bs = (name : StreamName) (s : Stream) → stream_called name (streams_of bs) ≡ Some s → s.offset + s.size ≤ length bs

-- the row counts of the tables below a number
abbrev pub AreRows : List ℕ → List ℕ → ℕ → Type 0
AreRows ts rows n = (t : ℕ) → t < n → get_or rows t 0 ≡ rows_of ts t

-- the places of the tables below a number
abbrev pub ArePlaces : List ℕ → List ℕ → ℕ → Type 0
ArePlaces ts places n = (t : ℕ) → t < n → get_or places t 0 ≡ table_place ts t

-- the flags from a place on say where texts begin
abbrev pub AreGood : List ℕ → List Bool → ℕ → Type 0
AreGood h good n = (k : ℕ) → n ≤ k → k < length h → get_or good k false ≡ is_some (text_at (drop k h))

-- from a place up to another one, characters of several bytes go on
abbrev pub AreTails : List ℕ → ℕ → ℕ → Type 0
AreTails h m n = (k : ℕ) → m ≤ k → k < n → (128 ≤ get_or h k 0) × (get_or h k 0 < 192)

-- at a place no character goes on
abbrev pub IsLead : List ℕ → ℕ → Type 0
IsLead h n = n < length h → 128 ≤ get_or h n 0 → 192 ≤ get_or h n 0

-- ---- streams beside each other

-- no flag is set
unfoldable pub clear : List Bool → Bool
clear [] = true
clear (f ∷ fs) = not f && clear fs

-- a byte of the metadata is in a stream, or in one of several
unfoldable pub covers : Stream → ℕ → Bool
covers s k = nat_le s.offset k && nat_lt k (s.offset + s.size)

unfoldable pub covered : List Stream → ℕ → Bool
covered [] k = false
covered (t ∷ ts) k = covers t k || covered ts k

-- the flags say which bytes are in streams
abbrev pub AreTaken : List Stream → List Bool → Type 0
AreTaken ts flags = (k : ℕ) → k < length flags → get_or flags k false ≡ covered ts k

-- a stream overlaps none of the earlier ones
unfoldable pub free_of : Stream → List Stream → Bool
free_of s [] = true
free_of s (t ∷ ts) = apart t s && free_of s ts

-- it repeats the name of none of them
unfoldable pub fresh : Stream → List Stream → Bool
fresh s [] = true
fresh s (t ∷ ts) = not (repeats t s) && fresh s ts
