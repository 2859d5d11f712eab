-- Numbers in bytes: little-endian ones at a place (II.22, II.25), and compressed ones (II.23.2).
-- A list of bytes is a list of numbers below 256, and places count from 0.
use Rattle.std.specs.Prelude.{ℕ, ◌+◌, ◌-◌, nat_le, nat_lt, List, [], ◌∷◌, length, take, drop, Option, Some, None, if◌then◌else◌}
use Rattle.byteorder.specs.Endian.{little_number, big_number}

-- the n bytes from a place, where they are there
unfoldable pub bytes_at : List ℕ → ℕ → ℕ → Option (List ℕ)
bytes_at bs at n = if nat_le (at + n) (length bs) then Some (take n (drop at bs)) else None

-- the number of n bytes at a place, the lowest byte first
unfoldable pub number_at : ℕ → List ℕ → ℕ → Option ℕ
number_at n bs at = if nat_le (at + n) (length bs) then Some (little_number n (drop at bs)) else None

-- the compressed number at the front, and how many bytes it takes: 1, 2 or 4, by the lead bits 0, 10 or 110 of its
-- first byte, the highest byte first. A longer form than the number needs is read too.
unfoldable pub compressed_at : List ℕ → Option (ℕ × ℕ)
compressed_at [] = None
compressed_at (b ∷ bs) =
    if nat_lt b 128 then Some (b, 1)
    else if nat_lt b 192 then (if nat_lt (length bs) 1 then None else Some (big_number 2 (b ∷ bs) - 32768, 2))
    else if nat_lt b 224 then (if nat_lt (length bs) 3 then None else Some (big_number 4 (b ∷ bs) - 3221225472, 4))
    else None

-- the number alone
abbrev pub value_of : Option (ℕ × ℕ) → Option ℕ
value_of None = None
value_of (Some x) = Some x.0

-- how many bytes it takes, 0 where there is none
abbrev pub size_of : Option (ℕ × ℕ) → ℕ
size_of None = 0
size_of (Some x) = x.1
