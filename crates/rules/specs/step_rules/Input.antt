-- The program's input: UTF-8 as UTF-16 units. Each byte outside a well-formed sequence gives U+FFFD, and a byte order mark is a
-- unit as any other.
use Rattle.std.specs.Prelude.{ℕ, zero, suc, ◌+◌, ◌-◌, ◌*◌, nat_le, nat_lt, List, [], ◌∷◌, ◌++◌, Bool, ◌&&◌, Option, Some, None, ◌==◌, if◌then◌else◌}
use Rattle.std.specs.Char.Escape.{encode_utf16}

abbrev pub between : ℕ → ℕ → ℕ → Bool
between low high b = nat_le low b && nat_le b high

abbrev pub is_tail : ℕ → Bool
is_tail b = between 0x80 0xbf b

-- a character, and how many bytes it has after its first
pub record Decoded : Type 0 where
  pub char : ℕ
  pub more : ℕ

abbrev pub decoded_if : Bool → ℕ → ℕ → Option Decoded
decoded_if ok char more = if ok then Some (record { char = char; more = more }) else None

-- the second byte is narrower after e0 and f0 (no longer spelling than is needed), ed (no surrogate) and f4 (not past 10ffff)
abbrev pub second_low : ℕ → ℕ
second_low b = if b == 0xe0 then 0xa0 else if b == 0xf0 then 0x90 else 0x80

abbrev pub second_high : ℕ → ℕ
second_high b = if b == 0xed then 0x9f else if b == 0xf4 then 0x8f else 0xbf

abbrev pub is_second : ℕ → ℕ → Bool
is_second b c = between (second_low b) (second_high b) c

abbrev pub two_at : ℕ → List ℕ → Option Decoded
two_at b (c ∷ bs) = decoded_if (is_tail c) ((b - 0xc0) * 64 + (c - 0x80)) 1
two_at b [] = None

abbrev pub three_at : ℕ → List ℕ → Option Decoded
three_at b (c ∷ d ∷ bs) = decoded_if (is_second b c && is_tail d) ((b - 0xe0) * 4096 + (c - 0x80) * 64 + (d - 0x80)) 2
three_at b _ = None

abbrev pub four_at : ℕ → List ℕ → Option Decoded
four_at b (c ∷ d ∷ e ∷ bs) =
    decoded_if (is_second b c && is_tail d && is_tail e) ((b - 0xf0) * 262144 + (c - 0x80) * 4096 + (d - 0x80) * 64 + (e - 0x80)) 3
four_at b _ = None

-- the character whose well-formed sequence begins with this byte, with the bytes after it
unfoldable pub char_at : ℕ → List ℕ → Option Decoded
char_at b bs =
    if nat_lt b 0x80 then decoded_if (nat_lt b 0x80) b 0
    else if between 0xc2 0xdf b then two_at b bs
    else if between 0xe0 0xef b then three_at b bs
    else if between 0xf0 0xf4 b then four_at b bs
    else None

abbrev pub units_before : Option Decoded → List ℕ
units_before None = 0xfffd ∷ []
units_before (Some d) = encode_utf16 d.char

abbrev pub more_bytes : Option Decoded → ℕ
more_bytes None = 0
more_bytes (Some d) = d.more

-- the units of the bytes after these many that belong to a character before
unfoldable pub decoded_after : ℕ → List ℕ → List ℕ
decoded_after n [] = []
decoded_after zero (b ∷ bs) = let d = char_at b bs in units_before d ++ decoded_after (more_bytes d) bs
decoded_after (suc n) (b ∷ bs) = decoded_after n bs

abbrev pub decoded : List ℕ → List ℕ
decoded bytes = decoded_after 0 bytes
