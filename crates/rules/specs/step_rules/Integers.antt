-- Integers as cells of their types keep them, and as the evaluation stack has them (I.12.1.2, III.1.1.1). A type is known by
-- its element type (II.23.1.16); Boolean has one byte, Char two, native integers eight.
use Rattle.std.specs.Prelude.{ℕ, ◌-◌, ◌*◌, ◌^◌, ◌==◌, nat_lt, ℤ, pos, negsuc, unsigned_abs, Bool, ◌||◌, Option, Some, None, if◌then◌else◌}
use Rattle.std.specs.Int.{Width, w8, w16, w32, w64, int_wrap, int_rem_euclid, byte_len, cast_unsigned}
use Rattle.std.specs.Option.{option_map}
use Rattle.il_base.specs.declared.element.TheConstants.{BOOLEAN, CHAR, I1, U1, I2, U2, I8, U8, I, U}
use Rattle.il_base.specs.declared.cil_values.value.Value.{Value}
use Rattle.il_base.specs.declared.cil_values.value.Value.TheVariants as value

-- ---- two's complement

abbrev pub bits : Width → ℕ
bits w = 8 * byte_len w

-- the number with these low bits from 0 to 2 ^ bits - 1
unfoldable pub low : Width → ℤ → ℕ
low w n = unsigned_abs (int_rem_euclid n (pos (2 ^ bits w)))

-- the number with these low bits from -2 ^ (bits - 1) to 2 ^ (bits - 1) - 1
abbrev pub wrap : Width → ℤ → ℤ
wrap w n = int_wrap w n

abbrev pub is_below_half : Width → ℕ → Bool
is_below_half w n = nat_lt n (2 ^ (bits w - 1))

-- whether a signed integer of a width can be this number
unfoldable pub fits_signed : Width → ℤ → Bool
fits_signed w (pos n) = is_below_half w n
fits_signed w (negsuc n) = is_below_half w n

abbrev pub fits_unsigned : Width → ℕ → Bool
fits_unsigned w n = nat_lt n (2 ^ bits w)

-- ---- types

abbrev pub is_native : ℕ → Bool
is_native code = code == I || code == U

abbrev pub is_long : ℕ → Bool
is_long code = code == I8 || code == U8

-- the width of an integer type in bytes
unfoldable pub width_of : ℕ → ℕ
width_of code =
    if code == BOOLEAN || code == I1 || code == U1 then 1
    else if code == CHAR || code == I2 || code == U2 then 2
    else if is_long code || is_native code then 8
    else 4

-- the number as a cell of the type keeps it: short ones are cut, and then extended by their sign or by zeros
unfoldable pub cut : ℕ → ℤ → ℤ
cut code n =
    if code == I1 then wrap w8 n
    else if code == BOOLEAN || code == U1 then pos (low w8 n)
    else if code == I2 then wrap w16 n
    else if code == CHAR || code == U2 then pos (low w16 n)
    else if is_long code || is_native code then wrap w64 n
    else wrap w32 n

-- a number of the type on the stack
unfoldable pub number : ℕ → ℤ → Value
number code n =
    if is_native code then value.Native (cut code n)
    else if is_long code then value.I8 (cut code n)
    else value.I4 (cut code n)

-- a native unsigned integer takes an int32 as unsigned
abbrev pub widened : ℕ → ℤ → ℤ
widened code n = if code == U then pos (cast_unsigned w32 n) else n

abbrev pub if_not : Bool → ℤ → Option ℤ
if_not b n = if b then None else Some n

abbrev pub only_if : Bool → ℤ → Option ℤ
only_if b n = if b then Some n else None

-- the number of a value for a slot of the type (III.1.6): an int64 fits a 64-bit slot only, any other integer every other slot
unfoldable pub worth : ℕ → Value → Option ℤ
worth code (value.I4 n) = if_not (is_long code) (widened code n)
worth code (value.Native n) = if_not (is_long code) n
worth code (value.I8 n) = only_if (is_long code) n
worth code _ = None

-- the value as a slot of the type keeps it
abbrev pub narrowed : ℕ → Value → Option Value
narrowed code v = option_map (number code) (worth code v)

-- the number that a cell of an integer type holds
unfoldable pub held_number : Value → Option ℤ
held_number (value.I4 n) = Some n
held_number (value.I8 n) = Some n
held_number (value.Native n) = Some n
held_number _ = None

-- an integer as a load of a type gives it, from a cell of the same width
unfoldable pub shown : ℕ → Value → Option Value
shown code v = option_map (number code) (held_number v)

-- whether two integer types have the same width
abbrev pub same_width : ℕ → ℕ → Bool
same_width a b = width_of a == width_of b
