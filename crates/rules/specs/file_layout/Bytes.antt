-- Numbers and zeros in a file that is written.
use Rattle.std.specs.Prelude.{ℕ, ◌+◌, ◌-◌, ◌*◌, ◌/◌, List, ◌++◌, length, replicate}
use Rattle.byteorder.specs.Endian.{little_bytes}

-- a number of two bytes or of four, the lowest first
abbrev pub half : ℕ → List ℕ
half n = little_bytes 2 n

abbrev pub word : ℕ → List ℕ
word n = little_bytes 4 n

abbrev pub zeros : ℕ → List ℕ
zeros n = replicate n 0

-- the next multiple of a number
unfoldable pub aligned : ℕ → ℕ → ℕ
aligned k n = (n + (k - 1)) / k * k

-- bytes with zeros after them, up to the next multiple of a number
abbrev pub padded : ℕ → List ℕ → List ℕ
padded k bs = bs ++ zeros (aligned k (length bs) - length bs)
