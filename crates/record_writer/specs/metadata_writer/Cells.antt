-- A row by the widths of its columns.
use Rattle.std.specs.Prelude.{ℕ, List, [], ◌∷◌, ◌++◌}
use Rattle.byteorder.specs.Endian.{little_bytes}

-- numbers one after another, each in as many bytes as its width says
abbrev pub cells_bytes : List ℕ → List ℕ → List ℕ
cells_bytes [] ns = []
cells_bytes (w ∷ ws) [] = []
cells_bytes (w ∷ ws) (n ∷ ns) = little_bytes w n ++ cells_bytes ws ns
