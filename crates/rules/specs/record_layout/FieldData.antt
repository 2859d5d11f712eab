-- The bytes of fields (II.22.18): after the bodies, in the order of FieldRVA, each at a multiple of 8.
use Rattle.std.specs.Prelude.{ℕ, ◌+◌, ◌%◌, List, [], ◌∷◌, ◌++◌, length}
use Rattle.il_base.specs.declared.world_model.known.Known.{Known}
use Rattle.il_base.specs.declared.world_model.known.Known.TheVariants.{Good, Bad}
use Rattle.il_base.specs.declared.world_model.extras.FieldRvaRow.{FieldRvaRow}
use Rattle.rules.specs.file_layout.Bytes.{aligned, padded}
use Rattle.rules.specs.file_layout.Image.{code_rva}

abbrev pub data_of : Known (List ℕ) → List ℕ
data_of (Good bytes) = bytes
data_of (Bad why) = []

-- some bytes with the bytes of a field after them
unfoldable pub with_data : List ℕ → FieldRvaRow → List ℕ
with_data before row = padded 8 before ++ data_of row.bytes

-- some bytes with the bytes of several fields after them
unfoldable pub with_all_data : List ℕ → List FieldRvaRow → List ℕ
with_all_data before [] = before
with_all_data before (row ∷ rows) = with_all_data (with_data before row) rows

-- the addresses of the fields' bytes, which have 32 bits
unfoldable pub data_rvas : List ℕ → List FieldRvaRow → List ℕ
data_rvas before [] = []
data_rvas before (row ∷ rows) = (code_rva + aligned 8 (length before)) % 4294967296 ∷ data_rvas (with_data before row) rows
