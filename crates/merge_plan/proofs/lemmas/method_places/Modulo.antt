-- The addresses of the bytes of fields by the size of what is before them, modulo 2^32.
use Rattle.std.proofs.Common.{◌≡◌, ℕ, ◌+◌, ◌*◌, ◌/◌, ◌%◌, List, [], ◌∷◌, refl, ap, ◌∙◌, sym, arith}
use Rattle.il_base.specs.declared.world_model.extras.FieldRvaRow.{FieldRvaRow}
use Rattle.rules.specs.file_layout.Bytes.{aligned}
use Rattle.rules.specs.file_layout.Image.{code_rva}
use Rattle.rules.specs.merge_rules.Refs.{Output}
use Rattle.rules.specs.merge_rules.Restricted.{bytes_length, placed_bytes, field_rvas}

rva_modulo : (n : ℕ) → (code_rva + aligned 8 (n % 4294967296)) % 4294967296 ≡ (code_rva + aligned 8 n) % 4294967296
unfolding aligned
rva_modulo n = by_case n
  where
    by_case : (k : ℕ) → (0x2050 + (k % 4294967296 + 7) / 8 * 8) % 4294967296 ≡ (0x2050 + (k + 7) / 8 * 8) % 4294967296
    by_case k = omega arith

next_modulo : (n l : ℕ) → (aligned 8 (n % 4294967296) + l) % 4294967296 ≡ (aligned 8 n + l) % 4294967296
unfolding aligned
next_modulo n l = omega arith

abbrev with_address : ℕ → FieldRvaRow → FieldRvaRow
with_address rva row = record row { rva = rva }

bytes_modulo : (n : ℕ) (rows : List FieldRvaRow) → placed_bytes (n % 4294967296) rows ≡ placed_bytes n rows
unfolding placed_bytes
bytes_modulo n [] = refl
bytes_modulo n (row ∷ rows) =
    ap (λ (rva : ℕ). with_address rva row ∷ placed_bytes (aligned 8 (n % 4294967296) + bytes_length row.bytes) rows) (rva_modulo n)
    ∙ ap (λ (rest : List FieldRvaRow). with_address ((code_rva + aligned 8 n) % 4294967296) row ∷ rest)
    (sym (bytes_modulo (aligned 8 (n % 4294967296) + bytes_length row.bytes) rows) ∙ ap (λ (k : ℕ). placed_bytes k rows) (next_modulo n (bytes_length row.bytes)) ∙ bytes_modulo (aligned 8 n + bytes_length row.bytes) rows)

pub all_modulo : (o : Output) (n : ℕ) → field_rvas o (n % 4294967296) ≡ field_rvas o n
all_modulo o n = bytes_modulo n _
