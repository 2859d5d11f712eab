-- The bytes of fields are read again at their addresses.
use Rattle.std.proofs.Common.{◌≡◌, ℕ, zero, suc, ◌+◌, ◌-◌, ◌%◌, ◌^◌, ◌≤◌, List, [], ◌∷◌, ◌++◌, length, Option, Some, refl, sym, ap, ◌∙◌, arith, length-append, append_assoc, append-nil}
use Rattle.std.specs.Prelude.{slice_get}
use Rattle.std.proofs.lemmas.List.{length-replicate}
use Rattle.std.proofs.lemmas.Option.{same_Some, none-some}
use Rattle.il_base.specs.cli_format.Image.{image_at}
use Rattle.il_base.specs.declared.world_model.known.Known.{Known}
use Rattle.il_base.specs.declared.world_model.known.Known.TheVariants.{Good, Bad}
use Rattle.il_base.specs.declared.world_model.extras.FieldRvaRow.{FieldRvaRow}
use Rattle.il_base.specs.declared.world_model.record.AsmRec.{AsmRec}
use Rattle.rules.specs.record_format.Parts.{bytes_by, size_by}
use Rattle.rules.specs.file_layout.Bytes.{aligned, padded, zeros}
use Rattle.rules.specs.file_layout.Image.{code_rva}
use Rattle.rules.specs.record_layout.FieldData.{data_of, with_data, with_all_data, data_rvas}
use Rattle.rules.specs.record_layout.Tables.{bodies_code, code_of}
use Rattle.file_laws.specs.layout_laws.Parts.{IsGood}
use Rattle.file_laws.proofs.lemmas.layout_laws.Within.{Within}
use Rattle.file_laws.proofs.lemmas.layout_laws.Lists.{mapped}

aligned8 : (n : ℕ) → n ≤ aligned 8 n
unfolding aligned
aligned8 n = omega arith

padded_long : (bs : List ℕ) → length (padded 8 bs) ≡ aligned 8 (length bs)
padded_long bs =
    let room = aligned8 (length bs) in
    omega (arith, length-append bs (zeros (aligned 8 (length bs) - length bs)), length-replicate {A = ℕ} (aligned 8 (length bs) - length bs) 0)

-- ---- where bytes are

-- code with the bytes of fields after it begins with it
data_extends : (before : List ℕ) (row : FieldRvaRow) → (more : List ℕ) × (with_data before row ≡ before ++ more)
unfolding with_data
data_extends before row = (zeros (aligned 8 (length before) - length before) ++ data_of row.bytes, append_assoc before (zeros (aligned 8 (length before) - length before)) (data_of row.bytes))

all_data_extends : (rows : List FieldRvaRow) (before : List ℕ) → (more : List ℕ) × (with_all_data before rows ≡ before ++ more)
unfolding with_all_data
all_data_extends [] before = ([], sym (append-nil before))
all_data_extends (row ∷ rows) before =
    let first = data_extends before row in
    let rest = all_data_extends rows (with_data before row) in
    (first.0 ++ rest.0, rest.1 ∙ ap (λ (front : List ℕ). front ++ rest.0) first.1 ∙ append_assoc before first.0 rest.0)

pub code_extends : (rec : AsmRec) → (more : List ℕ) × (code_of rec ≡ bodies_code rec ++ more)
unfolding code_of
code_extends rec = all_data_extends rec.field_rva (bodies_code rec)

record Stands (rows : List FieldRvaRow) (start : List ℕ) (k : ℕ) (row : FieldRvaRow) : Type 0 where
  pub before : List ℕ
  pub after : List ℕ
  pub code : with_all_data start rows ≡ padded 8 before ++ (data_of row.bytes ++ after)
  pub address : slice_get (data_rvas start rows) k ≡ Some ((code_rva + aligned 8 (length before)) % 4294967296)

first_stands : (rows : List FieldRvaRow) (start : List ℕ) (row : FieldRvaRow) → Stands (row ∷ rows) start 0 row
unfolding with_all_data with_data data_rvas
first_stands rows start row =
    let rest = all_data_extends rows (with_data start row) in
    record { before = start; after = rest.0; code = rest.1 ∙ append_assoc (padded 8 start) (data_of row.bytes) rest.0; address = refl }

later_stands : (rows : List FieldRvaRow) (start : List ℕ) (x : FieldRvaRow) (k : ℕ) (row : FieldRvaRow) → Stands rows (with_data start x) k row → Stands (x ∷ rows) start (suc k) row
unfolding with_all_data data_rvas
later_stands rows start x k row s = record { before = s.before; after = s.after; code = s.code; address = s.address }

data_stands : (rows : List FieldRvaRow) (start : List ℕ) (k : ℕ) (row : FieldRvaRow) → slice_get rows k ≡ Some row → Stands rows start k row
data_stands [] start k row e = absurd (none-some row e)
data_stands (x ∷ rows) start zero row e = let same : x ≡ row = same_Some x row e in rw same (first_stands rows start row)
data_stands (x ∷ rows) start (suc k) row e = later_stands rows start x k row (data_stands rows (with_data start x) k row e)

-- ---- what is read there

bytes_there : (bs : List ℕ) (rva : ℕ) (size : Option ℕ) (bytes : List ℕ) → size ≡ Some (length bytes) → image_at bs rva (length bytes) ≡ Some bytes → bytes_by bs rva size ≡ Good bytes
unfolding bytes_by
bytes_there bs rva size bytes e f = rw (e, f) refl

module _ (bs : List ℕ) (rec : AsmRec) (h : Within rec) (small : length (code_of rec) ≤ 2 ^ 28)
    (code : (before here after : List ℕ) → code_of rec ≡ before ++ here ++ after → image_at bs (code_rva + length before) (length here) ≡ Some here) where
  place_of : (k : ℕ) (row : FieldRvaRow) → slice_get rec.field_rva k ≡ Some row → Stands rec.field_rva (bodies_code rec) k row → image_at bs row.rva (length (data_of row.bytes)) ≡ Some (data_of row.bytes)
  unfolding code_of
  place_of k row e s =
      let own : slice_get (data_rvas (bodies_code rec) rec.field_rva) k ≡ Some row.rva = rw (← h.can.data_rvas) (mapped (λ (f : FieldRvaRow). f.rva) rec.field_rva k row e) in
      let same : (code_rva + aligned 8 (length s.before)) % 4294967296 ≡ row.rva = same_Some _ _ (sym s.address ∙ own) in
      let long = ap length s.code ∙ length-append (padded 8 s.before) (data_of row.bytes ++ s.after) in
      let place : code_rva + length (padded 8 s.before) ≡ row.rva = omega (arith, same, long, small, padded_long s.before) in
      ap (λ (rva : ℕ). image_at bs rva (length (data_of row.bytes))) (sym place) ∙ code (padded 8 s.before) (data_of row.bytes) s.after (s.code ∙ sym (append_assoc (padded 8 s.before) (data_of row.bytes) s.after))

  by_bytes : (rva : ℕ) (size : Option ℕ) (known : Known (List ℕ)) → IsGood (λ bytes. size ≡ Some (length bytes)) known → image_at bs rva (length (data_of known)) ≡ Some (data_of known) → bytes_by bs rva size ≡ known
  by_bytes rva size (Good bytes) fits there = bytes_there bs rva size bytes fits there
  by_bytes rva size (Bad why) fits there = absurd fits

  pub data_read : (k : ℕ) (row : FieldRvaRow) → slice_get rec.field_rva k ≡ Some row → bytes_by bs row.rva (size_by rec.class_layout rec.field row.field) ≡ row.bytes
  data_read k row e =
      by_bytes row.rva (size_by rec.class_layout rec.field row.field) row.bytes (h.can.field_data k row e)
      (place_of k row e (data_stands rec.field_rva (bodies_code rec) k row e))
