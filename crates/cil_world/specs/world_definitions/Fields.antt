-- Fields by what they have at first.
use Rattle.std.specs.Prelude.{◌≡◌, ℕ, List, map, Option, Some, None, slice_get, find, ◌==◌, Bool}
use Rattle.il_base.specs.declared.type_flags.TheConstants.{EXPLICIT_LAYOUT}
use Rattle.il_base.specs.Flags.{has_flag}
use Rattle.il_base.specs.declared.world_model.types.TypeDefRow.{TypeDefRow}
use Rattle.il_base.specs.declared.world_model.extras.FieldRvaRow.{FieldRvaRow}
use Rattle.il_base.specs.declared.world_model.record.AsmRec.{AsmRec}
use Rattle.il_base.specs.declared.first_places.places.Places.{Places}
use Rattle.il_base.specs.first_places.Places.{AreFirst}
use Rattle.il_base.specs.declared.cil_values.definition.First.{First}
use Rattle.il_base.specs.declared.cil_values.definition.First.TheVariants.{Blank as blank, Bytes as bytes}

-- the fields of rows of FieldRVA
abbrev pub fields_with_rows : List FieldRvaRow → List ℕ
fields_with_rows rows = map (λ (r : FieldRvaRow). r.field) rows

abbrev pub fields_with_bytes : AsmRec → List ℕ
fields_with_bytes rec = fields_with_rows rec.field_rva

abbrev pub row_with : AsmRec → ℕ → Option FieldRvaRow
row_with rec token = find (λ (r : FieldRvaRow). r.field == token) rec.field_rva

abbrev pub first_by : Option FieldRvaRow → First
first_by None = blank
first_by (Some r) = bytes r.bytes

-- of the assembly in a place, where there is one
abbrev pub AreBytesAt : List AsmRec → ℕ → Places → Type 0
AreBytesAt recs a places = (rec : AsmRec) → slice_get recs a ≡ Some rec → AreFirst (fields_with_bytes rec) places

abbrev pub is_explicit_row : TypeDefRow → Bool
is_explicit_row t = has_flag t.flags EXPLICIT_LAYOUT
