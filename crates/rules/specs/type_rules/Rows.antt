-- Rows of an assembly and of a type. Assemblies and rows are counted from 0.
use Rattle.std.specs.Prelude.{ℕ, suc, ◌-◌, List, [], ◌∷◌, ◌++◌, length, map, codes, Option, slice_get, ◌==◌, ◌&&◌, Bool, not}
use Rattle.std.specs.List.{list_any, flat_map, position_from, range_with_len}
use Rattle.std.specs.Option.{option_and_then}
use Rattle.il_base.specs.declared.world_model.types.TypeDefRow.{TypeDefRow}
use Rattle.il_base.specs.declared.world_model.members.FieldRow.{FieldRow}
use Rattle.il_base.specs.declared.world_model.record.AsmRec.{AsmRec}
use Rattle.il_base.specs.world_model.Core.{same_name}
use Rattle.il_base.specs.declared.core_table.tokens.TheConstants.{ENUM}
use Rattle.rules.specs.declared.link_rules.row_at.RowAt.{RowAt}
use Rattle.rules.specs.link_rules.Types.{at_row}
use Rattle.rules.specs.link_rules.Members.{run_of, owns_field}
use Rattle.rules.specs.link_rules.Cycles.{listed, extends_core, is_static_field}

abbrev pub rec_at : List AsmRec → RowAt → Option AsmRec
rec_at recs at = slice_get recs at.asm

abbrev pub type_row_at : List AsmRec → RowAt → Option TypeDefRow
type_row_at recs at = option_and_then (λ (rec : AsmRec). slice_get rec.type_def at.row) (rec_at recs at)

abbrev pub field_row_at : List AsmRec → RowAt → Option FieldRow
field_row_at recs at = option_and_then (λ (rec : AsmRec). slice_get rec.field at.row) (rec_at recs at)

-- the places of a run, which begins and ends at rows from 1
abbrev pub run_places : {A : Type 0} → ℕ → ℕ → List A → List ℕ
run_places first end rows = range_with_len (first - 1) (length (run_of first end rows))

-- a function applied to each row of a list, with the number of the row from 0
abbrev pub each_from : {A B : Type 0} → (ℕ → A → List B) → ℕ → List A → List B
each_from f k [] = []
each_from f k (x ∷ xs) = f k x ++ each_from f (suc k) xs

abbrev pub each_row : {A B : Type 0} → (ℕ → A → List B) → List A → List B
each_row f rows = each_from f 0 rows

-- the methods and the fields of a type's runs (II.22.37)
unfoldable pub methods_of_type : List AsmRec → RowAt → List RowAt
methods_of_type recs at =
    flat_map (λ (rec : AsmRec). flat_map (λ (t : TypeDefRow). map (at_row at.asm) (run_places t.method_list_first t.method_list_end rec.method_def)) (listed (slice_get rec.type_def at.row))) (listed (rec_at recs at))

unfoldable pub fields_of_type : List AsmRec → RowAt → List RowAt
fields_of_type recs at =
    flat_map (λ (rec : AsmRec). flat_map (λ (t : TypeDefRow). map (at_row at.asm) (run_places t.field_list_first t.field_list_end rec.field)) (listed (slice_get rec.type_def at.row))) (listed (rec_at recs at))

-- the type in whose run a field is
abbrev pub owner_of_field : AsmRec → ℕ → Option ℕ
owner_of_field rec k = position_from (owns_field (suc k)) 0 rec.type_def

abbrev pub is_instance_field : List AsmRec → RowAt → Bool
is_instance_field recs at = list_any (λ (f : FieldRow). not (is_static_field f)) (listed (field_row_at recs at))

-- a type whose base is System.Enum (II.14.3)
abbrev pub is_enum : List AsmRec → RowAt → Bool
is_enum recs at = extends_core recs ENUM at

-- `<Module>`: the first row of TypeDef, where it has that name and no namespace (II.22.37)
abbrev pub is_module_type : ℕ → TypeDefRow → Bool
is_module_type k t = k == 0 && same_name t.name (codes "<Module>") && same_name t.namespace []
