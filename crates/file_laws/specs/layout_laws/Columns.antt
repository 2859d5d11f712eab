-- What a file can hold in the columns of a record's tables (II.22, II.24.2.6).
use Rattle.std.specs.Prelude.{◌≡◌, ◌⊎◌, ℕ, ◌<◌, ◌^◌, List, [], ◌∷◌, length}
use Rattle.il_base.specs.declared.cli_format.column.Column.{Column}
use Rattle.il_base.specs.declared.cli_format.column.Column.TheVariants.{U8, U16, U32}
use Rattle.il_base.specs.declared.cli_format.column.Column.TheVariants as column
use Rattle.il_base.specs.cli_format.Columns.{columns_of}
use Rattle.il_base.specs.world_model.Records.{Each}
use Rattle.rules.specs.declared.record_layout.value.Value.{Value}
use Rattle.rules.specs.declared.record_layout.value.Value.TheVariants as value
use Rattle.file_laws.specs.written_tables.Written.{IsText}

-- 16 bytes, or none
abbrev pub IsGuid : List ℕ → Type 0
IsGuid g = (g ≡ []) ⊎ (length g ≡ 16)

-- A number is below the limit of its width, a text is UTF-8 without a zero. What tokens and runs are says `IsRecord`; how long
-- blobs are is limited by the file's length.
abbrev pub FitsColumn : Column → Value → Type 0
FitsColumn U8 (value.Number n) = n < 2 ^ 8
FitsColumn U16 (value.Number n) = n < 2 ^ 16
FitsColumn U32 (value.Number n) = n < 2 ^ 32
FitsColumn column.Text (value.Text t) = IsText t
FitsColumn column.Guid (value.Guid g) = IsGuid g
FitsColumn c v = Unit {0}

abbrev pub FitsColumns : List Column → List Value → Type 0
FitsColumns (c ∷ cs) (v ∷ vs) = FitsColumn c v × FitsColumns cs vs
FitsColumns cs vs = Unit {0}

-- the rows of a table by its number
abbrev pub TableFits : ℕ → List (List Value) → Type 0
TableFits t rows = Each (FitsColumns (columns_of t)) rows
