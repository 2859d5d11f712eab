-- The rows that go with kept items, in the order of the output: parameters of methods, generic parameters and their constraints,
-- interfaces; and the new token of a kept row.
use Rattle.std.specs.Prelude.{ℕ, suc, ◌+◌, ◌-◌, ◌*◌, ◌%◌, List, [], ◌∷◌, length, map, Option, nat_lt, ◌==◌, ◌&&◌, ◌||◌, Bool, if◌then◌else◌}
use Rattle.std.specs.List.{flat_map, filter}
use Rattle.std.specs.Option.{option_map, option_and_then}
use Rattle.il_base.specs.declared.table.TheConstants as table
use Rattle.il_base.specs.declared.cli_format.column.CodedIndex.TheVariants.{TypeOrMethodDef}
use Rattle.il_base.specs.cli_format.Tokens.{coded_of}
use Rattle.il_base.specs.declared.world_model.types.InterfaceImplRow.{InterfaceImplRow}
use Rattle.il_base.specs.declared.world_model.types.GenericParamRow.{GenericParamRow}
use Rattle.il_base.specs.declared.world_model.types.GenericParamConstraintRow.{GenericParamConstraintRow}
use Rattle.il_base.specs.declared.world_model.members.MethodDefRow.{MethodDefRow}
use Rattle.il_base.specs.declared.world_model.record.AsmRec.{AsmRec}
use Rattle.il_base.specs.world_model.Tokens.{token_of, table_of, index_in}
use Rattle.rules.specs.declared.link_rules.row_at.RowAt.{RowAt}
use Rattle.rules.specs.link_rules.Types.{at_row}
use Rattle.rules.specs.link_rules.Cycles.{listed}
use Rattle.rules.specs.type_rules.Rows.{rec_at, each_row, run_places}
use Rattle.std.specs.Prelude.{slice_get}
use Rattle.rules.specs.mark_rules.Places.{impl_item}
use Rattle.rules.specs.merge_rules.Numbers.{Kept, inputs, kept_types, kept_methods, kept_fields, kept_properties, kept_events, new_row}
use Rattle.rules.specs.merge_rules.Sorted.{by_key}

-- ---- tables of all inputs

-- a function applied to each row of a table of all inputs, in the order of inputs and rows
abbrev pub all_rows : {R B : Type 0} → (AsmRec → List R) → (ℕ → AsmRec → ℕ → R → List B) → List AsmRec → List B
all_rows rows f recs = flat_map (λ (x : ℕ × AsmRec). each_row (f x.0 x.1) (rows x.1)) (inputs recs)

-- tokens have 32 bits
abbrev pub token_32 : ℕ → ℕ → ℕ
token_32 table k = token_of table (suc k) % 4294967296

-- the token of a row among the rows of the output
abbrev pub place_token : ℕ → List RowAt → RowAt → Option ℕ
place_token table rows at = option_map (token_32 table) (new_row rows at)

-- ---- runs (II.22.37, II.22.26, II.22.35, II.22.12)

abbrev pub is_before : ℕ → ℕ → RowAt → Bool
is_before a k at = nat_lt at.asm a || at.asm == a && nat_lt at.row k

-- where a run begins or ends, as rows are counted from 1: after the kept rows that are before it
unfoldable pub run_at : List RowAt → ℕ → ℕ → ℕ
run_at kept a row = suc (length (filter (is_before a (row - 1)) kept))

-- ---- parameters: all of a kept method (II.22.33)

abbrev pub params_of : List AsmRec → RowAt → List RowAt
params_of recs at =
    flat_map (λ (rec : AsmRec). flat_map (λ (m : MethodDefRow). map (at_row at.asm) (run_places m.param_list_first m.param_list_end rec.param)) (listed (slice_get rec.method_def at.row))) (listed (rec_at recs at))

unfoldable pub kept_params : List AsmRec → Kept → List RowAt
kept_params recs kept = flat_map (params_of recs) (kept_methods recs kept)

-- ---- a row with the new token by which its table is sorted

pub record SortedRow : Type 0 where
  pub at : RowAt
  pub owner : ℕ
  pub key : ℕ

abbrev pub places : List SortedRow → List RowAt
places rows = map (λ (x : SortedRow). x.at) rows

abbrev pub in_order : List SortedRow → List SortedRow
in_order rows = by_key (λ (x : SortedRow). x.key) rows

abbrev pub sorted_at : ℕ → ℕ → (ℕ → ℕ) → Option ℕ → List SortedRow
sorted_at a k key owner = map (λ token. record { at = at_row a k; owner = token; key = key token }) (listed owner)

-- ---- interfaces, by their classes (II.22.23)

abbrev pub class_token : List AsmRec → Kept → ℕ → ℕ → Option ℕ
class_token recs kept a token = option_and_then (λ k. place_token table.TYPE_DEF (kept_types recs kept) (at_row a k)) (index_in table.TYPE_DEF token)

abbrev pub sorted_impl : List AsmRec → Kept → ℕ → AsmRec → ℕ → InterfaceImplRow → List SortedRow
sorted_impl recs kept a rec k row =
    if kept (impl_item recs (at_row a k)) then sorted_at a k (λ token. token) (class_token recs kept a row.class) else []

unfoldable pub kept_interfaces : List AsmRec → Kept → List SortedRow
kept_interfaces recs kept = in_order (all_rows (λ rec. rec.interface_impl) (sorted_impl recs kept) recs)

-- ---- generic parameters, by their owners and numbers (II.22.20), and their constraints (II.22.21)

abbrev pub method_def_token : List AsmRec → Kept → ℕ → ℕ → Option ℕ
method_def_token recs kept a token = option_and_then (λ k. place_token table.METHOD_DEF (kept_methods recs kept) (at_row a k)) (index_in table.METHOD_DEF token)

abbrev pub owner_token : List AsmRec → Kept → ℕ → ℕ → Option ℕ
owner_token recs kept a token =
    if table_of token == table.TYPE_DEF then class_token recs kept a token else method_def_token recs kept a token

-- a number has 16 bits
abbrev pub param_key : ℕ → ℕ → ℕ
param_key number token = coded_of TypeOrMethodDef token * 65536 + number

abbrev pub sorted_param : List AsmRec → Kept → ℕ → AsmRec → ℕ → GenericParamRow → List SortedRow
sorted_param recs kept a rec k row = sorted_at a k (param_key row.number) (owner_token recs kept a row.owner)

unfoldable pub kept_generic_params : List AsmRec → Kept → List SortedRow
kept_generic_params recs kept = in_order (all_rows (λ rec. rec.generic_param) (sorted_param recs kept) recs)

abbrev pub param_token : List AsmRec → Kept → ℕ → ℕ → Option ℕ
param_token recs kept a token =
    option_and_then (λ k. place_token table.GENERIC_PARAM (places (kept_generic_params recs kept)) (at_row a k)) (index_in table.GENERIC_PARAM token)

abbrev pub sorted_constraint : List AsmRec → Kept → ℕ → AsmRec → ℕ → GenericParamConstraintRow → List SortedRow
sorted_constraint recs kept a rec k row = sorted_at a k (λ token. token) (param_token recs kept a row.owner)

unfoldable pub kept_constraints : List AsmRec → Kept → List SortedRow
kept_constraints recs kept = in_order (all_rows (λ rec. rec.generic_param_constraint) (sorted_constraint recs kept) recs)

-- ---- tokens of kept rows

-- the rows of a table in the output; of Assembly and Module the first input's
abbrev pub output_rows : List AsmRec → Kept → ℕ → List RowAt
output_rows recs kept t =
    if t == table.TYPE_DEF then kept_types recs kept
    else if t == table.FIELD then kept_fields recs kept
    else if t == table.METHOD_DEF then kept_methods recs kept
    else if t == table.PARAM then kept_params recs kept
    else if t == table.INTERFACE_IMPL then places (kept_interfaces recs kept)
    else if t == table.EVENT then kept_events recs kept
    else if t == table.PROPERTY then kept_properties recs kept
    else if t == table.GENERIC_PARAM then places (kept_generic_params recs kept)
    else if t == table.GENERIC_PARAM_CONSTRAINT then places (kept_constraints recs kept)
    else if t == table.ASSEMBLY || t == table.MODULE then at_row 0 0 ∷ []
    else []

-- the new token of an input's row; None where the row isn't kept
unfoldable pub kept_row_token : List AsmRec → Kept → ℕ → ℕ → Option ℕ
kept_row_token recs kept a token =
    option_and_then (λ k. place_token (table_of token) (output_rows recs kept (table_of token)) (at_row a k)) (index_in (table_of token) token)
