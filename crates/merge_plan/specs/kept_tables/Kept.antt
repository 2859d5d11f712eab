-- The tables of the output as they are held.
use Rattle.std.specs.Prelude.{◌≡◌, ℕ, ◌==◌, ◌||◌, List, [], ◌∷◌, map, Option, if◌then◌else◌}
use Rattle.std.specs.Option.{option_and_then}
use Rattle.il_base.specs.declared.table.TheConstants as table
use Rattle.il_base.specs.declared.world_model.record.AsmRec.{AsmRec}
use Rattle.il_base.specs.world_model.Tokens.{table_of, index_in}
use Rattle.rules.specs.declared.link_rules.row_at.RowAt.{RowAt}
use Rattle.rules.specs.link_rules.Types.{at_row}
use Rattle.rules.specs.merge_rules.Numbers.{Kept, kept_types, kept_methods, kept_fields, kept_properties, kept_events}
use Rattle.rules.specs.merge_rules.Rows as rows
use Rattle.rules.specs.merge_rules.Rows.{places, place_token, kept_params, kept_interfaces, kept_generic_params, kept_constraints}
use Rattle.merge_plan.specs.declared.kept_tables.tables.ItemTables.{ItemTables}
use Rattle.merge_plan.specs.declared.kept_tables.tables.SortedTable.{SortedTable}
use Rattle.merge_plan.specs.declared.kept_tables.tables.KeptTables.{KeptTables}
use Rattle.merge_plan.specs.kept_tables.Order.{sorted_of}

pub record AreKeptItems (recs : List AsmRec) (kept : Kept) (t : ItemTables) : Type 0 where
  pub types : t.types ≡ kept_types recs kept
  pub fields : t.fields ≡ kept_fields recs kept
  pub methods : t.methods ≡ kept_methods recs kept
  pub params : t.params ≡ kept_params recs kept
  pub properties : t.properties ≡ kept_properties recs kept
  pub events : t.events ≡ kept_events recs kept

-- the table of these rows
pub record IsTableOf (sorted : List rows.SortedRow) (t : SortedTable) : Type 0 where
  pub rows : map sorted_of t.rows.items ≡ sorted
  pub numbers : t.numbers ≡ places sorted

pub record AreKept (recs : List AsmRec) (kept : Kept) (t : KeptTables) : Type 0 where
  pub items : AreKeptItems recs kept t.items
  pub interfaces : IsTableOf (kept_interfaces recs kept) t.interfaces
  pub generic_params : IsTableOf (kept_generic_params recs kept) t.generic_params
  pub constraints : IsTableOf (kept_constraints recs kept) t.constraints

-- the rows of a table in the output; of Assembly and Module the first input's
abbrev pub rows_in : KeptTables → ℕ → List RowAt
rows_in k t =
    if t == table.TYPE_DEF then k.items.types
    else if t == table.FIELD then k.items.fields
    else if t == table.METHOD_DEF then k.items.methods
    else if t == table.PARAM then k.items.params
    else if t == table.INTERFACE_IMPL then k.interfaces.numbers
    else if t == table.EVENT then k.items.events
    else if t == table.PROPERTY then k.items.properties
    else if t == table.GENERIC_PARAM then k.generic_params.numbers
    else if t == table.GENERIC_PARAM_CONSTRAINT then k.constraints.numbers
    else if t == table.ASSEMBLY || t == table.MODULE then at_row 0 0 ∷ []
    else []

-- the new token of an input's row, by these tables
abbrev pub token_by : KeptTables → ℕ → ℕ → Option ℕ
token_by k a token = option_and_then (λ j. place_token (table_of token) (rows_in k (table_of token)) (at_row a j)) (index_in (table_of token) token)
