-- TypeDef rows, over what code holds.
use Rattle.std.specs.Prelude.{ℕ, List, map, find, bit_and, nat_lt, ◌==◌, ◌&&◌, Bool, if◌then◌else◌}
use Rattle.std.specs.List.{flat_map}
use Rattle.il_base.specs.declared.ids.TypeId.{TypeId}
use Rattle.il_base.specs.declared.type_flags.TheConstants as type_flag
use Rattle.il_base.specs.declared.world_model.types.TypeDefRow.{TypeDefRow}
use Rattle.il_base.specs.declared.world_model.record.AsmRec.{AsmRec}
use Rattle.il_base.specs.world_model.Worlds.{type_id}
use Rattle.rules.specs.declared.link_rules.row_at.RowAt.{RowAt}
use Rattle.rules.specs.link_rules.Cycles.{listed}
use Rattle.rules.specs.merge_rules.Names.{is_top_level}
use Rattle.rules.specs.merge_rules.Refs.{first_or}
use Rattle.rules.specs.merge_rules.Rows.{run_at}
use Rattle.rules.specs.merge_rules.Moved.{without}
use Rattle.merge_plan.specs.declared.outcome.NewName.{NewName}
use Rattle.merge_plan.specs.declared.outcome.Plan.{Plan}
use Rattle.merge_plan.specs.declared.moved_parts.tokens.NewTokens.{NewTokens}
use Rattle.merge_plan.specs.moved_parts.Moves.{new_token}
use Rattle.merged_tables.specs.merged_members.Members.{made_of}
use Rattle.merge_plan.specs.declared.kept_tables.tables.ItemTables.{ItemTables}

abbrev pub has_id : TypeId → NewName → Bool
has_id id n = n.typ.0 == id.0

-- the name of a type among new names, or else its own
abbrev pub name_by : List NewName → TypeId → List ℕ → List ℕ
name_by names id name = first_or (map (λ (n : NewName). n.name) (listed (find (has_id id) names))) name

abbrev pub visibility_by : Bool → List AsmRec → RowAt → ℕ → ℕ
visibility_by internal recs at flags =
    if internal && nat_lt 0 at.asm && is_top_level recs at && bit_and flags type_flag.VISIBILITY_MASK == type_flag.PUBLIC
    then without type_flag.VISIBILITY_MASK flags else flags

abbrev pub type_by : List AsmRec → Plan → ItemTables → NewTokens → RowAt → TypeDefRow → TypeDefRow
type_by recs plan k t at row = record row {
  flags = visibility_by plan.internal recs at (without type_flag.HAS_SECURITY row.flags);
  name = name_by plan.names (type_id recs at.asm at.row) row.name;
  extends = new_token t.types row.extends;
  field_list_first = run_at k.fields at.asm row.field_list_first;
  field_list_end = run_at k.fields at.asm row.field_list_end;
  method_list_first = run_at k.methods at.asm row.method_list_first;
  method_list_end = run_at k.methods at.asm row.method_list_end;
}

abbrev pub type_of : List AsmRec → Plan → ItemTables → List NewTokens → RowAt → List TypeDefRow
type_of recs plan k tokens at = made_of (λ rec. rec.type_def) (λ t rec row. type_by recs plan k t at row) recs tokens at

abbrev pub type_defs_by : List AsmRec → Plan → ItemTables → List NewTokens → List TypeDefRow
type_defs_by recs plan k tokens = flat_map (type_of recs plan k tokens) k.types
