-- MethodImpl rows, over what code holds.
use Rattle.std.specs.Prelude.{ℕ, List, [], map, Option, slice_get, ◌||◌, Bool, if◌then◌else◌}
use Rattle.std.specs.List.{list_any, flat_map}
use Rattle.il_base.specs.declared.ids.Item.TheVariants as item
use Rattle.il_base.specs.declared.table.TheConstants.{TYPE_DEF}
use Rattle.il_base.specs.declared.world_model.members.MethodImplRow.{MethodImplRow}
use Rattle.il_base.specs.declared.world_model.expr.MethodUse.{MethodUse}
use Rattle.il_base.specs.declared.world_model.record.AsmRec.{AsmRec}
use Rattle.rules.specs.link_rules.Cycles.{listed}
use Rattle.rules.specs.mark_rules.Places.{is_core}
use Rattle.rules.specs.mark_rules.Naming.{method_named}
use Rattle.rules.specs.merge_rules.Numbers.{Kept}
use Rattle.rules.specs.merge_rules.Sorted.{by_key}
use Rattle.rules.specs.merge_rules.Keys.{good}
use Rattle.merge_plan.specs.declared.moved_parts.tokens.NewTokens.{NewTokens}
use Rattle.merge_plan.specs.moved_parts.Moves.{new_token}
use Rattle.merge_plan.specs.declared.kept_tables.tables.KeptTables.{KeptTables}
use Rattle.merge_plan.specs.kept_tables.Places.{token_in}
use Rattle.merged_tables.specs.merged_rows.Belonging.{of_inputs}

-- a method that is kept or the core library's
abbrev pub is_kept_use : List AsmRec → Kept → MethodUse → Bool
is_kept_use recs kept u = kept (item.Method u.method) || is_core recs (item.Method u.method)

abbrev pub has_kept_use : List AsmRec → Kept → Option MethodUse → Bool
has_kept_use recs kept u = list_any (is_kept_use recs kept) (listed u)

abbrev pub impl_row_by : NewTokens → MethodImplRow → ℕ → MethodImplRow
impl_row_by t row class = record { class = class; body = new_token t.callees row.body; declaration = new_token t.callees row.declaration }

-- where the class is kept
abbrev pub impl_by : KeptTables → NewTokens → ℕ → MethodImplRow → List MethodImplRow
impl_by k t a row = map (impl_row_by t row) (listed (token_in TYPE_DEF k.items.types a row.class))

-- and the body stays, of an assembly of some
abbrev pub impl_of : List AsmRec → Kept → KeptTables → NewTokens → List AsmRec → ℕ → AsmRec → MethodImplRow → List MethodImplRow
impl_of recs kept k t all a rec row = if has_kept_use recs kept (good (method_named all a rec row.body)) then impl_by k t a row else []

abbrev pub impls_in : List AsmRec → Kept → KeptTables → List NewTokens → ℕ → AsmRec → List MethodImplRow
impls_in recs kept k tokens a rec = flat_map (λ (t : NewTokens). flat_map (impl_of recs kept k t recs a rec) rec.method_impl) (listed (slice_get tokens a))

unfoldable pub method_impls_by : List AsmRec → Kept → KeptTables → List NewTokens → List MethodImplRow
method_impls_by recs kept k tokens = by_key (λ (row : MethodImplRow). row.class) (of_inputs (impls_in recs kept k tokens) recs)
