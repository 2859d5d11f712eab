-- The rows of members that are made of rows, with the new tokens of each assembly.
use Rattle.std.specs.Prelude.{ℕ, List, map, slice_get}
use Rattle.std.specs.List.{flat_map}
use Rattle.il_base.specs.declared.world_model.members.FieldRow.{FieldRow}
use Rattle.il_base.specs.declared.world_model.members.MethodDefRow.{MethodDefRow}
use Rattle.il_base.specs.declared.world_model.members.ParamRow.{ParamRow}
use Rattle.il_base.specs.declared.world_model.members.PropertyRow.{PropertyRow}
use Rattle.il_base.specs.declared.world_model.members.EventRow.{EventRow}
use Rattle.il_base.specs.declared.world_model.record.AsmRec.{AsmRec}
use Rattle.rules.specs.declared.link_rules.row_at.RowAt.{RowAt}
use Rattle.rules.specs.link_rules.Cycles.{listed}
use Rattle.rules.specs.type_rules.Rows.{rec_at}
use Rattle.rules.specs.merge_rules.Moved.{moved_param_row}
use Rattle.rules.specs.merge_rules.Rows.{run_at}
use Rattle.merge_plan.specs.declared.moved_parts.tokens.NewTokens.{NewTokens}
use Rattle.merge_plan.specs.moved_parts.Moves.{field_by, method_by, property_by, event_by}

-- what is made of a row of an assembly with its new tokens
abbrev pub made_of : {R B : Type 0} → (AsmRec → List R) → (NewTokens → AsmRec → R → B) → List AsmRec → List NewTokens → RowAt → List B
made_of rows f recs tokens at =
    flat_map (λ (rec : AsmRec). flat_map (λ (t : NewTokens). map (f t rec) (listed (slice_get (rows rec) at.row))) (listed (slice_get tokens at.asm))) (listed (rec_at recs at))

abbrev pub field_of : List AsmRec → List NewTokens → RowAt → List FieldRow
field_of recs tokens at = made_of (λ rec. rec.field) (λ t rec row. field_by t row) recs tokens at

abbrev pub fields_by : List AsmRec → List NewTokens → List RowAt → List FieldRow
fields_by recs tokens places = flat_map (field_of recs tokens) places

-- with the run of parameters among these
abbrev pub method_row_by : List RowAt → ℕ → NewTokens → AsmRec → MethodDefRow → MethodDefRow
method_row_by params a t rec m = method_by t rec (run_at params a m.param_list_first) (run_at params a m.param_list_end) m

abbrev pub method_of : List AsmRec → List NewTokens → List RowAt → RowAt → List MethodDefRow
method_of recs tokens params at = made_of (λ rec. rec.method_def) (method_row_by params at.asm) recs tokens at

abbrev pub methods_by : List AsmRec → List NewTokens → List RowAt → List RowAt → List MethodDefRow
methods_by recs tokens params places = flat_map (method_of recs tokens params) places

abbrev pub param_of : List AsmRec → RowAt → List ParamRow
param_of recs at = flat_map (λ (rec : AsmRec). map moved_param_row (listed (slice_get rec.param at.row))) (listed (rec_at recs at))

abbrev pub params_by : List AsmRec → List RowAt → List ParamRow
params_by recs places = flat_map (param_of recs) places

abbrev pub property_of : List AsmRec → List NewTokens → RowAt → List PropertyRow
property_of recs tokens at = made_of (λ rec. rec.property) (λ t rec row. property_by t row) recs tokens at

abbrev pub properties_by : List AsmRec → List NewTokens → List RowAt → List PropertyRow
properties_by recs tokens places = flat_map (property_of recs tokens) places

abbrev pub event_of : List AsmRec → List NewTokens → RowAt → List EventRow
event_of recs tokens at = made_of (λ rec. rec.event) (λ t rec row. event_by t row) recs tokens at

abbrev pub events_by : List AsmRec → List NewTokens → List RowAt → List EventRow
events_by recs tokens places = flat_map (event_of recs tokens) places
