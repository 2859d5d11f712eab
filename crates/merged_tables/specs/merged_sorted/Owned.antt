-- The rows of sorted tables that are made of rows, with their new owners and the new tokens of each assembly.
use Rattle.std.specs.Prelude.{ℕ, List, map, slice_get}
use Rattle.std.specs.List.{flat_map}
use Rattle.il_base.specs.declared.world_model.types.InterfaceImplRow.{InterfaceImplRow}
use Rattle.il_base.specs.declared.world_model.types.GenericParamRow.{GenericParamRow}
use Rattle.il_base.specs.declared.world_model.types.GenericParamConstraintRow.{GenericParamConstraintRow}
use Rattle.il_base.specs.declared.world_model.record.AsmRec.{AsmRec}
use Rattle.rules.specs.link_rules.Cycles.{listed}
use Rattle.rules.specs.type_rules.Rows.{rec_at}
use Rattle.rules.specs.merge_rules.Restricted.{new_generic_param}
use Rattle.merge_plan.specs.declared.moved_parts.tokens.NewTokens.{NewTokens}
use Rattle.merge_plan.specs.moved_parts.Moves.{new_token}
use Rattle.merged_tables.specs.merged_members.Members.{made_of}
use Rattle.merge_plan.specs.declared.kept_tables.order.SortedRow.{SortedRow}

abbrev pub interface_by : ℕ → NewTokens → InterfaceImplRow → InterfaceImplRow
interface_by class t row = record { class = class; interface = new_token t.types row.interface }

abbrev pub interface_of : List AsmRec → List NewTokens → SortedRow → List InterfaceImplRow
interface_of recs tokens x = made_of (λ rec. rec.interface_impl) (λ t rec row. interface_by x.owner t row) recs tokens x.at

abbrev pub interfaces_by : List AsmRec → List NewTokens → List SortedRow → List InterfaceImplRow
interfaces_by recs tokens places = flat_map (interface_of recs tokens) places

abbrev pub generic_param_of : List AsmRec → SortedRow → List GenericParamRow
generic_param_of recs x = flat_map (λ (rec : AsmRec). map (new_generic_param x.owner x.at.asm rec) (listed (slice_get rec.generic_param x.at.row))) (listed (rec_at recs x.at))

abbrev pub generic_params_by : List AsmRec → List SortedRow → List GenericParamRow
generic_params_by recs places = flat_map (generic_param_of recs) places

abbrev pub constraint_by : ℕ → NewTokens → GenericParamConstraintRow → GenericParamConstraintRow
constraint_by owner t row = record { owner = owner; constraint = new_token t.types row.constraint }

abbrev pub constraint_of : List AsmRec → List NewTokens → SortedRow → List GenericParamConstraintRow
constraint_of recs tokens x = made_of (λ rec. rec.generic_param_constraint) (λ t rec row. constraint_by x.owner t row) recs tokens x.at

abbrev pub constraints_by : List AsmRec → List NewTokens → List SortedRow → List GenericParamConstraintRow
constraints_by recs tokens places = flat_map (constraint_of recs tokens) places
