-- The rows of members with the tokens of an output are those of the record that a merge leaves.
use Rattle.std.specs.Prelude.{◌≡◌, ℕ, List, Some, slice_get}
use Rattle.il_base.specs.declared.world_model.record.AsmRec.{AsmRec}
use Rattle.rules.specs.declared.link_rules.row_at.RowAt.{RowAt}
use Rattle.rules.specs.merge_rules.Numbers.{kept_methods}
use Rattle.rules.specs.merge_rules.Rows.{kept_params}
use Rattle.rules.specs.merge_rules.Refs.{Output}
use Rattle.rules.specs.merge_rules.Moved.{moved_field_row, moved_param_row, moved_property_row, moved_event_row}
use Rattle.rules.specs.merge_rules.Restricted.{each_at, moved_methods}
use Rattle.merge_plan.specs.declared.moved_parts.tokens.NewTokens.{NewTokens}
use Rattle.merge_plan.specs.moved_parts.Laws.{AreNewTokens}
use Rattle.merged_tables.specs.merged_members.Members.{fields_by, methods_by, params_by, properties_by, events_by}

-- the new tokens of an assembly are there, and are the output's
pub record HasTokens (o : Output) (tokens : List NewTokens) (a : ℕ) (rec : AsmRec) : Type 0 where
  pub new : NewTokens
  pub there : slice_get tokens a ≡ Some new
  pub are : AreNewTokens o a rec new

-- of each assembly
abbrev pub HaveTokens : Output → List NewTokens → Type 0
HaveTokens o tokens = (a : ℕ) (rec : AsmRec) → slice_get o.recs a ≡ Some rec → HasTokens o tokens a rec

pub record AreMembers (o : Output) (tokens : List NewTokens) : Type 0 where
  pub fields : (places : List RowAt) → fields_by o.recs tokens places ≡ each_at o.recs (λ rec. rec.field) (moved_field_row o) places
  pub methods : methods_by o.recs tokens (kept_params o.recs o.kept) (kept_methods o.recs o.kept) ≡ moved_methods o
  pub params : (places : List RowAt) → params_by o.recs places ≡ each_at o.recs (λ rec. rec.param) (λ at rec row. moved_param_row row) places
  pub properties : (places : List RowAt) → properties_by o.recs tokens places ≡ each_at o.recs (λ rec. rec.property) (moved_property_row o) places
  pub events : (places : List RowAt) → events_by o.recs tokens places ≡ each_at o.recs (λ rec. rec.event) (moved_event_row o) places

abbrev pub MembersTell : Type 0
MembersTell = (o : Output) (tokens : List NewTokens) → HaveTokens o tokens → AreMembers o tokens
