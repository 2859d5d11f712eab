-- Whether a reference may be copied, by one step over its scope.
use Rattle.std.specs.Prelude.{ℕ, suc, List, length, Bool, false, Option, Some, None, slice_get, ◌==◌, if◌then◌else◌}
use Rattle.std.specs.List.{list_any}
use Rattle.std.specs.Option.{option_and_then}
use Rattle.il_base.specs.declared.table.TheConstants.{MODULE, TYPE_REF, ASSEMBLY_REF}
use Rattle.il_base.specs.declared.world_model.types.TypeRefRow.{TypeRefRow}
use Rattle.il_base.specs.declared.world_model.record.AsmRec.{AsmRec}
use Rattle.il_base.specs.world_model.Tokens.{table_of, index_in}
use Rattle.rules.specs.declared.link_rules.row_at.RowAt.{RowAt}
use Rattle.rules.specs.link_rules.Types.{ref_definition}
use Rattle.rules.specs.link_rules.Cycles.{listed}
use Rattle.rules.specs.merge_rules.Attributes.{has_row, may_scope}
use Rattle.token_keys.specs.declared.copied_attributes.references.Step.{Step}
use Rattle.token_keys.specs.declared.copied_attributes.references.Step.TheVariants.{Decided, AsOuter}

abbrev pub says : (ℕ → Bool) → Step → Bool
says outer (Decided may) = may
says outer (AsOuter k) = outer k

-- a scope that is no type
abbrev pub other_scope : AsmRec → ℕ → Bool
other_scope rec scope =
    if table_of scope == ASSEMBLY_REF then has_row (option_and_then (slice_get rec.assembly_ref) (index_in ASSEMBLY_REF scope)) else table_of scope == MODULE

abbrev pub step_by : AsmRec → ℕ → Option ℕ → Step
step_by rec scope None = Decided (other_scope rec scope)
step_by rec scope (Some k) = AsOuter k

abbrev pub step_of_row : AsmRec → Option TypeRefRow → Step
step_of_row rec None = Decided false
step_of_row rec (Some row) = step_by rec row.resolution_scope (index_in TYPE_REF row.resolution_scope)

-- a row that names nothing
abbrev pub step_of : AsmRec → ℕ → Step
step_of rec k = step_of_row rec (slice_get rec.type_ref k)

abbrev pub by_definition : List AsmRec → AsmRec → (ℕ → Bool) → ℕ → Option RowAt → Bool
by_definition recs rec outer k (Some at) = suc at.asm == length recs
by_definition recs rec outer k None = list_any (may_scope rec outer) (listed (slice_get rec.type_ref k))

-- a row, where it is known of the rows around it
abbrev pub by_ref : List AsmRec → ℕ → AsmRec → (ℕ → Bool) → ℕ → Bool
by_ref recs a rec outer k = by_definition recs rec outer k (ref_definition recs a rec k)
