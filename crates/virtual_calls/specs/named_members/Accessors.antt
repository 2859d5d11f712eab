-- The accessors of a property or an event (II.22.28).
use Rattle.std.specs.Prelude.{ℕ, List, [], ◌∷◌, map, slice_get}
use Rattle.std.specs.List.{filter}
use Rattle.std.specs.Option.{option_map_or}
use Rattle.il_base.specs.declared.table.TheConstants.{METHOD_DEF, EVENT, PROPERTY}
use Rattle.il_base.specs.declared.world_model.members.MethodSemanticsRow.{MethodSemanticsRow}
use Rattle.il_base.specs.declared.world_model.record.AsmRec.{AsmRec}
use Rattle.il_base.specs.world_model.Tokens.{index_in}
use Rattle.rules.specs.declared.link_rules.row_at.RowAt.{RowAt}
use Rattle.rules.specs.link_rules.Types.{at_row}
use Rattle.rules.specs.link_rules.Cycles.{listed}
use Rattle.rules.specs.type_rules.Searches.{has_owner}
use Rattle.virtual_calls.specs.declared.named_members.kinds.Mapped.{Mapped}
use Rattle.virtual_calls.specs.declared.named_members.kinds.Mapped.TheVariants.{Property, Event}

-- the table of such rows (II.22)
abbrev pub table_of : Mapped → ℕ
table_of Property = PROPERTY
table_of Event = EVENT

-- a method where a type's run has it
abbrev pub owned_at : AsmRec → ℕ → ℕ → List RowAt
owned_at rec asm k = map (at_row asm) (filter (has_owner rec) (k ∷ []))

-- the method that a row of MethodSemantics names, where a type's run has it
abbrev pub method_of : AsmRec → ℕ → MethodSemanticsRow → List RowAt
method_of rec asm row = map (at_row asm) (filter (has_owner rec) (listed (index_in METHOD_DEF row.method)))

abbrev pub method_under : AsmRec → ℕ → ℕ → List RowAt
method_under rec asm k = option_map_or (method_of rec asm) (slice_get rec.method_semantics k) []
