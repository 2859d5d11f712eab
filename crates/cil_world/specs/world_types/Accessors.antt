-- The accessors of a property of one kind (II.22.28, II.23.1.12), by the rows of MethodSemantics.
use Rattle.std.specs.Prelude.{ℕ, List, [], ◌∷◌, slice_get, if◌then◌else◌}
use Rattle.std.specs.List.{filter}
use Rattle.std.specs.Option.{option_map_or}
use Rattle.il_base.specs.Flags.{has_flag}
use Rattle.il_base.specs.declared.table.TheConstants.{METHOD_DEF}
use Rattle.il_base.specs.declared.world_model.members.MethodSemanticsRow.{MethodSemanticsRow}
use Rattle.il_base.specs.declared.world_model.record.AsmRec.{AsmRec}
use Rattle.il_base.specs.world_model.Tokens.{index_in}
use Rattle.rules.specs.link_rules.Cycles.{listed}
use Rattle.rules.specs.type_rules.Searches.{has_owner}

-- a method where a type's run has it
abbrev pub owned : AsmRec → ℕ → List ℕ
owned rec k = filter (has_owner rec) (k ∷ [])

-- the method that a row names as an accessor of the kind, where a type's run has it
abbrev pub flagged : ℕ → AsmRec → MethodSemanticsRow → List ℕ
flagged flag rec row = if has_flag row.semantics flag then filter (has_owner rec) (listed (index_in METHOD_DEF row.method)) else []

abbrev pub flagged_at : ℕ → AsmRec → ℕ → List ℕ
flagged_at flag rec k = option_map_or (flagged flag rec) (slice_get rec.method_semantics k) []
