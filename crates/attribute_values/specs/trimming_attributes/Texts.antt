-- The texts of the type that has a constructor.
use Rattle.std.specs.Prelude.{ℕ, suc, List, [], ◌∷◌, map, slice_get, ◌==◌, if◌then◌else◌}
use Rattle.std.specs.List.{flat_map, position_from}
use Rattle.il_base.specs.declared.table.TheConstants.{TYPE_REF}
use Rattle.il_base.specs.declared.world_model.types.TypeDefRow.{TypeDefRow}
use Rattle.il_base.specs.declared.world_model.types.TypeRefRow.{TypeRefRow}
use Rattle.il_base.specs.declared.world_model.record.AsmRec.{AsmRec}
use Rattle.il_base.specs.world_model.Tokens.{table_of}
use Rattle.rules.specs.link_rules.Members.{owns_method}
use Rattle.rules.specs.link_rules.Cycles.{listed}
use Rattle.rules.specs.mark_rules.Annotations.{TypeText, def_text}

abbrev pub type_text : List ℕ → List ℕ → TypeText
type_text namespace name = record { namespace = namespace; name = name }

abbrev pub row_texts : AsmRec → ℕ → List TypeText
row_texts rec k = map (λ (t : TypeDefRow). record { namespace = t.namespace; name = t.name }) (listed (slice_get rec.type_def k))

abbrev pub ref_row_texts : TypeRefRow → List TypeText
ref_row_texts t = if table_of t.resolution_scope == TYPE_REF then [] else record { namespace = t.namespace; name = t.name } ∷ []

-- of the type that has a method
abbrev pub owner_texts : AsmRec → ℕ → List TypeText
owner_texts rec k = flat_map (def_text rec) (listed (position_from (owns_method (suc k)) 0 rec.type_def))
