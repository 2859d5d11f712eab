-- The kinds that annotations name.
use Rattle.std.specs.Prelude.{ℕ, List, [], ◌∷◌, slice_get, if◌then◌else◌}
use Rattle.std.specs.List.{flat_map}
use Rattle.std.specs.Option.{option_map_or}
use Rattle.il_base.specs.declared.world_model.extras.CustomAttributeRow.{CustomAttributeRow}
use Rattle.il_base.specs.declared.world_model.record.AsmRec.{AsmRec}
use Rattle.rules.specs.link_rules.Cycles.{listed}
use Rattle.rules.specs.mark_rules.Attributes.{value_of}
use Rattle.rules.specs.mark_rules.Annotations.{is_called, dynamically_accessed, first_number}

abbrev pub kinds_in : List AsmRec → ℕ → AsmRec → CustomAttributeRow → List ℕ
kinds_in recs a rec row = flat_map first_number (listed (value_of recs a rec row))

abbrev pub annotation_by : AsmRec → CustomAttributeRow → List CustomAttributeRow
annotation_by rec row = if is_called rec dynamically_accessed row then row ∷ [] else []

-- the row in a place, if it is an annotation
abbrev pub annotation_at : AsmRec → ℕ → List CustomAttributeRow
annotation_at rec k = option_map_or (annotation_by rec) (slice_get rec.custom_attribute k) []
