-- What values are read by.
use Rattle.std.specs.Prelude.{◌≡◌, ℕ, List, Some, slice_get}
use Rattle.il_base.specs.declared.world_model.record.AsmRec.{AsmRec}
use Rattle.attr_blobs.specs.declared.value.EnumSize.{EnumSize}
use Rattle.resolver.specs.type_links.Index.{IsIndex}
use Rattle.rules.specs.mark_rules.Attributes.{enums_from}
use Rattle.mark_parts.specs.declared.mark_tables.marker.Marker.{Marker}
use Rattle.mark_parts.specs.mark_tables.Assemblies.{all_of}
use Rattle.attribute_values.specs.declared.tables.AttributeTables.{AttributeTables}

-- each list is that of the enums that names find from the assembly in its place
abbrev pub AreEnums : List AsmRec → List (List EnumSize) → Type 0
AreEnums recs lists = (a : ℕ) (enums : List EnumSize) → slice_get lists a ≡ Some enums → enums ≡ enums_from recs a

pub record AreAttributeTables (m : Marker) (t : AttributeTables) : Type 0 where
  pub index : IsIndex t.index
  pub all : t.index.all.now ≡ all_of m
  pub names : t.names ≡ all_of m
  pub enums : AreEnums (all_of m) t.enums.items
