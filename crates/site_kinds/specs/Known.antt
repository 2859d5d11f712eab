-- A world with what its annotations are read by.
use Rattle.mark_parts.specs.mark_tables.Assemblies.{IsMarker}
use Rattle.attribute_values.specs.Tables.{AreAttributeTables}
use Rattle.site_kinds.specs.declared.known.Annotated.{Annotated}

pub record IsAnnotated (a : Annotated) : Type 0 where
  pub marker : IsMarker a.marker.now
  pub tables : AreAttributeTables a.marker.now a.tables.now
