-- The properties and events of a type.
use Rattle.std.specs.Prelude.{List, ◌++◌}
use Rattle.std.specs.List.{flat_map}
use Rattle.il_base.specs.declared.world_model.record.AsmRec.{AsmRec}
use Rattle.rules.specs.declared.link_rules.row_at.RowAt.{RowAt}
use Rattle.rules.specs.mark_rules.Facts.{Fact}
use Rattle.rules.specs.mark_rules.Properties.{whole_property, whole_event}
use Rattle.rules.specs.mark_rules.Members.{properties_of_type, events_of_type}

-- the properties and events of a type, with all accessors
abbrev pub mapped_members : List AsmRec → RowAt → List Fact
mapped_members recs t = flat_map (whole_property recs) (properties_of_type recs t) ++ flat_map (whole_event recs) (events_of_type recs t)
