-- A world with what the flow of its values is followed by.
use Rattle.std.specs.Prelude.{◌≡◌, List}
use Rattle.il_base.specs.declared.world_model.record.AsmRec.{AsmRec}
use Rattle.mark_parts.specs.mark_tables.Assemblies.{all_of}
use Rattle.descriptor_texts.specs.nested_types.Nested.{AreNested}
use Rattle.site_kinds.specs.Known.{IsAnnotated}
use Rattle.mark_flow.specs.declared.tables.FlowTables.{FlowTables}

abbrev pub recs_in : FlowTables → List AsmRec
recs_in t = all_of t.annotated.marker.now

pub record AreFlowTables (t : FlowTables) : Type 0 where
  pub annotated : IsAnnotated t.annotated
  pub types : t.types.now ≡ t.annotated.marker.now.tables.world.now
  pub nested : AreNested (recs_in t) t.nested.now
