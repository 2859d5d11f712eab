-- A method whose flow is known, as the code has it.
use Rattle.std.specs.Prelude.{◌≡◌, Some, slice_get}
use Rattle.mark_parts.specs.mark_tables.Assemblies.{all_of}
use Rattle.site_kinds.specs.Known.{IsAnnotated}
use Rattle.rules.specs.flow_rules.Moves.{sources_of}
use Rattle.value_flow.specs.body_graph.Methods.{setting_in}
use Rattle.value_flow.specs.body_graph.Graphs.{depth_of}
use Rattle.value_flow.specs.Flows.{is_carried}
use Rattle.rules.specs.site_rules.Values.{Flowed}
use Rattle.requirements.specs.declared.body.Body.{Body}

abbrev pub flowed : Body → Flowed
flowed b = record {
  recs = all_of b.annotated.now.marker.now;
  method = b.id;
  at = b.at;
  owner = b.owner;
  setting = setting_in b.method.now;
  depth = λ at. depth_of b.flow.now.graph.now at;
  has = λ at slot k. is_carried b.flow.now at slot k;
}

pub record IsBody (b : Body) : Type 0 where
  pub annotated : IsAnnotated b.annotated.now
  pub here : slice_get (all_of b.annotated.now.marker.now) b.method.now.asm ≡ Some b.method.now.rec.now
  pub at_here : slice_get (all_of b.annotated.now.marker.now) b.at.asm ≡ Some b.method.now.rec.now
  pub sources : b.flow.now.sources ≡ sources_of (all_of b.annotated.now.marker.now) (setting_in b.method.now) b.owner
