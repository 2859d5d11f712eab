-- The graph of a method's body.
use Rattle.std.specs.Prelude.{◌≡◌, ℕ, List, [], map, slice_get, unwrap_or, Option, Some, Result, MatchResult}
use Rattle.il_base.specs.declared.ids.MethodId.{MethodId}
use Rattle.il_base.specs.declared.world_model.record.AsmRec.{AsmRec}
use Rattle.rules.specs.flow_rules.Depths.{depth_at, IsBad, AreDepths}
use Rattle.rules.specs.flow_rules.Methods.{Setting, setting_of}
use Rattle.rules.specs.flow_rules.Steps.{offsets}
use Rattle.rules.specs.flow_rules.Exits.{exit_offsets, exits_of}
use Rattle.value_flow.specs.declared.body_graph.graph.Graph.{Graph}
use Rattle.value_flow.specs.declared.body_graph.graph.GraphError.{GraphError}
use Rattle.value_flow.specs.declared.body_graph.graph.GraphError.TheVariants as fault
use Rattle.value_flow.specs.body_graph.Places.{ArePlaces, place_at}

pub record IsGraph (recs : List AsmRec) (s : Setting) (g : Graph) : Type 0 where
  pub places : ArePlaces (offsets s.body.code) g.places
  pub exits : g.exits ≡ exits_of recs s
  pub edges : g.edges ≡ map (exit_offsets (offsets s.body.code)) (exits_of recs s)
  pub depths : AreDepths (exits_of recs s) s.body.max_stack g.depths
  pub none : g.none ≡ []

-- why a body has no graph; want of memory is free
abbrev pub IsFault : List AsmRec → Setting → GraphError → Type 0
IsFault recs s fault.Bad = IsBad (exits_of recs s) s.body.max_stack
IsFault recs s fault.NoMemory = Unit {0}

-- the graph of a method with a body, or why there is none
abbrev pub IsGraphOf : List AsmRec → MethodId → Result Graph GraphError → Type 0
IsGraphOf recs m result = (s : Setting) → setting_of recs m ≡ Some s → MatchResult result (IsGraph recs s) (IsFault recs s)

abbrev pub edges_at : Graph → ℕ → List ℕ
edges_at g at = unwrap_or (slice_get g.edges (place_at g.places at)) g.none

abbrev pub depth_of : Graph → ℕ → Option ℕ
depth_of g at = depth_at g.depths (place_at g.places at)
