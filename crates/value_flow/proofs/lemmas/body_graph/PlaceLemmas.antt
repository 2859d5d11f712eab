-- An instruction by its offset, and its edges.
use Rattle.std.proofs.Common.{◌≡◌, ℕ, List, [], ap, sym, ◌∙◌}
use Rattle.std.specs.Prelude.{Option, Some, None, slice_get, unwrap_or}
use Rattle.il_base.specs.declared.world_model.record.AsmRec.{AsmRec}
use Rattle.rules.specs.flow_rules.Methods.{Setting}
use Rattle.rules.specs.flow_rules.Steps.{offsets, place_in}
use Rattle.rules.specs.flow_rules.Exits.{edges_of}
use Rattle.value_flow.specs.declared.body_graph.places.Places.{Places}
use Rattle.value_flow.specs.declared.body_graph.graph.Graph.{Graph}
use Rattle.value_flow.specs.body_graph.Places.{place_at, ArePlaces}
use Rattle.value_flow.specs.body_graph.Graphs.{IsGraph}

pub place_is : (keys : List ℕ) (p : Places) (offset : ℕ) → ArePlaces keys p → place_at p offset ≡ place_in keys offset
place_is keys p offset a = λ i. unwrap_or (a.first offset i) (a.count i)

edges_are : (recs : List AsmRec) (s : Setting) (g : Graph) (at : ℕ) → IsGraph recs s g → unwrap_or (slice_get g.edges (place_at g.places at)) [] ≡ edges_of recs s at
unfolding edges_of
edges_are recs s g at is = λ i. unwrap_or (slice_get (is.edges i) (place_is (offsets s.body.code) g.places at is.places i)) []

pub edges_none : (recs : List AsmRec) (s : Setting) (g : Graph) (at : ℕ) → IsGraph recs s g → slice_get g.edges (place_at g.places at) ≡ None → g.none ≡ edges_of recs s at
edges_none recs s g at is none = is.none ∙ ap (λ (o : Option (List ℕ)). unwrap_or o []) (sym none) ∙ edges_are recs s g at is

pub edges_some : (recs : List AsmRec) (s : Setting) (g : Graph) (at : ℕ) (edges : List ℕ) → IsGraph recs s g → slice_get g.edges (place_at g.places at) ≡ Some edges → edges ≡ edges_of recs s at
edges_some recs s g at edges is some = ap (λ (o : Option (List ℕ)). unwrap_or o []) (sym some) ∙ edges_are recs s g at is
