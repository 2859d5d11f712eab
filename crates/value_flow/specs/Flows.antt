-- The flow of values in a method's body.
use Rattle.std.specs.Prelude.{◌≡◌, ℕ, ◌<◌, ◌≤◌, ◌↔◌, Bool, true, List, length, map, Option, Some, Result, MatchResult}
use Rattle.il_base.specs.declared.ids.MethodId.{MethodId}
use Rattle.il_base.specs.declared.ids.TypeId.{TypeId}
use Rattle.il_base.specs.declared.world_model.record.AsmRec.{AsmRec}
use Rattle.rules.specs.declared.flow_rules.moves.Turning.TheVariants as turning
use Rattle.rules.specs.declared.flow_rules.source.Source.TheVariants as source
use Rattle.rules.specs.flow_rules.Methods.{Setting, setting_of}
use Rattle.rules.specs.flow_rules.Exits.{exits_of}
use Rattle.rules.specs.flow_rules.Sources.{turn}
use Rattle.rules.specs.flow_rules.Moves.{moves_of, taken_of, begins_of, sources_of}
use Rattle.rules.specs.flow_rules.Flows.{slots_of, most_work, work_of, owner_of, CarriesAt, Carries}
use Rattle.value_flow.specs.declared.slot_flow.moves.Flowing.{Flowing}
use Rattle.value_flow.specs.declared.slot_flow.walks.Reached.{Reached}
use Rattle.value_flow.specs.slot_flow.Found.{is_found}
use Rattle.value_flow.specs.declared.body_graph.graph.Graph.{Graph}
use Rattle.value_flow.specs.body_graph.Places.{place_at}
use Rattle.value_flow.specs.body_graph.Graphs.{IsGraph}
use Rattle.value_flow.specs.declared.flow.Flow.{Flow}
use Rattle.value_flow.specs.declared.parts.Parts.{Parts}
use Rattle.value_flow.specs.declared.flow.FlowError.{FlowError}
use Rattle.value_flow.specs.declared.flow.FlowError.TheVariants as fault
use Rattle.value_flow.specs.Numbers.{number_in, numbered_move}

-- ---- the flow

abbrev pub is_carried : Flow → ℕ → ℕ → ℕ → Bool
is_carried f at slot k = is_found f.reached (place_at f.graph.now.places at) slot k

pub record IsFlow (recs : List AsmRec) (s : Setting) (owner : Option TypeId) (g : Graph) (f : Flow) : Type 0 where
  pub graph : f.graph.now ≡ g
  pub sources : f.sources ≡ sources_of recs s owner
  pub within : work_of recs s owner g.depths ≤ most_work
  pub exact : (at slot k : ℕ) → is_carried f at slot k ≡ true ↔ Carries recs s owner g.depths at slot k

abbrev pub IsFault : List AsmRec → Setting → Option TypeId → Graph → FlowError → Type 0
IsFault recs s owner g (fault.Limit found) = (most_work < found) × (found ≡ work_of recs s owner g.depths)
IsFault recs s owner g fault.NoMemory = Unit {0}

abbrev pub IsFlowOf : List AsmRec → MethodId → Graph → Result Flow FlowError → Type 0
IsFlowOf recs m g result =
    (s : Setting) → setting_of recs m ≡ Some s → MatchResult result (IsFlow recs s (owner_of recs m) g) (IsFault recs s (owner_of recs m) g)

-- the graph of a method
abbrev pub IsItsGraph : List AsmRec → MethodId → Graph → Type 0
IsItsGraph recs m g = (s : Setting) → setting_of recs m ≡ Some s → IsGraph recs s g

-- what is reached is what is carried
abbrev pub IsReachedOf : List AsmRec → Setting → Option TypeId → List (Option ℕ) → Reached → Type 0
IsReachedOf recs s owner depths r = (i slot k : ℕ) → is_found r i slot k ≡ true ↔ CarriesAt recs s owner depths i slot k

-- ---- as the code has it

-- the flow of a method with its sources as numbers
pub record IsNumbered (recs : List AsmRec) (s : Setting) (owner : Option TypeId) (ds : List (Option ℕ)) (f : Flowing) : Type 0 where
  pub begins : f.begins.now ≡ map (number_in (sources_of recs s owner)) (begins_of s)
  pub depths : f.depths.now ≡ ds
  pub exits : f.exits.now ≡ exits_of recs s
  pub moves : f.moves.now ≡ map (numbered_move (sources_of recs s owner)) (moves_of recs s owner)
  pub taken : f.taken.now ≡ taken_of s
  pub from_handle : f.from_handle.now ≡ map (λ x. number_in (sources_of recs s owner) (turn recs s.asm turning.FromHandle x)) (sources_of recs s owner)
  pub from_text : f.from_text.now ≡ map (λ x. number_in (sources_of recs s owner) (turn recs s.asm turning.FromText x)) (sources_of recs s owner)
  pub unknown : f.unknown ≡ number_in (sources_of recs s owner) source.Opaque
  pub count : f.count ≡ length (sources_of recs s owner)
  pub slots : f.slots ≡ slots_of s ds

-- the lists of numbers that it is made of
pub record AreParts (recs : List AsmRec) (s : Setting) (owner : Option TypeId) (p : Parts) : Type 0 where
  pub begins : p.begins.items ≡ map (number_in (sources_of recs s owner)) (begins_of s)
  pub moves : p.moves.items ≡ map (numbered_move (sources_of recs s owner)) (moves_of recs s owner)
  pub taken : p.taken.items ≡ taken_of s
  pub from_handle : p.from_handle.items ≡ map (λ x. number_in (sources_of recs s owner) (turn recs s.asm turning.FromHandle x)) (sources_of recs s owner)
  pub from_text : p.from_text.items ≡ map (λ x. number_in (sources_of recs s owner) (turn recs s.asm turning.FromText x)) (sources_of recs s owner)
