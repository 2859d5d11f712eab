-- What the calls promise, from what their parts do.
use Rattle.std.proofs.Common.{◌≡◌, ℕ, ◌*◌, List, length, sym, ◌∙◌, subst, Bool, true}
use Rattle.std.specs.Prelude.{Option, Some, Result, MatchResult, ◌↔◌}
use Rattle.il_base.specs.declared.ids.MethodId.{MethodId}
use Rattle.il_base.specs.declared.ids.TypeId.{TypeId}
use Rattle.il_base.specs.declared.world_model.record.AsmRec.{AsmRec}
use Rattle.value_flow.specs.declared.slot_flow.walks.Reached.{Reached}
use Rattle.value_flow.specs.slot_flow.Found.{is_found}
use Rattle.rules.specs.declared.flow_rules.source.Source.{Source}
use Rattle.rules.specs.flow_rules.Methods.{Setting, setting_of}
use Rattle.rules.specs.flow_rules.Steps.{offsets}
use Rattle.rules.specs.flow_rules.Moves.{sources_of}
use Rattle.value_flow.specs.declared.body_graph.graph.Graph.{Graph}
use Rattle.value_flow.specs.body_graph.Places.{place_at}
use Rattle.value_flow.specs.body_graph.Graphs.{IsGraph}
use Rattle.value_flow.proofs.lemmas.body_graph.PlaceLemmas.{place_is}
use Rattle.value_flow.specs.declared.flow.Flow.{Flow}
use Rattle.value_flow.specs.declared.flow.FlowError.{FlowError}
use Rattle.rules.specs.flow_rules.Flows.{slots_of, capped, work_of, owner_of, CarriesAt, Carries}
use Rattle.value_flow.specs.Flows.{is_carried, IsReachedOf, IsFlow, IsFault, IsItsGraph, IsFlowOf}

-- the graph of the method that was found, whose world has these assemblies

pub graph_of : (recs all : List AsmRec) (m : MethodId) (g : Graph) (s : Setting) → all ≡ recs → Some s ≡ setting_of recs m → IsItsGraph recs m g → IsGraph all s g
graph_of recs all m g s same found is = subst (λ (xs : List AsmRec). IsGraph xs s g) (sym same) (is s (sym found))

pub flow_found : (recs all : List AsmRec) (m : MethodId) (g : Graph) (s : Setting) (owner : Option TypeId) (r : Result Flow FlowError) → all ≡ recs → Some s ≡ setting_of recs m → owner ≡ owner_of recs m
    → MatchResult r (IsFlow all s owner g) (IsFault all s owner g) → IsFlowOf recs m g r
flow_found recs all m g s owner r same found own h = λ t is.
    let e : s ≡ t = cc in
    subst (λ (x : Setting). MatchResult r (IsFlow recs x (owner_of recs m) g) (IsFault recs x (owner_of recs m) g)) e
    (subst (λ (o : Option TypeId). MatchResult r (IsFlow recs s o g) (IsFault recs s o g)) own
    (subst (λ (xs : List AsmRec). MatchResult r (IsFlow xs s owner g) (IsFault xs s owner g)) same h))

-- by offsets

pub flow_exactly : (recs : List AsmRec) (s : Setting) (owner : Option TypeId) (g : Graph) (r : Reached) → IsGraph recs s g → IsReachedOf recs s owner g.depths r
    → (at slot k : ℕ) → (is_found r (place_at g.places at) slot k ≡ true) ↔ Carries recs s owner g.depths at slot k
flow_exactly recs s owner g r is h at slot k =
    subst (λ (n : ℕ). (is_found r (place_at g.places at) slot k ≡ true) ↔ CarriesAt recs s owner g.depths n slot k) (place_is (offsets s.body.code) g.places at is.places) (h (place_at g.places at) slot k)

pub has_exactly : (recs : List AsmRec) (s : Setting) (owner : Option TypeId) (g : Graph) (f : Flow) (at slot k : ℕ) (b : Bool) → b ≡ is_carried f at slot k → IsFlow recs s owner g f
    → (b ≡ true) ↔ Carries recs s owner g.depths at slot k
has_exactly recs s owner g f at slot k b e is = (λ t. (is.exact at slot k).0 (sym e ∙ t), λ c. e ∙ (is.exact at slot k).1 c)

-- the limit

pub work_is : (recs : List AsmRec) (s : Setting) (owner : Option TypeId) (depths : List (Option ℕ)) (slots : ℕ) (sources : List Source) (found : ℕ)
    → slots ≡ slots_of s depths → sources ≡ sources_of recs s owner → found ≡ capped (capped (slots * length s.body.code) * length sources) → found ≡ work_of recs s owner depths
unfolding work_of
work_is recs s owner depths slots sources found a b e = e ∙ (λ i. capped (capped (a i * length s.body.code) * length (b i)))
