-- What ties the sites of a method to the flow of its values.
use Rattle.std.specs.Prelude.{◌≡◌, ℕ, ◌↔◌, true, List, Option, Some}
use Rattle.std.specs.List.{flat_map}
use Rattle.il_base.specs.declared.ids.MethodId.{MethodId}
use Rattle.il_base.specs.declared.world_model.record.AsmRec.{AsmRec}
use Rattle.rules.specs.link_rules.Cycles.{listed}
use Rattle.rules.specs.type_rules.Slots.{method_home}
use Rattle.rules.specs.flow_rules.Depths.{depth_at}
use Rattle.rules.specs.flow_rules.Methods.{Setting, setting_of}
use Rattle.rules.specs.flow_rules.Steps.{offsets, place_in}
use Rattle.value_flow.specs.body_graph.Graphs.{IsGraph}
use Rattle.value_flow.specs.declared.flow.Flow.{Flow}
use Rattle.rules.specs.flow_rules.Flows.{owner_of, Carries}
use Rattle.value_flow.specs.Flows.{IsFlow}
use Rattle.rules.specs.declared.site_rules.site.Site.{Site}
use Rattle.rules.specs.site_rules.Values.{Flowed}
use Rattle.rules.specs.site_rules.Bodies.{head_sites, sites_of_body}

-- a method of a world, where the evaluation stack has these depths, and what walks carry is carried
pub record IsFlowed (recs : List AsmRec) (m : MethodId) (depths : List (Option ℕ)) (f : Flowed) : Type 0 where
  pub all : f.recs ≡ recs
  pub method : f.method ≡ m
  pub home : method_home recs m ≡ Some f.at
  pub owner : f.owner ≡ owner_of recs m
  pub setting : setting_of recs m ≡ Some f.setting
  pub depth : (at : ℕ) → f.depth at ≡ depth_at depths (place_in (offsets f.setting.body.code) at)
  pub has : (at slot k : ℕ) → f.has at slot k ≡ true ↔ Carries recs f.setting f.owner depths at slot k

-- the sites of a method where the evaluation stack has these depths
abbrev pub AreSites : List AsmRec → MethodId → List (Option ℕ) → List Site → Type 0
AreSites recs m depths sites = (f : Flowed) → IsFlowed recs m depths f → sites ≡ sites_of_body f

-- a flow, and the graph that it is of
pub record IsFlowOn (recs : List AsmRec) (m : MethodId) (s : Setting) (f : Flow) : Type 0 where
  pub graph : IsGraph recs s f.graph.now
  pub flow : IsFlow recs s (owner_of recs m) f.graph.now f

-- the flow of a method
abbrev pub IsItsFlow : List AsmRec → MethodId → Flow → Type 0
IsItsFlow recs m flow = (s : Setting) → setting_of recs m ≡ Some s → IsFlowOn recs m s flow

-- the sites of a method without a body, or whose body has no flow: one with a stack fault, or over the limit
abbrev pub plain_sites : List AsmRec → MethodId → List Site
plain_sites recs m = flat_map (head_sites recs (owner_of recs m)) (listed (method_home recs m))
