-- The flow of a method is one alone.
use Rattle.std.proofs.Common.{◌≡◌, ℕ, Bool, true, false, List, Option, Some, refl, sym, ap, subst, ◌∙◌}
use Rattle.std.specs.Prelude.{◌↔◌, unwrap_or, nat_eq}
use Rattle.std.specs.List.{position_from}
use Rattle.std.specs.Option.{option_and_then, option_map}
use Rattle.il_base.specs.declared.ids.MethodId.{MethodId}
use Rattle.il_base.specs.declared.ids.TypeId.{TypeId}
use Rattle.il_base.specs.declared.world_model.record.AsmRec.{AsmRec}
use Rattle.rules.specs.declared.link_rules.row_at.RowAt.{RowAt}
use Rattle.il_base.specs.world_model.Worlds.{type_id}
use Rattle.rules.specs.type_rules.Slots.{method_home, type_of_method}
use Rattle.rules.specs.flow_rules.Depths.{depth_at}
use Rattle.rules.specs.flow_rules.Methods.{Setting, setting_of}
use Rattle.rules.specs.flow_rules.Steps.{offsets, place_in}
use Rattle.value_flow.specs.declared.body_graph.graph.Graph.{Graph}
use Rattle.value_flow.specs.declared.body_graph.places.Places.{Places}
use Rattle.value_flow.specs.body_graph.Places.{ArePlaces, place_at}
use Rattle.value_flow.specs.body_graph.Graphs.{depth_of}
use Rattle.value_flow.specs.declared.flow.Flow.{Flow}
use Rattle.rules.specs.flow_rules.Flows.{owner_of, Carries}
use Rattle.value_flow.specs.Flows.{is_carried}
use Rattle.rules.specs.site_rules.Values.{Flowed}
use Rattle.requirements.specs.Ties.{IsFlowed, IsFlowOn}

same_truth : {P : Type 0} (b c : Bool) → b ≡ true ↔ P → c ≡ true ↔ P → b ≡ c
same_truth true true p q = refl
same_truth true false p q = sym (q.1 (p.0 refl))
same_truth false true p q = p.1 (q.0 refl)
same_truth false false p q = refl

module _ (recs : List AsmRec) (m : MethodId) (depths : List (Option ℕ)) (f g : Flowed) (p : IsFlowed recs m depths f) (q : IsFlowed recs m depths g) where
  same_at : f.at ≡ g.at
  same_at = let e : Some f.at ≡ Some g.at = sym p.home ∙ q.home in cc

  same_setting : f.setting ≡ g.setting
  same_setting = let e : Some f.setting ≡ Some g.setting = sym p.setting ∙ q.setting in cc

  same_owner : f.owner ≡ g.owner
  same_owner = p.owner ∙ sym q.owner

  same_depth : (at : ℕ) → f.depth at ≡ g.depth at
  same_depth at = p.depth at ∙ ap (λ (s : Setting). depth_at depths (place_in (offsets s.body.code) at)) same_setting ∙ sym (q.depth at)

  has_too : (at slot k : ℕ) → f.has at slot k ≡ true ↔ Carries recs g.setting g.owner depths at slot k
  has_too at slot k =
      subst (λ (s : Setting). f.has at slot k ≡ true ↔ Carries recs s g.owner depths at slot k) same_setting
      (subst (λ (o : Option TypeId). f.has at slot k ≡ true ↔ Carries recs f.setting o depths at slot k) same_owner (p.has at slot k))

  same_has : (at slot k : ℕ) → f.has at slot k ≡ g.has at slot k
  same_has at slot k = same_truth (f.has at slot k) (g.has at slot k) (has_too at slot k) (q.has at slot k)

  pub same_flow : f ≡ g
  same_flow = λ i. record {
    recs = (p.all ∙ sym q.all) i;
    method = (p.method ∙ sym q.method) i;
    at = same_at i;
    owner = same_owner i;
    setting = same_setting i;
    depth = λ at. same_depth at i;
    has = λ at slot k. same_has at slot k i;
  }

-- the place of an instruction, as the graph has it
pub same_place : (keys : List ℕ) (p : Places) → ArePlaces keys p → (at : ℕ) → place_at p at ≡ place_in keys at
same_place keys p are at =
    ap (λ (o : Option ℕ). unwrap_or o p.count) (are.first at) ∙ ap (λ (n : ℕ). unwrap_or (position_from (nat_eq at) 0 keys) n) are.count

pub same_depth_at : (keys : List ℕ) (g : Graph) → ArePlaces keys g.places → (at : ℕ) → depth_of g at ≡ depth_at g.depths (place_in keys at)
same_depth_at keys g are at = ap (depth_at g.depths) (same_place keys g.places are at)

-- ---- the flow that the code has

pub owned_by : (recs : List AsmRec) (m : MethodId) (at : RowAt) (owner : Option TypeId) → method_home recs m ≡ Some at
    → owner ≡ option_map (λ (of : RowAt). type_id recs of.asm of.row) (type_of_method recs at) → owner_of recs m ≡ owner
owned_by recs m at owner home e =
    ap (λ (h : Option RowAt). option_map (λ (of : RowAt). type_id recs of.asm of.row) (option_and_then (type_of_method recs) h)) home ∙ sym e

pub is_flowed : (recs : List AsmRec) (m : MethodId) (at : RowAt) (owner : Option TypeId) (s : Setting) (flow : Flow)
    → method_home recs m ≡ Some at → setting_of recs m ≡ Some s → owner_of recs m ≡ owner → IsFlowOn recs m s flow
    → IsFlowed recs m flow.graph.now.depths
    (record { recs = recs; method = m; at = at; owner = owner; setting = s; depth = λ o. depth_of flow.graph.now o; has = λ o slot k. is_carried flow o slot k })
is_flowed recs m at owner s flow home found owned on = record {
  all = refl;
  method = refl;
  home = home;
  owner = sym owned;
  setting = found;
  depth = λ o. same_depth_at (offsets s.body.code) flow.graph.now on.graph.places o;
  has = λ o slot k. subst (λ (w : Option TypeId). is_carried flow o slot k ≡ true ↔ Carries recs s w flow.graph.now.depths o slot k) owned (on.flow.exact o slot k);
}
