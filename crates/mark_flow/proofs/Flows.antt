-- The sites of a method by the flow that the code finds, and why there is none.
use Rattle.std.proofs.Common.{◌≡◌, ◌<◌, ◌≤◌, ℕ, Bool, true, false, List, [], ◌∷◌, Option, Some, None, refl, sym, ap, subst, ◌∙◌, le-leb, leb-true, arith}
use Rattle.std.specs.Prelude.{nat_le, ◌&&◌, ◌↔◌, slice_get, if◌then◌else◌}
use Rattle.std.specs.List.{list_any}
use Rattle.std.specs.Option.{option_and_then}
use Rattle.il_base.specs.declared.ids.TypeId.{TypeId}
use Rattle.il_base.specs.declared.ids.MethodId.{MethodId}
use Rattle.il_base.specs.declared.outside.TheConstants.{STACK}
use Rattle.il_base.specs.declared.world_model.known.BadKind.TheVariants.{Outside}
use Rattle.il_base.specs.declared.world_model.record.AsmRec.{AsmRec}
use Rattle.rules.specs.declared.link_rules.row_at.RowAt.{RowAt}
use Rattle.rules.specs.link_rules.Cycles.{listed}
use Rattle.rules.specs.type_rules.Slots.{method_home}
use Rattle.rules.specs.flow_rules.Methods.{Setting, setting_at, setting_of}
use Rattle.rules.specs.flow_rules.Exits.{exits_of}
use Rattle.rules.specs.flow_rules.Depths.{depth_at, IsBad}
use Rattle.rules.specs.flow_rules.Steps.{offsets, place_in}
use Rattle.rules.specs.flow_rules.Moves.{sources_of, flow_of}
use Rattle.rules.specs.flow_rules.Flows.{most_work, work_of, owner_at, owner_of, Carries}
use Rattle.rules.specs.flow_rules.Rounds.{has_depths, is_found}
use Rattle.rules.specs.declared.site_rules.site.Site.{Site}
use Rattle.rules.specs.site_rules.Arguments.{sites_of_parts}
use Rattle.rules.specs.site_rules.Items.{depths_in, work_in, has_flow, has_source, flowed_by, flowed_at, signature_parts, sites_by_flow, method_sites}
use Rattle.rules.specs.mark_rules.FlowFlaws.{over_limit, flow_faults}
use Rattle.value_flow.specs.declared.body_graph.graph.Graph.{Graph}
use Rattle.value_flow.specs.declared.flow.Flow.{Flow}
use Rattle.value_flow.specs.body_graph.Graphs.{IsGraph}
use Rattle.value_flow.specs.Flows.{IsFlow}
use Rattle.flow_laws.proofs.lemmas.Depthing.{depths_are_found, no_depths_are_found}
use Rattle.flow_laws.proofs.lemmas.Sourcing.{sources_are_found}
use Rattle.requirements.specs.Ties.{IsFlowed, AreSites, IsFlowOn, IsItsFlow}
use Rattle.requirements.proofs.Same.{owned_by}

module _ (recs : List AsmRec) (s : Setting) where
  found_depths : (g : Graph) → IsGraph recs s g → (has_depths (exits_of recs s) s.body.max_stack ≡ true) × (depths_in recs s ≡ g.depths)
  found_depths g is = depths_are_found (exits_of recs s) s.body.max_stack g.depths is.depths

  -- ---- faults

  pub faults_of_graph : (owner : Option TypeId) (g : Graph) → IsGraph recs s g → over_limit (work_of recs s owner g.depths) ≡ flow_faults recs owner s
  faults_of_graph owner g is =
      let r = found_depths g is in
      sym (λ i. if r.0 i then over_limit (work_of recs s owner (r.1 i)) else Outside STACK ∷ [])

  pub faults_of_bad : (owner : Option TypeId) → IsBad (exits_of recs s) s.body.max_stack → Outside STACK ∷ [] ≡ flow_faults recs owner s
  faults_of_bad owner bad =
      let none = no_depths_are_found (exits_of recs s) s.body.max_stack bad in
      sym (λ i. if none i then over_limit (work_in recs owner s) else Outside STACK ∷ [])

  -- ---- whether there is a flow

  flow_by_graph : (owner : Option TypeId) (g : Graph) → IsGraph recs s g → has_flow recs owner s ≡ nat_le (work_of recs s owner g.depths) most_work
  unfolding has_flow
  flow_by_graph owner g is =
      let r = found_depths g is in
      λ i. r.0 i && nat_le (work_of recs s owner (r.1 i)) most_work

  no_flow_by_bad : (owner : Option TypeId) → IsBad (exits_of recs s) s.body.max_stack → has_flow recs owner s ≡ false
  unfolding has_flow
  no_flow_by_bad owner bad =
      let none = no_depths_are_found (exits_of recs s) s.body.max_stack bad in
      λ i. none i && nat_le (work_in recs owner s) most_work

  over : (n : ℕ) → most_work < n → nat_le n most_work ≡ false
  over n lt = by_test (nat_le n most_work) refl
    where
      by_test : (b : Bool) → nat_le n most_work ≡ b → nat_le n most_work ≡ false
      by_test false e = e
      by_test true e = let le : n ≤ most_work = leb-true n most_work e in absurd (omega (arith, le, lt))

  -- ---- what the code finds

  source_found : (owner : Option TypeId) (g : Graph) → IsGraph recs s g → work_of recs s owner g.depths ≤ most_work → (at slot k : ℕ) → has_source recs owner s at slot k ≡ true ↔ Carries recs s owner g.depths at slot k
  unfolding has_source
  source_found owner g is within at slot k =
      subst
      (λ (ds : List (Option ℕ)).
      (list_any (is_found (flow_of recs s owner ds) (work_of recs s owner ds) (place_in (offsets s.body.code) at) slot) (listed (slice_get (sources_of recs s owner) k)) ≡ true) ↔ Carries recs s owner g.depths at slot k)
      (sym (found_depths g is).1) (sources_are_found recs s owner g.depths is.depths within (place_in (offsets s.body.code) at) slot k)

  module _ (m : MethodId) (at : RowAt) (home : method_home recs m ≡ Some at) (here : setting_at recs at ≡ Some s) where
    setting_is : setting_of recs m ≡ Some s
    unfolding setting_of
    setting_is = ap (option_and_then (setting_at recs)) home ∙ here

    is_flowed : (g : Graph) → IsGraph recs s g → work_of recs s (owner_of recs m) g.depths ≤ most_work → IsFlowed recs m g.depths (flowed_by recs m at s)
    is_flowed g is within = record {
      all = refl;
      method = refl;
      home = home;
      owner = refl;
      setting = setting_is;
      depth = λ o. ap (λ (ds : List (Option ℕ)). depth_at ds (place_in (offsets s.body.code) o)) (found_depths g is).1;
      has = source_found (owner_of recs m) g is within;
    }

    sites_where : (b : Bool) → has_flow recs (owner_of recs m) s ≡ b → method_sites recs m at ≡ sites_by_flow recs (owner_of recs m) at (if b then Some (flowed_by recs m at s) else None)
    unfolding method_sites flowed_at
    sites_where b e =
        ap
        (λ (o : Option Setting). sites_by_flow recs (owner_of recs m) at (option_and_then (λ (x : Setting). if has_flow recs (owner_of recs m) x then Some (flowed_by recs m at x) else None) o)) here
        ∙ ap (λ (y : Bool). sites_by_flow recs (owner_of recs m) at (if y then Some (flowed_by recs m at s) else None)) e

    module _ (owner : Option TypeId) (own : owner ≡ owner_at recs at) where
      owned : owner_of recs m ≡ owner
      owned = owned_by recs m at owner home own

      plain : has_flow recs (owner_of recs m) s ≡ false → method_sites recs m at ≡ sites_of_parts recs at.asm owner (signature_parts recs at)
      plain e = sites_where false e ∙ ap (λ (o : Option TypeId). sites_of_parts recs at.asm o (signature_parts recs at)) owned

      pub plain_by_bad : IsBad (exits_of recs s) s.body.max_stack → sites_of_parts recs at.asm owner (signature_parts recs at) ≡ method_sites recs m at
      plain_by_bad bad = sym (plain (no_flow_by_bad (owner_of recs m) bad))

      pub plain_by_limit : (g : Graph) → IsGraph recs s g → (found : ℕ) → most_work < found → found ≡ work_of recs s owner g.depths → sites_of_parts recs at.asm owner (signature_parts recs at) ≡ method_sites recs m at
      plain_by_limit g is found lt e =
          sym
          (plain
          (flow_by_graph (owner_of recs m) g is ∙ ap (λ (o : Option TypeId). nat_le (work_of recs s o g.depths) most_work) owned
          ∙ over (work_of recs s owner g.depths) (subst (λ (n : ℕ). most_work < n) e lt)))

      module _ (g : Graph) (is : IsGraph recs s g) (flow : Flow) (flows : IsFlow recs s owner g flow) where
        within : work_of recs s (owner_of recs m) g.depths ≤ most_work
        within = subst (λ (o : Option TypeId). work_of recs s o g.depths ≤ most_work) (sym owned) flows.within

        pub its_flow : IsItsFlow recs m flow
        its_flow t e =
            let same : s ≡ t = let both : Some s ≡ Some t = sym setting_is ∙ e in cc in
            subst (λ (x : Setting). IsFlowOn recs m x flow) same
            (record {
              graph = subst (λ (x : Graph). IsGraph recs s x) (sym flows.graph) is;
              flow = subst (λ (o : Option TypeId). IsFlow recs s o flow.graph.now flow) (sym owned) (subst (λ (x : Graph). IsFlow recs s owner x flow) (sym flows.graph) flows);
            })

        pub sites_by_code : (sites : List Site) → AreSites recs m flow.graph.now.depths sites → sites ≡ method_sites recs m at
        sites_by_code sites are =
            are (flowed_by recs m at s) (subst (λ (x : Graph). IsFlowed recs m x.depths (flowed_by recs m at s)) (sym flows.graph) (is_flowed g is within))
            ∙ sym (sites_where true (flow_by_graph (owner_of recs m) g is ∙ le-leb (work_of recs s (owner_of recs m) g.depths) most_work within))

-- a method whose body, signature or locals have no reading
pub plain_by_none : (recs : List AsmRec) (m : MethodId) (at : RowAt) (owner : Option TypeId) → method_home recs m ≡ Some at → setting_at recs at ≡ None → owner ≡ owner_at recs at
    → sites_of_parts recs at.asm owner (signature_parts recs at) ≡ method_sites recs m at
unfolding method_sites flowed_at
plain_by_none recs m at owner home none own =
    sym
    (ap
    (λ (o : Option Setting). sites_by_flow recs (owner_of recs m) at (option_and_then (λ (x : Setting). if has_flow recs (owner_of recs m) x then Some (flowed_by recs m at x) else None) o)) none
    ∙ ap (λ (o : Option TypeId). sites_of_parts recs at.asm o (signature_parts recs at)) (owned_by recs m at owner home own))
