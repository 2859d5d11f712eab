-- What rounds find (`rules/specs/flow_rules/Rounds`) is what walks reach.
use Rattle.std.specs.Prelude.{◌≡◌, ◌≤◌, ◌↔◌, ℕ, true, false, List, Option, slice_get}
use Rattle.std.specs.List.{list_any}
use Rattle.il_base.specs.declared.ids.TypeId.{TypeId}
use Rattle.il_base.specs.declared.world_model.record.AsmRec.{AsmRec}
use Rattle.rules.specs.link_rules.Cycles.{listed}
use Rattle.rules.specs.declared.flow_rules.exit.Exit.{Exit}
use Rattle.rules.specs.flow_rules.Methods.{Setting}
use Rattle.rules.specs.flow_rules.Exits.{exits_of}
use Rattle.rules.specs.flow_rules.Depths.{IsBad, AreDepths}
use Rattle.rules.specs.flow_rules.Moves.{sources_of, flow_of}
use Rattle.rules.specs.flow_rules.Flows.{most_work, work_of, CarriesAt}
use Rattle.rules.specs.flow_rules.Rounds.{has_depths, depths_found, is_found}

-- a body that has depths by its walks
abbrev pub DepthsFound : Type 0
DepthsFound = (exits : List Exit) (most : ℕ) (depths : List (Option ℕ)) → AreDepths exits most depths → (has_depths exits most ≡ true) × (depths_found exits ≡ depths)

-- a body that has none
abbrev pub NoDepthsFound : Type 0
NoDepthsFound = (exits : List Exit) (most : ℕ) → IsBad exits most → has_depths exits most ≡ false

-- a source of a body within the limit, by its place among the sources
abbrev pub SourcesFound : Type 0
SourcesFound =
    (recs : List AsmRec) (s : Setting) (owner : Option TypeId) (depths : List (Option ℕ)) → AreDepths (exits_of recs s) s.body.max_stack depths → work_of recs s owner depths ≤ most_work
    → (i slot k : ℕ) → (list_any (is_found (flow_of recs s owner depths) (work_of recs s owner depths) i slot) (listed (slice_get (sources_of recs s owner) k)) ≡ true) ↔ CarriesAt recs s owner depths i slot k
