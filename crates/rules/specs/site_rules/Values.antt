-- What is carried to the places of a body that ask, and the sites there. At an instruction that no walk reaches nothing is carried.
use Rattle.std.specs.Prelude.{ℕ, suc, ◌+◌, ◌-◌, List, [], ◌∷◌, Option, Some, None, ◌==◌, Bool, true, false, if◌then◌else◌}
use Rattle.std.specs.List.{list_all, flat_map}
use Rattle.il_base.specs.declared.ids.MethodId.{MethodId}
use Rattle.il_base.specs.declared.ids.TypeId.{TypeId}
use Rattle.il_base.specs.declared.ids.Place.{Place}
use Rattle.il_base.specs.declared.table.TheConstants.{METHOD_DEF}
use Rattle.il_base.specs.declared.world_model.record.AsmRec.{AsmRec}
use Rattle.il_base.specs.world_model.Tokens.{token_of}
use Rattle.rules.specs.declared.link_rules.row_at.RowAt.{RowAt}
use Rattle.rules.specs.declared.flow_rules.source.Source.{Source}
use Rattle.rules.specs.declared.flow_rules.source.Source.TheVariants as source
use Rattle.rules.specs.flow_rules.Methods.{Setting}
use Rattle.rules.specs.flow_rules.Moves.{fixed_in, sources_of}
use Rattle.rules.specs.declared.site_rules.target.Target.{Target}
use Rattle.rules.specs.declared.site_rules.site.Site.{Site}

-- A method whose flow is known: its row, the type that it is in, the depth of the evaluation stack at the instruction at an IL offset,
-- and whether a source, by its place among the sources of the body, is carried to a slot there.
pub record Flowed : Type 0 where
  pub recs : List AsmRec
  pub method : MethodId
  pub at : RowAt
  pub owner : Option TypeId
  pub setting : Setting
  pub depth : ℕ → Option ℕ
  pub has : ℕ → ℕ → ℕ → Bool

-- ---- what is carried to a slot

abbrev pub kept_from : (ℕ → Bool) → ℕ → List Source → List Source
kept_from test k [] = []
kept_from test k (s ∷ ss) = if test k then s ∷ kept_from test (k + 1) ss else kept_from test (k + 1) ss

unfoldable pub carried_to : Flowed → ℕ → ℕ → List Source
carried_to f offset slot = kept_from (f.has offset slot) 0 (sources_of f.recs f.setting f.owner)

-- the n-th value from the top of a stack of this depth, counted from 1
abbrev pub from_top : Flowed → ℕ → ℕ → Option ℕ → List Source
from_top f offset n None = []
from_top f offset n (Some d) = carried_to f offset (fixed_in f.setting + d - n)

unfoldable pub value_from_top : Flowed → ℕ → ℕ → List Source
value_from_top f offset n = from_top f offset n (f.depth offset)

abbrev pub if_reached : List Source → Option ℕ → List Source
if_reached sources None = []
if_reached sources (Some d) = sources

-- anything may be there
unfoldable pub anything_at : Flowed → ℕ → List Source
anything_at f offset = if_reached (source.Opaque ∷ []) (f.depth offset)

-- ---- known names

abbrev pub is_known_name : Source → Bool
is_known_name (source.KnownText x) = true
is_known_name source.Null = true
is_known_name _ = false

abbrev pub name_in : Source → List (List ℕ)
name_in (source.KnownText x) = x ∷ []
name_in _ = []

-- the texts of a name that is one of known texts, or null
unfoldable pub known_names : List Source → Option (List (List ℕ))
known_names sources = if list_all is_known_name sources then Some (flat_map name_in sources) else None

-- ---- sites

abbrev pub place_at : ℕ → ℕ → ℕ → Place
place_at asm token offset = record { asm = asm; token = token; offset = offset }

-- an instruction of the method
abbrev pub place_of : Flowed → ℕ → Place
place_of f offset = place_at f.at.asm (token_of METHOD_DEF (suc f.at.row)) offset

abbrev pub site : Place → Target → ℕ → Option (List (List ℕ)) → List Source → Site
site place to kinds names sources = record { place = place; target = to; kinds = kinds; names = names; sources = sources }

abbrev pub if_kinds : ℕ → Site → List Site
if_kinds kinds s = if kinds == 0 then [] else s ∷ []

-- a site that asks for these kinds; none where that is no kind
abbrev pub asking : Place → Target → ℕ → List Source → List Site
asking place to kinds sources = if_kinds kinds (site place to kinds None sources)
