-- The sources that are carried to the slots of a method's body, and the limit on bodies whose flow is followed.
use Rattle.std.specs.Prelude.{◌≡◌, ℕ, ◌+◌, ◌*◌, List, [], ◌∷◌, length, min, max, slice_get, Option, Some, None}
use Rattle.std.specs.Option.{option_and_then, option_map}
use Rattle.il_base.specs.declared.ids.MethodId.{MethodId}
use Rattle.il_base.specs.declared.ids.TypeId.{TypeId}
use Rattle.il_base.specs.declared.world_model.record.AsmRec.{AsmRec}
use Rattle.il_base.specs.world_model.Worlds.{type_id}
use Rattle.rules.specs.declared.link_rules.row_at.RowAt.{RowAt}
use Rattle.rules.specs.type_rules.Slots.{method_home, type_of_method}
use Rattle.rules.specs.declared.flow_rules.source.Source.{Source}
use Rattle.rules.specs.flow_rules.Methods.{Setting}
use Rattle.rules.specs.flow_rules.Steps.{offsets, place_in}
use Rattle.rules.specs.flow_rules.Carrying.{Carried}
use Rattle.rules.specs.flow_rules.Moves.{fixed_in, sources_of, flow_of}

-- ---- the limit

abbrev pub deepest_from : ℕ → List (Option ℕ) → ℕ
deepest_from d [] = d
deepest_from d (None ∷ depths) = deepest_from d depths
deepest_from d (Some e ∷ depths) = deepest_from (max d e) depths

-- the deepest stack of the graph
abbrev pub deepest : List (Option ℕ) → ℕ
deepest depths = deepest_from 0 depths

-- arguments, locals and the deepest stack
abbrev pub slots_of : Setting → List (Option ℕ) → ℕ
slots_of s depths = fixed_in s + deepest depths

abbrev pub most_work : ℕ
most_work = 2147483648

-- the greatest number of 64 bits stands for each that is greater
abbrev pub capped : ℕ → ℕ
capped n = min n 18446744073709551615

-- slots times instructions times sources
unfoldable pub work_of : List AsmRec → Setting → Option TypeId → List (Option ℕ) → ℕ
work_of recs s owner depths = capped (capped (slots_of s depths * length s.body.code) * length (sources_of recs s owner))

-- ---- the flow

-- the type that has the method of a row
abbrev pub owner_at : List AsmRec → RowAt → Option TypeId
owner_at recs at = option_map (λ (of : RowAt). type_id recs of.asm of.row) (type_of_method recs at)

abbrev pub owner_of : List AsmRec → MethodId → Option TypeId
owner_of recs m = option_map (λ (at : RowAt). type_id recs at.asm at.row) (option_and_then (type_of_method recs) (method_home recs m))

-- a source of the list is carried to a slot at an instruction
pub record CarriesAt (recs : List AsmRec) (s : Setting) (owner : Option TypeId) (depths : List (Option ℕ)) (i slot k : ℕ) : Type 0 where
  pub item : Source
  pub listed : slice_get (sources_of recs s owner) k ≡ Some item
  pub carried : Carried Source (flow_of recs s owner depths) i slot item

-- the same for the instruction at an offset
abbrev pub Carries : List AsmRec → Setting → Option TypeId → List (Option ℕ) → ℕ → ℕ → ℕ → Type 0
Carries recs s owner depths at slot k = CarriesAt recs s owner depths (place_in (offsets s.body.code) at) slot k
