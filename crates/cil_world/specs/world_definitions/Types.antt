-- What is asked of type definitions.
use Rattle.std.specs.Prelude.{◌≡◌, ℕ, List, Option, Some, slice_get}
use Rattle.std.specs.Option.{option_map}
use Rattle.il_base.specs.declared.world_model.record.AsmRec.{AsmRec}
use Rattle.rules.specs.declared.link_rules.row_at.RowAt.{RowAt}
use Rattle.il_base.specs.world_model.Worlds.{type_id}
use Rattle.rules.specs.type_rules.Labels.{encloser_at}
use Rattle.rules.specs.type_rules.Initializers.{initializer}
use Rattle.rules.specs.type_rules.Makers.{maker}
use Rattle.rules.specs.type_rules.Dispatch.{method_id}
use Rattle.type_tables.specs.declared.member_search.params.ParamCounts.{ParamCounts}
use Rattle.type_tables.specs.member_search.Params.{AreParamCounts}

-- of the assembly in a place, where there is one
abbrev pub AreParamsAt : List AsmRec → ℕ → ParamCounts → Type 0
AreParamsAt recs a params = (rec : AsmRec) → slice_get recs a ≡ Some rec → AreParamCounts rec params

-- the initializer of a type in a row, by its place in the world
abbrev pub starts_at : List AsmRec → RowAt → Option ℕ
starts_at recs at = option_map (λ (m : RowAt). (method_id recs m).0) (initializer recs at)

-- the constructor by which reflection makes objects of a type in a row, by its place in the world
abbrev pub maker_at : List AsmRec → RowAt → Option ℕ
maker_at recs at = option_map (λ (m : RowAt). (method_id recs m).0) (maker recs at)

-- the type that the type in a row is nested in, by its place in the world
abbrev pub around_at : List AsmRec → RowAt → Option ℕ
around_at recs at = option_map (λ (t : RowAt). (type_id recs t.asm t.row).0) (encloser_at recs at)
