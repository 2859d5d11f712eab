-- Maps of tokens to numbers, filled row by row.
use Rattle.std.specs.Prelude.{◌≡◌, ℕ, List, Bool, if◌then◌else◌}
use Rattle.std.specs.Option.{is_some}
use Rattle.il_base.specs.declared.world_model.record.AsmRec.{AsmRec}
use Rattle.il_base.specs.world_model.Tokens.{index_in}
use Rattle.il_base.specs.world_model.Worlds.{row_below}
use Rattle.rules.specs.merge_rules.Keys.{class_number, modifier_number}
use Rattle.merge_plan.specs.declared.moved_parts.tokens.TokenMap.{TokenMap}
use Rattle.merge_plan.specs.moved_parts.Moves.{new_token}
use Rattle.token_keys.specs.declared.type_numbers.maps.Stand.{Stand}
use Rattle.token_keys.specs.declared.type_numbers.maps.Stand.TheVariants.{Class, Modifier}

-- the number of the type that a token names, by where it stands
abbrev pub number_by : Stand → List AsmRec → ℕ → AsmRec → ℕ → ℕ
number_by Class recs a rec token = class_number recs a rec token
number_by Modifier recs a rec token = modifier_number recs a rec token

-- whether a token is that of one of the first rows of a table
abbrev pub covers : ℕ → ℕ → ℕ → Bool
covers table count token = is_some (row_below count (index_in table token))

-- the tokens of the first rows of a table have their numbers; others have what they had
abbrev pub IsFilled : (ℕ → ℕ) → ℕ → ℕ → TokenMap → TokenMap → Type 0
IsFilled f table count before after = (q : ℕ) → new_token after q ≡ (if covers table count q then f q else new_token before q)

-- every token has its number
abbrev pub IsWhole : (ℕ → ℕ) → TokenMap → Type 0
IsWhole f map = (q : ℕ) → new_token map q ≡ f q
