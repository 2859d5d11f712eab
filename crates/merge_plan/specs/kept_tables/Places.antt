-- The tokens that rows have among kept rows.
use Rattle.std.specs.Prelude.{ℕ, ◌==◌, List, Option, if◌then◌else◌}
use Rattle.std.specs.Option.{option_and_then}
use Rattle.il_base.specs.declared.table.TheConstants as table
use Rattle.il_base.specs.world_model.Tokens.{table_of, index_in}
use Rattle.rules.specs.declared.link_rules.row_at.RowAt.{RowAt}
use Rattle.rules.specs.link_rules.Types.{at_row}
use Rattle.rules.specs.merge_rules.Rows.{place_token}

-- the new token of a token of this table, among these rows
abbrev pub token_in : ℕ → List RowAt → ℕ → ℕ → Option ℕ
token_in t rows a token = option_and_then (λ k. place_token t rows (at_row a k)) (index_in t token)

abbrev pub owner_in : List RowAt → List RowAt → ℕ → ℕ → Option ℕ
owner_in types methods a token =
    if table_of token == table.TYPE_DEF then token_in table.TYPE_DEF types a token else token_in table.METHOD_DEF methods a token
