-- The table and the row of a token that is written.
use Rattle.std.proofs.Common.{◌≡◌, ◌<◌, ◌+◌, ◌*◌, ℕ, suc, Bool, false, Some, None, ap, ◌∙◌, arith, eq-eqb}
use Rattle.std.specs.Prelude.{◌==◌, if◌then◌else◌}
use Rattle.il_base.specs.world_model.Tokens.{table_of, row_of, index_from, row_index, index_in}
use Rattle.rules.specs.merge_rules.Refs.{row_token}

module _ (table k : ℕ) (low : table < 256) (few : suc k < 16777216) where
  abbrev written : ℕ
  written = row_token table (Some k)

  token_is : written ≡ table * 16777216 + suc k
  token_is = omega (arith, low, few)

  pub token_table : table_of written ≡ table
  token_table = omega (arith, low, few, token_is)

  token_row : row_of written ≡ suc k
  token_row = omega (arith, low, few, token_is)

  pub token_index : index_in table written ≡ Some k
  token_index = ap (λ (b : Bool). if b then row_index written else None) (eq-eqb (table_of written) table token_table) ∙ ap index_from token_row

  -- it has no row in another table
  pub token_elsewhere : (other : ℕ) (b : Bool) → (table == other) ≡ b → b ≡ false → index_in other written ≡ None
  token_elsewhere other b e f =
      ap (λ (n : ℕ). if n == other then row_index written else None) token_table ∙ ap (λ (c : Bool). if c then row_index written else None) (e ∙ f)
