-- Tokens of TypeRef rows.
use Rattle.std.specs.Prelude.{◌≡◌, ℕ, Some}
use Rattle.il_base.specs.declared.table.TheConstants.{TYPE_REF}
use Rattle.il_base.specs.world_model.Tokens.{table_of, index_in}

-- the token is that of this TypeRef row
pub record NamesRow (row token : ℕ) : Type 0 where
  pub table_is : table_of token ≡ TYPE_REF
  pub index_is : index_in TYPE_REF token ≡ Some row
