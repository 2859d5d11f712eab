-- Tokens of rows, and the TypeRef rows of assemblies.
use Rattle.std.specs.Prelude.{◌≡◌, ◌<◌, ℕ, suc, ◌+◌, List, [], ◌∷◌, ◌++◌, length, map, Some}
use Rattle.std.specs.List.{range_with_len}
use Rattle.il_base.specs.declared.world_model.record.AsmRec.{AsmRec}
use Rattle.il_base.specs.world_model.Tokens.{token_of, table_of, index_in}
use Rattle.rules.specs.declared.link_rules.row_at.RowAt.{RowAt}
use Rattle.rules.specs.link_rules.Types.{at_row}

-- the token is that of this row of a table
pub record NamesRow (table row token : ℕ) : Type 0 where
  pub is : token ≡ token_of table (suc row)
  pub fits : suc row < 16777216
  pub table_is : table_of token ≡ table
  pub index_is : index_in table token ≡ Some row

-- the TypeRef rows of an assembly
abbrev pub rows_of_one : ℕ → AsmRec → List RowAt
rows_of_one a rec = map (at_row a) (range_with_len 0 (length rec.type_ref))

-- those of assemblies, of which the first has the number a
abbrev pub rows_from : ℕ → List AsmRec → List RowAt
rows_from a [] = []
rows_from a (rec ∷ recs) = rows_of_one a rec ++ rows_from (a + 1) recs
