-- The tokens that the tables give are those of the output.
use Rattle.std.proofs.Common.{◌≡◌, ℕ, List, [], ◌∷◌, Option, refl, ◌∙◌}
use Rattle.std.specs.Prelude.{◌==◌, ◌||◌, if◌then◌else◌}
use Rattle.std.specs.Option.{option_and_then}
use Rattle.il_base.specs.declared.table.TheConstants as table
use Rattle.il_base.specs.declared.world_model.record.AsmRec.{AsmRec}
use Rattle.il_base.specs.world_model.Tokens.{table_of, index_in}
use Rattle.rules.specs.declared.link_rules.row_at.RowAt.{RowAt}
use Rattle.rules.specs.link_rules.Types.{at_row}
use Rattle.rules.specs.merge_rules.Numbers.{Kept}
use Rattle.rules.specs.merge_rules.Rows.{place_token, output_rows, kept_row_token}
use Rattle.merge_plan.specs.declared.kept_tables.tables.KeptTables.{KeptTables}
use Rattle.merge_plan.specs.kept_tables.Kept.{AreKept, rows_in, token_by}

module _ (recs : List AsmRec) (kept : Kept) (k : KeptTables) (are : AreKept recs kept k) where
  rows_are : (t : ℕ) → rows_in k t ≡ output_rows recs kept t
  rows_are t = λ i.
      if t == table.TYPE_DEF then are.items.types i
      else if t == table.FIELD then are.items.fields i
      else if t == table.METHOD_DEF then are.items.methods i
      else if t == table.PARAM then are.items.params i
      else if t == table.INTERFACE_IMPL then are.interfaces.numbers i
      else if t == table.EVENT then are.items.events i
      else if t == table.PROPERTY then are.items.properties i
      else if t == table.GENERIC_PARAM then are.generic_params.numbers i
      else if t == table.GENERIC_PARAM_CONSTRAINT then are.constraints.numbers i
      else if t == table.ASSEMBLY || t == table.MODULE then at_row 0 0 ∷ []
      else []

  pub token_is : (a token : ℕ) → token_by k a token ≡ kept_row_token recs kept a token
  unfolding kept_row_token
  token_is a token = λ i. option_and_then (λ j. place_token (table_of token) (rows_are (table_of token) i) (at_row a j)) (index_in (table_of token) token)
