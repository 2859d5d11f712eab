-- The law of new tokens, by the tables of an output.
use Rattle.std.specs.Prelude.{◌≡◌, ℕ, List}
use Rattle.il_base.specs.declared.world_model.record.AsmRec.{AsmRec}
use Rattle.rules.specs.merge_rules.Numbers.{Kept}
use Rattle.rules.specs.merge_rules.Rows.{kept_row_token}
use Rattle.merge_plan.specs.declared.kept_tables.tables.KeptTables.{KeptTables}
use Rattle.merge_plan.specs.kept_tables.Kept.{AreKept, token_by}

abbrev pub TokensTell : Type 0
TokensTell = (recs : List AsmRec) (kept : Kept) (k : KeptTables) → AreKept recs kept k → (a token : ℕ) → token_by k a token ≡ kept_row_token recs kept a token
