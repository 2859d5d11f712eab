-- The results of the writer's steps.
use Rattle.std.specs.Prelude.{◌≡◌, ℕ, Bool, true, false, Option, Some, None}
use Rattle.il_base.specs.declared.world_model.record.AsmRec.{AsmRec}
use Rattle.rules.specs.file_layout.Metadata.{metadata_bytes}
use Rattle.rules.specs.file_layout.Runs.{runs_have_spelling, unspelled_rows}
use Rattle.rules.specs.record_layout.Tables.{code_of}
use Rattle.rules.specs.record_layout.Laid.{streams_of}
use Rattle.rules.specs.record_layout.Limits.{long_table, limit_of}
use Rattle.record_writer.specs.metadata_writer.Written.{IsPut}
use Rattle.record_writer.specs.declared.error.WriteError.{WriteError}
use Rattle.record_writer.specs.declared.error.WriteError.TheVariants.{Limit, NoMemory}
use Rattle.record_writer.specs.declared.writing.Content.{Content}

-- the code and the metadata of a record
pub record IsContent (c : Content) (rec : AsmRec) : Type 0 where
  pub code : c.code.items ≡ code_of rec
  pub metadata : IsPut c.metadata.items (metadata_bytes (streams_of rec))

-- the number of rows that passes the limit on them
abbrev pub rows_by : Option ℕ → Bool → Option ℕ
rows_by (Some rows) spelled = Some rows
rows_by None true = None
rows_by None false = Some unspelled_rows

abbrev pub rows_over : AsmRec → Option ℕ
rows_over rec = rows_by (long_table rec) (runs_have_spelling rec)

-- the error of a write: the first limit that the record's file passes, unless memory ran out
abbrev pub Refuses : AsmRec → WriteError → Type 0
Refuses rec (Limit which found) = limit_of rec ≡ Some (which, found)
Refuses rec NoMemory = Unit {0}
