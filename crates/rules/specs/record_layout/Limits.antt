-- The limits on a file that is written, in the order in which they are checked.
use Rattle.std.specs.Prelude.{ℕ, Bool, true, false, nat_lt, length, find, Option, Some, None, if◌then◌else◌}
use Rattle.il_base.specs.declared.limit.TheConstants.{ROWS, OUTPUT_LENGTH}
use Rattle.il_base.specs.cli_format.Metadata.{most_rows}
use Rattle.il_base.specs.declared.world_model.record.AsmRec.{AsmRec}
use Rattle.il_base.specs.world_model.Records.{table_sizes}
use Rattle.rules.specs.file_layout.Runs.{runs_have_spelling, unspelled_rows}
use Rattle.rules.specs.record_layout.Laid.{streams_of, laid_length}

-- the most bytes of `#US`, since a token of a text has 24 bits for its place (III.4.16), and of a file
abbrev pub most_users : ℕ
most_users = 16777216

abbrev pub most_bytes : ℕ
most_bytes = 268435456

abbrev pub users_length : AsmRec → ℕ
users_length rec = length (streams_of rec).users

-- the number of rows of the first table that has too many
unfoldable pub long_table : AsmRec → Option ℕ
long_table rec = find (nat_lt most_rows) (table_sizes rec)

abbrev pub limit_by : Option ℕ → Bool → ℕ → ℕ → Option (ℕ × ℕ)
limit_by (Some rows) spelled users bytes = Some (ROWS, rows)
limit_by None false users bytes = Some (ROWS, unspelled_rows)
limit_by None true users bytes =
    if nat_lt most_users users then Some (OUTPUT_LENGTH, users)
    else if nat_lt most_bytes bytes then Some (OUTPUT_LENGTH, bytes)
    else None

-- The first limit that the file of a record passes, with what was found: a table has too many rows, a run begins after the last of
-- exactly 65535 rows (II.24.2.6), `#US` or the file is too long.
unfoldable pub limit_of : AsmRec → Option (ℕ × ℕ)
limit_of rec = limit_by (long_table rec) (runs_have_spelling rec) (users_length rec) (laid_length rec)
