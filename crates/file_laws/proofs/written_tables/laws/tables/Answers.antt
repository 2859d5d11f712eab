use Rattle.file_laws.proofs.lemmas.written_tables.Counts.{sizes_read, rows_read}
use Rattle.file_laws.proofs.lemmas.written_tables.Rows.{width_same, cell_read}
use Rattle.file_laws.proofs.lemmas.written_tables.Demands.{head_holds, rows_hold}
use Rattle.file_laws.proofs.written_tables.laws.tables.Goals as goal

pub returns : goal.returns
returns c = λ sizes tables h. record {
  head = head_holds sizes tables h;
  rows_meet = rows_hold sizes tables h;
  same_sizes = sizes_read sizes tables h;
  rows = rows_read sizes tables h;
  widths = width_same sizes tables h;
  cells = cell_read sizes tables h;
}
