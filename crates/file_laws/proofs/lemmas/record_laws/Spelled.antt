-- The runs of a file's record have a spelling.
use Rattle.std.proofs.Common.{◌≡◌, ℕ, suc, ◌^◌, ◌<◌, Bool, true, false, cond, ltb, List, None, refl, sym, ap₂, subst, ◌∙◌, arith}
use Rattle.std.specs.Prelude.{IsTrue, ◌&&◌}
use Rattle.il_base.specs.declared.table.TheConstants.{FIELD, METHOD_DEF, PARAM, EVENT, PROPERTY}
use Rattle.il_base.specs.blob_grammar.Laws.{AreBytes}
use Rattle.il_base.proofs.lemmas.body_grammar.ReadNumbers.{bytes-drop, bytes-take}
use Rattle.il_base.specs.declared.cli_format.column.Column.TheVariants.{Run}
use Rattle.il_base.specs.declared.cli_format.stream.StreamName.{StreamName}
use Rattle.il_base.specs.declared.cli_format.stream.StreamName.TheVariants.{Tables}
use Rattle.il_base.specs.cli_format.Demand.{number, first_fault}
use Rattle.il_base.specs.cli_format.Image.{metadata_of}
use Rattle.il_base.specs.cli_format.Streams.{heap}
use Rattle.il_base.specs.cli_format.Columns.{schema, columns_of}
use Rattle.il_base.specs.cli_format.Tables.{rows_of, column_of, width, index_width, cell_place, cell_number}
use Rattle.il_base.specs.cli_format.Metadata.{tables_stream}
use Rattle.il_base.specs.declared.world_model.record.AsmRec.{AsmRec}
use Rattle.il_base.specs.world_model.Records.{rows_in}
use Rattle.rules.specs.record_format.Cells.{number_in, count_of, all_rows}
use Rattle.rules.specs.record_format.Types.{type_def_row}
use Rattle.rules.specs.record_format.Members.{method_def_row, event_map_row, property_map_row}
use Rattle.rules.specs.record_format.Record.{record_demands, record_at, HasRecord}
use Rattle.rules.specs.file_layout.Runs.{run_fits, runs_fit, runs_have_spelling}
use Rattle.file_laws.proofs.lemmas.record_laws.Rows.{each_row}
use Rattle.file_laws.proofs.lemmas.record_laws.Record.{size_of}
use Rattle.file_laws.proofs.lemmas.record_laws.Runs.{all_fit, number_below, fits_width}

both : (a b : Bool) → a ≡ true → b ≡ true → (a && b) ≡ true
both true b p q = q
both false b p q = absurd cc

heap_bytes : (m : List ℕ) (name : StreamName) → AreBytes m → AreBytes (heap m name)
unfolding heap
heap_bytes m name h = bytes-take _ _ (bytes-drop _ m h)

metadata_bytes : (bs : List ℕ) → AreBytes bs → AreBytes (metadata_of bs)
unfolding metadata_of
metadata_bytes bs h = bytes-take _ _ (bytes-drop _ bs h)

wide : (b : Bool) → 0 < 256 ^ cond b 2 4
wide true = omega arith
wide false = omega arith

module _ (bs : List ℕ) (meets : first_fault (record_demands bs) ≡ None) (fits : AreBytes bs) where
  abbrev m : List ℕ
  m = metadata_of bs

  abbrev rec : AsmRec
  rec = record_at bs

  stream_bytes : AreBytes (tables_stream m)
  stream_bytes = heap_bytes m Tables (metadata_bytes bs fits)

  -- the number of a run has the width of its index
  run_number : (t c target r : ℕ) → column_of t c ≡ Run target → run_fits (count_of m target) (number_in m t c r) ≡ true
  unfolding number_in cell_number width index_width count_of
  run_number t c target r is =
      let ts : List ℕ = tables_stream m in
      let place : ℕ = cell_place ts t r c in
      let w : ℕ = cond (ltb (rows_of ts target) 0x10000) 2 4 in
      subst (λ q. run_fits (rows_of ts target) (number (width ts q) ts place) ≡ true) (sym is)
      (fits_width (rows_of ts target) (number w ts place) (number_below w ts place stream_bytes (wide (ltb (rows_of ts target) 0x10000))))

  run_spelled : {A : Type 0} (t c target : ℕ) (row : ℕ → A) (first : A → ℕ) → column_of t c ≡ Run target → rows_in rec target ≡ count_of m target → ((r : ℕ) → first (row r) ≡ number_in m t c r)
      → runs_fit (rows_in rec target) first (all_rows m t row) ≡ true
  run_spelled t c target row first is size same =
      all_fit (rows_in rec target) first (all_rows m t row) (each_row (λ x. run_fits (rows_in rec target) (first x) ≡ true) row (count_of m t) (λ k less.
      ap₂ (λ (n f : ℕ). run_fits n f) size (same (suc k)) ∙ run_number t c target (suc k) is))

  spelled : runs_have_spelling rec ≡ true
  unfolding runs_have_spelling columns_of schema column_of record_at type_def_row method_def_row event_map_row property_map_row
  spelled =
      both _ _ (both _ _ (both _ _ (both _ _
      (run_spelled 0x02 4 FIELD (type_def_row m) (λ row. row.field_list_first) refl (size_of bs meets).fields (λ r. refl))
      (run_spelled 0x02 5 METHOD_DEF (type_def_row m) (λ row. row.method_list_first) refl (size_of bs meets).methods (λ r. refl)))
      (run_spelled 0x06 5 PARAM (method_def_row bs m) (λ row. row.param_list_first) refl (size_of bs meets).params (λ r. refl)))
      (run_spelled 0x12 1 EVENT (event_map_row m) (λ row. row.event_list_first) refl (size_of bs meets).events (λ r. refl)))
      (run_spelled 0x15 1 PROPERTY (property_map_row m) (λ row. row.property_list_first) refl (size_of bs meets).properties (λ r. refl))

pub file_spelled : (bs : List ℕ) (r : AsmRec) → AreBytes bs → HasRecord bs r → IsTrue (runs_have_spelling r)
file_spelled bs r fits h = subst (λ x. runs_have_spelling x ≡ true) (sym h.is) (spelled bs h.meets fits)
