-- A file that is laid out meets the demands on a record.
use Rattle.std.proofs.Common.{◌≡◌, ℕ, ◌+◌, ◌-◌, ◌≤◌, ◌^◌, true, false, Bool, cond, List, [], ◌∷◌, ◌++◌, map, length, Option, Some, None, refl, sym, subst, eq-eqb}
use Rattle.std.proofs.lemmas.Bool.{and_from}
use Rattle.il_base.specs.declared.ids.BadAt.{BadAt}
use Rattle.il_base.specs.declared.cli_format.error.TablesError.{TablesError}
use Rattle.il_base.specs.declared.cli_format.error.TablesError.TheVariants.{Bad}
use Rattle.il_base.specs.declared.cli_format.stream.StreamName.TheVariants.{Tables, Strings, Blobs, Guids, UserStrings}
use Rattle.il_base.specs.cli_format.Demand.{Demand, first_fault, number}
use Rattle.il_base.specs.cli_format.Streams.{heap}
use Rattle.il_base.specs.cli_format.Image.{image_demands, image_at, image_tail, metadata_of, metadata_place_of}
use Rattle.il_base.specs.cli_format.Metadata.{tables_stream, tables_base, root_demands, streams_demands, head_demands, rows_demands, heap_demands, form_demands, content_demands, tables_demands}
use Rattle.il_base.proofs.lemmas.cli_format.Faults.{none_then, one_holds}
use Rattle.il_base.specs.declared.world_model.record.AsmRec.{AsmRec}
use Rattle.rules.specs.file_layout.Image.{code_rva}
use Rattle.rules.specs.file_layout.Heaps.{strings_heap, blobs_heap, guids_heap, users_heap}
use Rattle.rules.specs.file_layout.TableStream as laid
use Rattle.rules.specs.file_layout.Cells.{CellTables, pools_of, numbers_of}
use Rattle.rules.specs.file_layout.Laid.{sizes_of, streams_with}
use Rattle.rules.specs.record_layout.Tables.{code_of, cells_of}
use Rattle.rules.specs.record_layout.Laid.{users_of, streams_of, parts_of}
use Rattle.rules.specs.record_layout.Laid.{laid as laid_bytes}
use Rattle.rules.specs.record_format.Record.{as_demand, record_demands, HasRecord}
use Rattle.file_laws.specs.written_image.Written.{ReadsBack, StreamsReadBack}
use Rattle.file_laws.specs.written_tables.Written.{TablesReadBack}
use Rattle.file_laws.proofs.lemmas.layout_laws.Within.{Within}
use Rattle.file_laws.proofs.lemmas.layout_laws.Lower.{Lower}
use Rattle.file_laws.proofs.lemmas.layout_laws.Pools.{Fitting, Small, Heaped, heaps_hold}
use Rattle.file_laws.proofs.lemmas.layout_laws.Numbers.{tables_fit}
use Rattle.file_laws.proofs.lemmas.layout_laws.ReadBack.{Reads, reads, tables_read, content_held}
use Rattle.file_laws.proofs.lemmas.layout_laws.TablesFit.{fitting}
use Rattle.file_laws.proofs.lemmas.layout_laws.Sizes.{can_lay, can_stream, code_small, pools_small}
use Rattle.file_laws.proofs.lemmas.layout_laws.BodiesRead.{bodies_read}
use Rattle.file_laws.proofs.lemmas.layout_laws.DataRead.{code_extends, data_read}
use Rattle.file_laws.proofs.lemmas.layout_laws.RecordRead.{FileReads, record_read}

-- ---- demands of two kinds

renamed_by : (b : Bool) (e : BadAt) (first : Option BadAt) (again : Option TablesError) → (first ≡ None → again ≡ None) → cond b first (Some e) ≡ None → cond b again (Some (Bad e)) ≡ None
renamed_by true e first again h f = h f
renamed_by false e first again h f = absurd cc

renamed : (ds : List (Demand BadAt)) → first_fault ds ≡ None → first_fault (map as_demand ds) ≡ None
unfolding first_fault
renamed [] e = refl
renamed (d ∷ ds) e = renamed_by d.holds d.refusal (first_fault ds) (first_fault (map as_demand ds)) (renamed ds) e

-- ---- heaps

heaps_held : (m : List ℕ) (base : ℕ) → (number 1 (heap m Strings) 0 ≡ 0) → (number 1 (heap m Strings) (length (heap m Strings) - 1) ≡ 0) → (number 1 (heap m Blobs) 0 ≡ 0) → (number 1 (heap m UserStrings) 0 ≡ 0)
    → first_fault (heap_demands m base) ≡ None
unfolding heap_demands
heaps_held m base first last blobs users =
    none_then _ _
    (none_then _ _ (one_holds _ _ (and_from _ _ (eq-eqb _ _ first) (eq-eqb _ _ last))) (one_holds _ _ (eq-eqb _ _ blobs)))
    (one_holds _ _ (eq-eqb _ _ users))

-- ---- metadata

form_held : (m : List ℕ) (base : ℕ) → first_fault (root_demands m base) ≡ None → first_fault (streams_demands m base) ≡ None
    → first_fault (head_demands (tables_stream m) (tables_base m base)) ≡ None → first_fault (rows_demands (tables_stream m) (tables_base m base)) ≡ None → first_fault (heap_demands m base) ≡ None
    → first_fault (form_demands m base) ≡ None
unfolding form_demands
form_held m base root streams head rows heaps = none_then _ _ (none_then _ _ (none_then _ _ (none_then _ _ root streams) head) rows) heaps

tables_held : (m : List ℕ) (base : ℕ) → first_fault (form_demands m base) ≡ None → first_fault (content_demands m base) ≡ None → first_fault (tables_demands m base) ≡ None
unfolding tables_demands
tables_held m base form content = none_then _ _ form content

record_held : (bs : List ℕ) → first_fault (image_demands bs) ≡ None → first_fault (tables_demands (metadata_of bs) (metadata_place_of bs)) ≡ None → first_fault (record_demands bs) ≡ None
unfolding record_demands
record_held bs image tables = none_then _ _ (renamed (image_demands bs) image) tables

-- ---- a record's metadata

module _ (lower : Lower) (cells : CellTables) (users : List (List ℕ)) (fit : Fitting cells) (small : Small (pools_of cells)) (m : List ℕ) (back : StreamsReadBack (streams_with (pools_of cells) cells users) m) where
  strings_are : heap m Strings ≡ strings_heap (pools_of cells).texts
  unfolding streams_with
  strings_are = back.strings

  blobs_are : heap m Blobs ≡ blobs_heap (pools_of cells).blobs
  unfolding streams_with
  blobs_are = back.blobs

  guids_are : heap m Guids ≡ guids_heap (pools_of cells).guids
  unfolding streams_with
  guids_are = back.guids

  pub users_are : heap m UserStrings ≡ users_heap users
  unfolding streams_with
  users_are = back.users

  tables_are : heap m Tables ≡ laid.tables_stream (sizes_of (pools_of cells)) (numbers_of (pools_of cells) cells)
  unfolding streams_with
  tables_are = back.tables

  heaps : Heaped (pools_of cells)
  heaps = heaps_hold lower cells fit small

  tables_back : TablesReadBack (sizes_of (pools_of cells)) (numbers_of (pools_of cells) cells) (tables_stream m)
  tables_back = tables_read m cells tables_are (lower.tables (sizes_of (pools_of cells)) (numbers_of (pools_of cells) cells) (tables_fit cells fit heaps lower.once))

  pub metadata_reads : Reads m cells
  metadata_reads = reads m cells tables_back strings_are blobs_are guids_are lower.once heaps

  pub metadata_held : (base : ℕ) → first_fault (tables_demands m base) ≡ None
  metadata_held base =
      let strings = lower.strings (pools_of cells).texts in
      let blobs = lower.blobs (pools_of cells).blobs in
      let texts = lower.users users in
      tables_held m base
      (form_held m base (back.root base) (back.streams base) (tables_back.head (tables_base m base)) (tables_back.rows_meet (tables_base m base))
      (heaps_held m base (rw strings_are strings.first) (rw strings_are strings.last) (rw blobs_are blobs.first) (rw users_are texts.first)))
      (content_held m cells metadata_reads fit base)

-- ---- the file

users_small : (rec : AsmRec) → length (streams_of rec).users ≤ 2 ^ 24 → length (users_heap (users_of rec)) ≤ 2 ^ 24
unfolding streams_of streams_with
users_small rec small = small

module _ (lower : Lower) (rec : AsmRec) (h : Within rec) where
  image_back : ReadsBack (parts_of rec) (laid_bytes rec)
  unfolding laid_bytes
  image_back = lower.images (parts_of rec) (can_lay rec h)

  streams_back_there : StreamsReadBack (streams_of rec) (parts_of rec).metadata
  unfolding parts_of
  streams_back_there = lower.metadata (streams_of rec) (can_stream rec h)

  streams_back_here : StreamsReadBack (streams_of rec) (metadata_of (laid_bytes rec))
  streams_back_here = subst (λ (m : List ℕ). StreamsReadBack (streams_of rec) m) (sym image_back.metadata) streams_back_there

  streams_back : StreamsReadBack (streams_with (pools_of (cells_of rec)) (cells_of rec) (users_of rec)) (metadata_of (laid_bytes rec))
  unfolding streams_of
  streams_back = streams_back_here

  bytes_back : (before here after : List ℕ) → code_of rec ≡ before ++ here ++ after → image_at (laid_bytes rec) (code_rva + length before) (length here) ≡ Some here
  unfolding parts_of
  bytes_back = image_back.bytes

  code_back : (before after : List ℕ) → code_of rec ≡ before ++ after → (rest : List ℕ) × (image_tail (laid_bytes rec) (code_rva + length before) ≡ Some (after ++ rest))
  unfolding parts_of
  code_back = image_back.code

  bits_back : FileReads (laid_bytes rec) rec
  unfolding parts_of
  bits_back = record {
    bits = image_back.bits;
    subsystem = image_back.subsystem;
    entry = image_back.entry;
    resources = image_back.resources;
    tables = metadata_reads lower (cells_of rec) (users_of rec) (fitting rec h) (pools_small rec h) (metadata_of (laid_bytes rec)) streams_back;
    users = users_are lower (cells_of rec) (users_of rec) (fitting rec h) (pools_small rec h) (metadata_of (laid_bytes rec)) streams_back;
    bodies = bodies_read lower (laid_bytes rec) rec h (code_extends rec).0 (code_extends rec).1 (code_small rec h) code_back;
    field_data = data_read (laid_bytes rec) rec h (code_small rec h) bytes_back;
  }

  pub reads_back_by : HasRecord (laid_bytes rec) rec
  reads_back_by = record {
    meets = record_held (laid_bytes rec) image_back.demands
        (metadata_held lower (cells_of rec) (users_of rec) (fitting rec h) (pools_small rec h) (metadata_of (laid_bytes rec)) streams_back (metadata_place_of (laid_bytes rec)));
    is = sym (record_read lower (laid_bytes rec) rec h bits_back (users_small rec h.users));
  }
