-- The methods and the fields of a kept type are the kept ones of those that it had.
use Rattle.std.proofs.Common.{◌≡◌, ◌<◌, ◌≤◌, ℕ, suc, ◌-◌, Bool, true, List, [], ◌++◌, length, map, drop, Option, Some, None, inl, inr, refl, sym, ap, ◌∙◌, arith, length-take, length-drop}
use Rattle.std.specs.Prelude.{slice_get}
use Rattle.std.specs.List.{flat_map, filter}
use Rattle.std.proofs.lemmas.List.{append-nil}
use Rattle.il_base.specs.declared.table.TheConstants.{FIELD, METHOD_DEF}
use Rattle.il_base.specs.declared.world_model.types.TypeDefRow.{TypeDefRow}
use Rattle.il_base.specs.declared.world_model.members.FieldRow.{FieldRow}
use Rattle.il_base.specs.declared.world_model.members.MethodDefRow.{MethodDefRow}
use Rattle.il_base.specs.declared.world_model.record.AsmRec.{AsmRec}
use Rattle.il_base.specs.world_model.Records.{IsRecord, rows_in, table_sizes}
use Rattle.il_base.specs.world_model.Worlds.{types_in}
use Rattle.rules.specs.declared.link_rules.row_at.RowAt.{RowAt}
use Rattle.rules.specs.link_rules.Types.{at_row}
use Rattle.rules.specs.link_rules.Members.{run_of, methods_in, fields_in}
use Rattle.rules.specs.link_rules.Cycles.{listed}
use Rattle.rules.specs.type_rules.Rows.{rec_at, run_places, methods_of_type, fields_of_type}
use Rattle.rules.specs.merge_rules.Rows.{run_at}
use Rattle.rules.specs.merge_rules.Moved.{moved_type_row}
use Rattle.rules.specs.merge_rules.Numbers.{kept_methods, kept_fields}
use Rattle.rules.specs.merge_rules.Restricted.{output_of}
use Rattle.rules.specs.merged_world_rules.Merge.{Merge, before, after, output, IsMerge}
use Rattle.rules.specs.merged_world_rules.Numbering.{number_at}
use Rattle.merge_laws.proofs.lemmas.merged_places.Ranks.{rank}
use Rattle.merge_laws.proofs.lemmas.merged_places.Rows.{IsThere, place_has, place_past}
use Rattle.merge_laws.proofs.lemmas.merged_places.Kept.{keeps}
use Rattle.merge_laws.proofs.lemmas.merged_places.Worlds.{core_of, left_core, after_left, after_core, core_rec, core_at, before_methods, left_methods, before_fields, left_fields, before_input}
use Rattle.merge_laws.proofs.lemmas.merged_places.CoreTables.{type_same}
use Rattle.merge_laws.proofs.lemmas.merged_places.Moving.{Stays, place_core}
use Rattle.merge_laws.proofs.lemmas.merged_places.Situations.{place, place_there, situation, Input, Core, Gone, HasNone}
use Rattle.merge_laws.proofs.lemmas.merged_places.Tables.{number_type, number_method, number_field, method_rows, field_rows, type_kind, method_kind, field_kind, method_goes, field_goes, type_left}
use Rattle.merge_laws.proofs.lemmas.merged_rows_move.Runs.{run_moved, core_stretch}

-- ---- the members of a row

module _ (recs : List AsmRec) (at : RowAt) (rec : AsmRec) (here : slice_get recs at.asm ≡ Some rec) where
  pub methods_at : (t : TypeDefRow) → slice_get rec.type_def at.row ≡ Some t → methods_of_type recs at ≡ map (at_row at.asm) (run_places t.method_list_first t.method_list_end rec.method_def)
  unfolding methods_of_type
  methods_at t e =
      ap (λ (o : Option AsmRec). flat_map (λ (rec : AsmRec). flat_map (λ (t : TypeDefRow). map (at_row at.asm) (run_places t.method_list_first t.method_list_end rec.method_def)) (listed (slice_get rec.type_def at.row))) (listed o)) here
      ∙ append-nil (flat_map (λ (t : TypeDefRow). map (at_row at.asm) (run_places t.method_list_first t.method_list_end rec.method_def)) (listed (slice_get rec.type_def at.row)))
      ∙ ap (λ (o : Option TypeDefRow). flat_map (λ (t : TypeDefRow). map (at_row at.asm) (run_places t.method_list_first t.method_list_end rec.method_def)) (listed o)) e
      ∙ append-nil (map (at_row at.asm) (run_places t.method_list_first t.method_list_end rec.method_def))

  pub fields_at : (t : TypeDefRow) → slice_get rec.type_def at.row ≡ Some t → fields_of_type recs at ≡ map (at_row at.asm) (run_places t.field_list_first t.field_list_end rec.field)
  unfolding fields_of_type
  fields_at t e =
      ap (λ (o : Option AsmRec). flat_map (λ (rec : AsmRec). flat_map (λ (t : TypeDefRow). map (at_row at.asm) (run_places t.field_list_first t.field_list_end rec.field)) (listed (slice_get rec.type_def at.row))) (listed o)) here
      ∙ append-nil (flat_map (λ (t : TypeDefRow). map (at_row at.asm) (run_places t.field_list_first t.field_list_end rec.field)) (listed (slice_get rec.type_def at.row)))
      ∙ ap (λ (o : Option TypeDefRow). flat_map (λ (t : TypeDefRow). map (at_row at.asm) (run_places t.field_list_first t.field_list_end rec.field)) (listed o)) e
      ∙ append-nil (map (at_row at.asm) (run_places t.field_list_first t.field_list_end rec.field))

-- of a row that isn't there
module _ (recs : List AsmRec) (at : RowAt) (none : HasNone types_in recs at) where
  methods_by : (o : Option AsmRec) → slice_get recs at.asm ≡ o
      → flat_map (λ (rec : AsmRec). flat_map (λ (t : TypeDefRow). map (at_row at.asm) (run_places t.method_list_first t.method_list_end rec.method_def)) (listed (slice_get rec.type_def at.row))) (listed o) ≡ []
  methods_by None e = refl
  methods_by (Some rec) e =
      ap (λ (o : Option TypeDefRow). flat_map (λ (t : TypeDefRow). map (at_row at.asm) (run_places t.method_list_first t.method_list_end rec.method_def)) (listed o) ++ []) (place_past rec.type_def at.row (none rec e))

  pub no_methods : methods_of_type recs at ≡ []
  unfolding methods_of_type
  no_methods = methods_by (rec_at recs at) refl

  fields_by : (o : Option AsmRec) → slice_get recs at.asm ≡ o
      → flat_map (λ (rec : AsmRec). flat_map (λ (t : TypeDefRow). map (at_row at.asm) (run_places t.field_list_first t.field_list_end rec.field)) (listed (slice_get rec.type_def at.row))) (listed o) ≡ []
  fields_by None e = refl
  fields_by (Some rec) e =
      ap (λ (o : Option TypeDefRow). flat_map (λ (t : TypeDefRow). map (at_row at.asm) (run_places t.field_list_first t.field_list_end rec.field)) (listed o) ++ []) (place_past rec.type_def at.row (none rec e))

  pub no_fields : fields_of_type recs at ≡ []
  unfolding fields_of_type
  no_fields = fields_by (rec_at recs at) refl

-- ---- a run is within its table

run_within : {R : Type 0} (first end : ℕ) (rows : List R) → length (run_of first end rows) ≤ length rows - (first - 1)
run_within first end rows =
    let rest : length (drop (first - 1) rows) ≡ length rows - (first - 1) = length-drop (first - 1) rows in
    let taken = length-take (end - first) (drop (first - 1) rows) in
    omega (arith, rest, taken)

-- ---- in a merge

module _ (m : Merge) (is : IsMerge m) where
  abbrev type_place : RowAt → RowAt
  type_place at = place m types_in number_type (type_kind m is) at

  abbrev method_place : RowAt → RowAt
  method_place at = place m methods_in number_method (method_kind m is) at

  abbrev field_place : RowAt → RowAt
  field_place at = place m fields_in number_field (field_kind m is) at

  pub record_of : (a : ℕ) (rec : AsmRec) → slice_get (before m) a ≡ Some rec → suc a < length (before m) → IsRecord rec
  record_of a rec e lt = is.records a rec (sym (before_input m a lt) ∙ e)

  pub method_size : (rec : AsmRec) → rows_in rec METHOD_DEF ≡ length rec.method_def
  unfolding table_sizes
  method_size rec = refl

  field_size : (rec : AsmRec) → rows_in rec FIELD ≡ length rec.field
  unfolding table_sizes
  field_size rec = refl

  -- a member of the core library keeps its row
  method_stays : (at : RowAt) → IsThere methods_in (before m) at → suc at.asm ≡ length (before m) → method_place at ≡ at_row 1 at.row
  method_stays at h last =
      place_there m methods_in number_method (method_kind m is) at h ∙ place_core m methods_in number_method (method_kind m is) at at.row h last (method_goes m at h last)

  field_stays : (at : RowAt) → IsThere fields_in (before m) at → suc at.asm ≡ length (before m) → field_place at ≡ at_row 1 at.row
  field_stays at h last =
      place_there m fields_in number_field (field_kind m is) at h ∙ place_core m fields_in number_field (field_kind m is) at at.row h last (field_goes m at h last)

  -- runs of a row of what is left
  method_runs : (at : RowAt) (rec : AsmRec) (t : TypeDefRow) → run_places (moved_type_row m.internal (output m) at rec t).method_list_first (moved_type_row m.internal (output m) at rec t).method_list_end m.left.method_def
      ≡ run_places (run_at (method_rows m is) at.asm t.method_list_first) (run_at (method_rows m is) at.asm t.method_list_end) m.left.method_def
  unfolding output_of kept_methods
  method_runs at rec t = refl

  field_runs : (at : RowAt) (rec : AsmRec) (t : TypeDefRow) → run_places (moved_type_row m.internal (output m) at rec t).field_list_first (moved_type_row m.internal (output m) at rec t).field_list_end m.left.field
      ≡ run_places (run_at (field_rows m is) at.asm t.field_list_first) (run_at (field_rows m is) at.asm t.field_list_end) m.left.field
  unfolding output_of kept_fields
  field_runs at rec t = refl

  module _ (flag : RowAt → Bool) (flagged : (at : RowAt) → IsThere methods_in (before m) at → flag at ≡ m.kept (number_method (number_at methods_in (before m) at)))
      (core_kept : (at : RowAt) → IsThere methods_in (before m) at → suc at.asm ≡ length (before m) → flag at ≡ true) where
    methods_input : (at : RowAt) → Input m types_in number_type (type_kind m is) at → methods_of_type (after m) (type_place at) ≡ map method_place (filter flag (methods_of_type (before m) at))
    methods_input at h =
        let row = place_has h.there.rec.type_def at.row h.there.below in
        let whole = record_of at.asm h.there.rec h.there.here h.earlier in
        let some = whole.runs.methods.begins at.row row.0 row.1 in
        let le = whole.runs.methods.never_falls at.row row.0 row.1 in
        let within = whole.runs.methods.within at.row row.0 row.1 in
        let size = method_size h.there.rec in
        let left = type_left m is at h.there.rec row.0 h.there h.earlier h.keeps_it h.there.here row.1 in
        ap (methods_of_type (after m)) h.moved
        ∙ methods_at (after m) (at_row 0 (rank (keeps types_in (before m) number_type m.kept) (number_at types_in (before m) at))) m.left (after_left m) (moved_type_row m.internal (output m) at h.there.rec row.0) left
        ∙ ap (map (at_row 0)) (method_runs at h.there.rec row.0)
        ∙ run_moved m (λ rec. rec.method_def) number_method (method_kind m is) flag flagged at.asm h.there.rec row.0.method_list_first row.0.method_list_end h.there.here h.earlier some le
        (omega (arith, within, size))
        ∙ ap (λ (xs : List RowAt). map method_place (filter flag xs)) (sym (methods_at (before m) at h.there.rec h.there.here row.0 row.1))

    core_methods : (at : RowAt) → Core m types_in number_type (type_kind m is) at → methods_of_type (after m) (type_place at) ≡ map method_place (filter flag (methods_of_type (before m) at))
    core_methods at h =
        let row = place_has h.there.rec.type_def at.row h.there.below in
        let here = core_at m at h.last in
        let e : slice_get (core_of m).type_def at.row ≡ Some row.0 = ap (λ (rec : AsmRec). slice_get rec.type_def at.row) (sym (core_rec m at h.there.rec h.there.here h.last)) ∙ row.1 in
        let f : slice_get (left_core m).type_def h.row ≡ Some row.0 = type_same m at.row h.row h.goes ∙ e in
        ap (methods_of_type (after m)) h.moved
        ∙ methods_at (after m) (at_row 1 h.row) (left_core m) (after_core m) row.0 f
        ∙ ap (λ (rows : List MethodDefRow). map (at_row 1) (run_places row.0.method_list_first row.0.method_list_end rows)) (left_methods m ∙ sym (before_methods m))
        ∙ sym (core_stretch m (λ rec. rec.method_def) number_method (method_kind m is) flag flagged at.asm (core_of m) here h.last core_kept method_stays (row.0.method_list_first - 1)
        (length (run_of row.0.method_list_first row.0.method_list_end (core_of m).method_def)) (run_within row.0.method_list_first row.0.method_list_end (core_of m).method_def))
        ∙ ap (λ (xs : List RowAt). map method_place (filter flag xs)) (sym (methods_at (before m) at (core_of m) here row.0 e))

    gone_methods : (at : RowAt) → Gone m types_in number_type (type_kind m is) at → methods_of_type (after m) (type_place at) ≡ map method_place (filter flag (methods_of_type (before m) at))
    gone_methods at h =
        no_methods (after m) (type_place at) h.none_after ∙ sym (ap (λ (xs : List RowAt). map method_place (filter flag xs)) (no_methods (before m) at h.none_before))

    pub methods_move : (at : RowAt) → (IsThere types_in (before m) at → Stays m types_in number_type (type_kind m is) at)
        → methods_of_type (after m) (type_place at) ≡ map method_place (filter flag (methods_of_type (before m) at))
    methods_move at stays = elim (situation m types_in number_type (type_kind m is) at stays) [
      | inl h ↦ methods_input at h
      | inr other ↦ elim other [ inl h ↦ core_methods at h | inr h ↦ gone_methods at h ]
    ]

  module _ (flag : RowAt → Bool) (flagged : (at : RowAt) → IsThere fields_in (before m) at → flag at ≡ m.kept (number_field (number_at fields_in (before m) at)))
      (core_kept : (at : RowAt) → IsThere fields_in (before m) at → suc at.asm ≡ length (before m) → flag at ≡ true) where
    fields_input : (at : RowAt) → Input m types_in number_type (type_kind m is) at → fields_of_type (after m) (type_place at) ≡ map field_place (filter flag (fields_of_type (before m) at))
    fields_input at h =
        let row = place_has h.there.rec.type_def at.row h.there.below in
        let whole = record_of at.asm h.there.rec h.there.here h.earlier in
        let some = whole.runs.fields.begins at.row row.0 row.1 in
        let le = whole.runs.fields.never_falls at.row row.0 row.1 in
        let within = whole.runs.fields.within at.row row.0 row.1 in
        let size = field_size h.there.rec in
        let left = type_left m is at h.there.rec row.0 h.there h.earlier h.keeps_it h.there.here row.1 in
        ap (fields_of_type (after m)) h.moved
        ∙ fields_at (after m) (at_row 0 (rank (keeps types_in (before m) number_type m.kept) (number_at types_in (before m) at))) m.left (after_left m) (moved_type_row m.internal (output m) at h.there.rec row.0) left
        ∙ ap (map (at_row 0)) (field_runs at h.there.rec row.0)
        ∙ run_moved m (λ rec. rec.field) number_field (field_kind m is) flag flagged at.asm h.there.rec row.0.field_list_first row.0.field_list_end h.there.here h.earlier some le
        (omega (arith, within, size))
        ∙ ap (λ (xs : List RowAt). map field_place (filter flag xs)) (sym (fields_at (before m) at h.there.rec h.there.here row.0 row.1))

    core_fields : (at : RowAt) → Core m types_in number_type (type_kind m is) at → fields_of_type (after m) (type_place at) ≡ map field_place (filter flag (fields_of_type (before m) at))
    core_fields at h =
        let row = place_has h.there.rec.type_def at.row h.there.below in
        let here = core_at m at h.last in
        let e : slice_get (core_of m).type_def at.row ≡ Some row.0 = ap (λ (rec : AsmRec). slice_get rec.type_def at.row) (sym (core_rec m at h.there.rec h.there.here h.last)) ∙ row.1 in
        let f : slice_get (left_core m).type_def h.row ≡ Some row.0 = type_same m at.row h.row h.goes ∙ e in
        ap (fields_of_type (after m)) h.moved
        ∙ fields_at (after m) (at_row 1 h.row) (left_core m) (after_core m) row.0 f
        ∙ ap (λ (rows : List FieldRow). map (at_row 1) (run_places row.0.field_list_first row.0.field_list_end rows)) (left_fields m ∙ sym (before_fields m))
        ∙ sym (core_stretch m (λ rec. rec.field) number_field (field_kind m is) flag flagged at.asm (core_of m) here h.last core_kept field_stays (row.0.field_list_first - 1)
        (length (run_of row.0.field_list_first row.0.field_list_end (core_of m).field)) (run_within row.0.field_list_first row.0.field_list_end (core_of m).field))
        ∙ ap (λ (xs : List RowAt). map field_place (filter flag xs)) (sym (fields_at (before m) at (core_of m) here row.0 e))

    gone_fields : (at : RowAt) → Gone m types_in number_type (type_kind m is) at → fields_of_type (after m) (type_place at) ≡ map field_place (filter flag (fields_of_type (before m) at))
    gone_fields at h =
        no_fields (after m) (type_place at) h.none_after ∙ sym (ap (λ (xs : List RowAt). map field_place (filter flag xs)) (no_fields (before m) at h.none_before))

    pub fields_move : (at : RowAt) → (IsThere types_in (before m) at → Stays m types_in number_type (type_kind m is) at)
        → fields_of_type (after m) (type_place at) ≡ map field_place (filter flag (fields_of_type (before m) at))
    fields_move at stays = elim (situation m types_in number_type (type_kind m is) at stays) [
      | inl h ↦ fields_input at h
      | inr other ↦ elim other [ inl h ↦ core_fields at h | inr h ↦ gone_fields at h ]
    ]
