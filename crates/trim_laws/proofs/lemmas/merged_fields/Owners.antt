-- The type that has a kept field is the one that it had: no field is in the runs of two types (II.22.37).
use Rattle.std.proofs.Common.{◌≡◌, ◌<◌, ◌≤◌, ℕ, zero, suc, ◌+◌, ◌-◌, Bool, true, nat_le, nat_lt, List, [], ◌∷◌, length, Option, Some, None, refl, sym, ap, subst, ◌∙◌, arith}
use Rattle.std.specs.Prelude.{slice_get, ◌&&◌}
use Rattle.std.specs.List.{position_from}
use Rattle.std.proofs.lemmas.Bool.{lt-ltb, le-leb, leb-true, ltb-true, and_parts, and_from}
use Rattle.il_base.specs.declared.table.TheConstants.{FIELD}
use Rattle.il_base.specs.declared.world_model.types.TypeDefRow.{TypeDefRow}
use Rattle.il_base.specs.declared.world_model.record.AsmRec.{AsmRec}
use Rattle.il_base.specs.world_model.Records.{IsRecord}
use Rattle.il_base.specs.world_model.Worlds.{rows_before, types_in}
use Rattle.rules.specs.declared.link_rules.row_at.RowAt.{RowAt}
use Rattle.rules.specs.link_rules.Types.{at_row}
use Rattle.rules.specs.link_rules.Members.{fields_in, owns_field}
use Rattle.rules.specs.type_rules.Rows.{owner_of_field}
use Rattle.base_laws.proofs.lemmas.walk_laws.Finds.{finds, found}
use Rattle.base_laws.specs.world_laws.Inputs.{AreRecords}
use Rattle.rules.specs.merge_rules.Numbers.{kept_fields}
use Rattle.rules.specs.merge_rules.Moved.{moved_type_row}
use Rattle.rules.specs.merge_rules.Restricted.{output_of}
use Rattle.run_laws.proofs.lemmas.closed_laws.Runs.{fields_apart}
use Rattle.rules.specs.merged_world_rules.Merge.{Merge, before, after, output, IsMerge}
use Rattle.rules.specs.merged_world_rules.Numbering.{number_at}
use Rattle.merge_laws.proofs.lemmas.merged_places.Ranks.{rank, rank_kept, rank_rises}
use Rattle.merge_laws.proofs.lemmas.merged_places.Rows.{IsThere, place_within}
use Rattle.merge_laws.proofs.lemmas.merged_places.Kept.{keeps, run_is}
use Rattle.merge_laws.proofs.lemmas.merged_places.Worlds.{after_left}
use Rattle.merge_laws.proofs.lemmas.merged_places.Tables.{number_type, number_field, field_kind, type_left}
use Rattle.merge_laws.proofs.lemmas.merged_places.Situations.{Input}
use Rattle.merge_laws.proofs.lemmas.merged_rows_move.Members.{record_of}
use Rattle.trim_laws.proofs.lemmas.merged_fields.Bytes.{field_size}

pub one_record : (left : AsmRec) → IsRecord left → AreRecords (left ∷ [])
one_record left is zero rec e = let same : left ≡ rec = cc in subst IsRecord same is
one_record left is (suc k) rec e = absurd (cc)

-- the type whose run has a field is the first one
owner_is : (rec : AsmRec) (k place : ℕ) (row : TypeDefRow)
    → ((i j : ℕ) (s t : TypeDefRow) → slice_get rec.type_def i ≡ Some s → slice_get rec.type_def j ≡ Some t → owns_field (suc k) s ≡ true → owns_field (suc k) t ≡ true → i ≡ j)
    → slice_get rec.type_def place ≡ Some row → owns_field (suc k) row ≡ true → owner_of_field rec k ≡ Some place
owner_is rec k place row apart here owns =
    let f = finds (owns_field (suc k)) 0 rec.type_def place row here owns in
    let g = found (owns_field (suc k)) 0 rec.type_def f.0 f.1 in
    let same : g.place ≡ place = apart g.place place g.item row g.there here g.passes owns in
    let is = g.is in
    let one : f.0 ≡ place = omega (arith, is, same) in
    f.1 ∙ ap Some one

module _ (m : Merge) (is : IsMerge m) (at : RowAt) (h : Input m fields_in number_field (field_kind m is) at) (place : ℕ) (row : TypeDefRow) (here : slice_get h.there.rec.type_def place ≡ Some row)
    (owns : owns_field (suc at.row) row ≡ true) (kept : m.kept (number_type (number_at types_in (before m) (at_row at.asm place))) ≡ true) where
  abbrev fields : ℕ → Bool
  fields = keeps fields_in (before m) number_field m.kept

  abbrev x : RowAt
  x = at_row at.asm place

  abbrev new : ℕ
  new = rank (keeps fields_in (before m) number_field m.kept) (number_at fields_in (before m) at)

  abbrev start : ℕ
  start = rows_before fields_in (before m) at.asm

  abbrev pub new_owner : ℕ
  new_owner = rank (keeps types_in (before m) number_type m.kept) (number_at types_in (before m) (at_row at.asm place))

  pub type_there : IsThere types_in (before m) (at_row at.asm place)
  type_there = record { rec = h.there.rec; here = h.there.here; below = place_within h.there.rec.type_def place row here }

  pub owner_before : owner_of_field h.there.rec at.row ≡ Some place
  owner_before =
      let apart = fields_apart m.inputs is.records in
      owner_is h.there.rec at.row place row (λ i j s t e f p q. apart.apart at.asm i j (suc at.row) h.there.rec s t h.there.here e f p q) here owns

  -- ---- in the output

  abbrev pub moved : TypeDefRow
  moved = moved_type_row m.internal (output m) (at_row at.asm place) h.there.rec row

  pub owner_there : slice_get m.left.type_def new_owner ≡ Some moved
  owner_there = type_left m is x h.there.rec row type_there h.earlier kept h.there.here here

  record InOrder : Type 0 where
    some : 1 ≤ row.field_list_first
    rises : row.field_list_first ≤ row.field_list_end
    within : row.field_list_end ≤ suc (fields_in h.there.rec)

  in_order : InOrder
  in_order =
      let whole = record_of m is at.asm h.there.rec h.there.here h.earlier in
      let le = whole.runs.fields.within place row here in
      let size = field_size h.there.rec in
      record { some = whole.runs.fields.begins place row here; rises = whole.runs.fields.never_falls place row here; within = omega (arith, le, size) }

  begins : moved.field_list_first ≡ suc (rank fields (start + (row.field_list_first - 1)))
  unfolding output_of kept_fields
  begins =
      let o = in_order in
      let rises = o.rises in
      let within = o.within in
      run_is fields_in (before m) number_field m.kept at.asm row.field_list_first h.there.rec h.there.here h.earlier (omega (arith, rises, within))

  ends : moved.field_list_end ≡ suc (rank fields (start + (row.field_list_end - 1)))
  unfolding output_of kept_fields
  ends =
      let within = in_order.within in
      run_is fields_in (before m) number_field m.kept at.asm row.field_list_end h.there.rec h.there.here h.earlier (omega (arith, within))

  owns_new : owns_field (suc new) moved ≡ true
  owns_new =
      let p = and_parts (nat_le row.field_list_first (suc at.row)) (nat_lt (suc at.row) row.field_list_end) owns in
      let low = leb-true row.field_list_first (suc at.row) p.0 in
      let high = ltb-true (suc at.row) row.field_list_end p.1 in
      let n : ℕ = number_at fields_in (before m) at in
      let up = rank_rises fields (start + (row.field_list_first - 1)) (number_at fields_in (before m) at) (omega (arith, low)) in
      let more = rank_rises fields (suc (number_at fields_in (before m) at)) (start + (row.field_list_end - 1)) (omega (arith, high)) in
      let one = rank_kept fields (number_at fields_in (before m) at) h.keeps_it in
      let first = begins in
      let last = ends in
      and_from (nat_le moved.field_list_first (suc new)) (nat_lt (suc new) moved.field_list_end) (le-leb moved.field_list_first (suc new) (omega (arith, first, up)))
      (lt-ltb (suc new) moved.field_list_end (omega (arith, last, more, one)))

  pub owner_after : IsRecord m.left → owner_of_field m.left new ≡ Some new_owner
  owner_after left =
      let apart = fields_apart (m.left ∷ []) (one_record m.left left) in
      owner_is m.left new new_owner moved (λ i j s t e f p q. apart.apart 0 i j (suc new) m.left s t (after_left m) e f p q) owner_there owns_new
