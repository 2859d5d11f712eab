-- The rows of kept types, methods and fields in what is left: each at the place of its new number.
use Rattle.std.proofs.Common.{◌≡◌, ◌<◌, ℕ, suc, List, [], ◌∷◌, length, Some, true, refl, sym, ap, subst, ◌∙◌}
use Rattle.std.specs.Prelude.{slice_get}
use Rattle.il_base.specs.declared.ids.Item.{Item}
use Rattle.il_base.specs.declared.ids.Item.TheVariants as item
use Rattle.il_base.specs.declared.world_model.types.TypeDefRow.{TypeDefRow}
use Rattle.il_base.specs.declared.world_model.members.FieldRow.{FieldRow}
use Rattle.il_base.specs.declared.world_model.members.MethodDefRow.{MethodDefRow}
use Rattle.il_base.specs.declared.world_model.record.AsmRec.{AsmRec}
use Rattle.il_base.specs.world_model.Worlds.{types_in}
use Rattle.il_base.specs.core_table.Record.{core_record}
use Rattle.rules.specs.declared.link_rules.row_at.RowAt.{RowAt}
use Rattle.rules.specs.link_rules.Members.{methods_in, fields_in}
use Rattle.rules.specs.merge_rules.Numbers.{Kept, kept_types, kept_methods, kept_fields}
use Rattle.rules.specs.merge_rules.Moved.{moved_type_row, moved_method_row, moved_field_row}
use Rattle.rules.specs.merge_rules.Restricted.{each_at, put_rva, placed_methods, moved_methods, output_of}
use Rattle.rules.specs.merged_world_rules.Merge.{Merge, before, output, IsMerge}
use Rattle.rules.specs.merged_world_rules.Numbering.{number_at}
use Rattle.rules.specs.merged_world_rules.NewNumbers.{type_core, method_core, field_core}
use Rattle.merge_laws.proofs.lemmas.merged_places.Ranks.{rank}
use Rattle.merge_laws.proofs.lemmas.merged_places.Rows.{IsThere, input_below}
use Rattle.merge_laws.proofs.lemmas.merged_places.Kept.{Every, keeps, those, IsKept, all_kept, new_row_is}
use Rattle.merge_laws.proofs.lemmas.merged_places.Numbers.{new_row_at}
use Rattle.merge_laws.proofs.lemmas.merged_places.Worlds.{each_length, each_get, placed_length, placed_get, core_rec, core_types_counted, before_methods, left_methods, before_fields, left_fields, left_is}
use Rattle.merge_laws.proofs.lemmas.merged_places.CoreRows.{same_fits, same_goes, type_fits}
use Rattle.merge_laws.proofs.lemmas.merged_places.Moving.{Kind}

-- ---- items by numbers

abbrev pub number_type : ℕ → Item
number_type n = item.Typ (record { 0 = n })

abbrev pub number_method : ℕ → Item
number_method n = item.Method (record { 0 = n })

abbrev pub number_field : ℕ → Item
number_field n = item.Field (record { 0 = n })

-- ---- kept rows of any kind

module _ (count : AsmRec → ℕ) (recs : List AsmRec) (number_item : ℕ → Item) (kept : Kept) where
  there_of : (xs : List RowAt) → Every (IsKept count recs number_item kept) xs → Every (IsThere count recs) xs
  there_of [] hs = tt
  there_of (x ∷ xs) hs = (hs.0.0.0, there_of xs hs.1)

  pub those_there : Every (IsThere count recs) (those count recs number_item kept)
  those_there = there_of (those count recs number_item kept) (all_kept count recs number_item kept)

  -- a kept row stands among the kept ones at its rank
  pub those_at : (at : RowAt) → IsThere count recs at → suc at.asm < length recs → kept (number_item (number_at count recs at)) ≡ true
      → slice_get (those count recs number_item kept) (rank (keeps count recs number_item kept) (number_at count recs at)) ≡ Some at
  those_at at is lt k =
      new_row_at (those count recs number_item kept) at (rank (keeps count recs number_item kept) (number_at count recs at))
      (new_row_is count recs number_item kept at is (input_below count recs at is lt) k)

-- ---- the kinds

module _ (m : Merge) (is : IsMerge m) where
  abbrev pub type_rows : List RowAt
  type_rows = those types_in (before m) number_type m.kept

  abbrev pub method_rows : List RowAt
  method_rows = those methods_in (before m) number_method m.kept

  abbrev pub field_rows : List RowAt
  field_rows = those fields_in (before m) number_field m.kept

  pub types_are : kept_types (before m) m.kept ≡ type_rows
  unfolding kept_types
  types_are = refl

  pub methods_are : kept_methods (before m) m.kept ≡ method_rows
  unfolding kept_methods
  methods_are = refl

  pub fields_are : kept_fields (before m) m.kept ≡ field_rows
  unfolding kept_fields
  fields_are = refl

  -- ---- types

  pub type_table : m.left.type_def ≡ each_at (before m) (λ rec. rec.type_def) (moved_type_row m.internal (output m)) type_rows
  unfolding output_of kept_types
  type_table = ap (λ (rec : AsmRec). rec.type_def) (left_is m is).is

  pub types_counted : types_in m.left ≡ length type_rows
  types_counted =
      ap length type_table ∙ each_length (before m) (λ rec. rec.type_def) (moved_type_row m.internal (output m)) type_rows (those_there types_in (before m) number_type m.kept)

  pub type_left : (at : RowAt) (rec : AsmRec) (t : TypeDefRow) → IsThere types_in (before m) at → suc at.asm < length (before m) → m.kept (number_type (number_at types_in (before m) at)) ≡ true
      → slice_get (before m) at.asm ≡ Some rec → slice_get rec.type_def at.row ≡ Some t
      → slice_get m.left.type_def (rank (keeps types_in (before m) number_type m.kept) (number_at types_in (before m) at)) ≡ Some (moved_type_row m.internal (output m) at rec t)
  type_left at rec t h lt k here row =
      let j : ℕ = rank (keeps types_in (before m) number_type m.kept) (number_at types_in (before m) at) in
      ap (λ (ts : List TypeDefRow). slice_get ts j) type_table
      ∙ each_get (before m) (λ rec. rec.type_def) (moved_type_row m.internal (output m)) type_rows j at rec t (those_there types_in (before m) number_type m.kept)
      (those_at types_in (before m) number_type m.kept at h lt k) here row

  -- ---- fields

  pub field_table : m.left.field ≡ each_at (before m) (λ rec. rec.field) (moved_field_row (output m)) field_rows
  unfolding output_of kept_fields
  field_table = ap (λ (rec : AsmRec). rec.field) (left_is m is).is

  pub fields_counted : fields_in m.left ≡ length field_rows
  fields_counted =
      ap length field_table ∙ each_length (before m) (λ rec. rec.field) (moved_field_row (output m)) field_rows (those_there fields_in (before m) number_field m.kept)

  pub field_left : (at : RowAt) (rec : AsmRec) (f : FieldRow) → IsThere fields_in (before m) at → suc at.asm < length (before m) → m.kept (number_field (number_at fields_in (before m) at)) ≡ true
      → slice_get (before m) at.asm ≡ Some rec → slice_get rec.field at.row ≡ Some f
      → slice_get m.left.field (rank (keeps fields_in (before m) number_field m.kept) (number_at fields_in (before m) at)) ≡ Some (moved_field_row (output m) at rec f)
  field_left at rec f h lt k here row =
      let j : ℕ = rank (keeps fields_in (before m) number_field m.kept) (number_at fields_in (before m) at) in
      ap (λ (ts : List FieldRow). slice_get ts j) field_table
      ∙ each_get (before m) (λ rec. rec.field) (moved_field_row (output m)) field_rows j at rec f (those_there fields_in (before m) number_field m.kept)
      (those_at fields_in (before m) number_field m.kept at h lt k) here row

  -- ---- methods

  abbrev moved_rows : List MethodDefRow
  moved_rows = each_at (before m) (λ rec. rec.method_def) (moved_method_row (output m)) method_rows

  moved_are : moved_methods (output m) ≡ moved_rows
  unfolding output_of kept_methods
  moved_are = refl

  pub method_table : m.left.method_def ≡ placed_methods moved_rows
  method_table = ap (λ (rec : AsmRec). rec.method_def) (left_is m is).is ∙ ap placed_methods moved_are

  pub methods_counted : methods_in m.left ≡ length method_rows
  methods_counted =
      ap length method_table ∙ placed_length moved_rows
      ∙ each_length (before m) (λ rec. rec.method_def) (moved_method_row (output m)) method_rows (those_there methods_in (before m) number_method m.kept)

  pub method_left : (at : RowAt) (rec : AsmRec) (r : MethodDefRow) → IsThere methods_in (before m) at → suc at.asm < length (before m) → m.kept (number_method (number_at methods_in (before m) at)) ≡ true
      → slice_get (before m) at.asm ≡ Some rec → slice_get rec.method_def at.row ≡ Some r
      → (rva : ℕ) × (slice_get m.left.method_def (rank (keeps methods_in (before m) number_method m.kept) (number_at methods_in (before m) at)) ≡ Some (put_rva rva (moved_method_row (output m) at rec r)))
  method_left at rec r h lt k here row =
      let j : ℕ = rank (keeps methods_in (before m) number_method m.kept) (number_at methods_in (before m) at) in
      let got = placed_get moved_rows j (moved_method_row (output m) at rec r)
      (each_get (before m) (λ rec. rec.method_def) (moved_method_row (output m)) method_rows j at rec r (those_there methods_in (before m) number_method m.kept)
      (those_at methods_in (before m) number_method m.kept at h lt k) here row) in
      (got.0, ap (λ (ts : List MethodDefRow). slice_get ts j) method_table ∙ got.1)

  -- ---- how each kind goes on

  abbrev pub type_kind : Kind m types_in number_type
  type_kind = record { core = type_core m; counted = types_counted; fits = type_fits m; whole = sym (core_types_counted m) }

  abbrev pub method_kind : Kind m methods_in number_method
  method_kind = record { core = method_core; counted = methods_counted; fits = same_fits (length core_record.method_def); whole = sym (ap length (left_methods m)) }

  abbrev pub field_kind : Kind m fields_in number_field
  field_kind = record { core = field_core; counted = fields_counted; fits = same_fits (length core_record.field); whole = sym (ap length (left_fields m)) }

-- ---- rows of the core library that are there go on

module _ (m : Merge) where
  method_below : (at : RowAt) → IsThere methods_in (before m) at → suc at.asm ≡ length (before m) → at.row < length core_record.method_def
  method_below at h last = subst (λ (n : ℕ). at.row < n) (ap length (before_methods m)) (subst (λ (rec : AsmRec). at.row < methods_in rec) (core_rec m at h.rec h.here last) h.below)

  pub method_goes : (at : RowAt) → IsThere methods_in (before m) at → suc at.asm ≡ length (before m) → method_core.to at.row ≡ Some at.row
  method_goes at h last = same_goes (length core_record.method_def) at.row (method_below at h last)

  field_below : (at : RowAt) → IsThere fields_in (before m) at → suc at.asm ≡ length (before m) → at.row < length core_record.field
  field_below at h last = subst (λ (n : ℕ). at.row < n) (ap length (before_fields m)) (subst (λ (rec : AsmRec). at.row < fields_in rec) (core_rec m at h.rec h.here last) h.below)

  pub field_goes : (at : RowAt) → IsThere fields_in (before m) at → suc at.asm ≡ length (before m) → field_core.to at.row ≡ Some at.row
  field_goes at h last = same_goes (length core_record.field) at.row (field_below at h last)
