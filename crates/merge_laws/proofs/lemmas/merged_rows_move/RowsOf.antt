-- The row of a kept type, method or field in the output: like its own where a step looks.
use Rattle.std.proofs.Common.{◌≡◌, ◌<◌, ◌≤◌, ℕ, zero, suc, ◌/◌, ◌%◌, Bool, true, false, List, [], ◌∷◌, length, Option, Some, None, inl, inr, refl, sym, ap, ◌∙◌, arith}
use Rattle.std.specs.Prelude.{slice_get, bit_and, not, nat_eq, ◌||◌, if◌then◌else◌}
use Rattle.std.specs.List.{list_any}
use Rattle.std.specs.Option.{option_and_then}
use Rattle.il_base.specs.declared.ids.Item.{Item}
use Rattle.il_base.specs.declared.type_flags.TheConstants as type_flag
use Rattle.il_base.specs.Flags.{has_flag}
use Rattle.il_base.specs.declared.world_model.types.TypeDefRow.{TypeDefRow}
use Rattle.il_base.specs.declared.world_model.members.FieldRow.{FieldRow}
use Rattle.il_base.specs.declared.world_model.members.MethodDefRow.{MethodDefRow}
use Rattle.il_base.specs.declared.world_model.record.AsmRec.{AsmRec}
use Rattle.il_base.specs.world_model.Worlds.{types_in}
use Rattle.rules.specs.declared.link_rules.row_at.RowAt.{RowAt}
use Rattle.rules.specs.link_rules.Types.{at_row}
use Rattle.rules.specs.link_rules.Members.{methods_in, fields_in, is_interface_row}
use Rattle.rules.specs.link_rules.Cycles.{listed, is_interface_at, is_static_field}
use Rattle.rules.specs.type_rules.Rows.{type_row_at, is_instance_field}
use Rattle.rules.specs.type_rules.Slots.{is_static, is_virtual, is_new_slot, is_public, method_row_at}
use Rattle.rules.specs.merge_rules.Moved.{without, moved_type_row, moved_method_row, moved_field_row}
use Rattle.rules.specs.merge_rules.Refs.{Output}
use Rattle.rules.specs.merge_rules.Restricted.{put_rva}
use Rattle.rules.specs.merged_world_rules.Merge.{Merge, before, after, output, IsMerge}
use Rattle.rules.specs.merged_world_rules.Numbering.{number_at}
use Rattle.merge_laws.proofs.lemmas.merged_places.Ranks.{rank}
use Rattle.merge_laws.proofs.lemmas.merged_places.Rows.{IsThere, place_past}
use Rattle.merge_laws.proofs.lemmas.merged_places.Kept.{keeps}
use Rattle.merge_laws.proofs.lemmas.merged_places.Worlds.{core_of, left_core, after_left, after_core, core_at}
use Rattle.merge_laws.proofs.lemmas.merged_places.CoreTables.{type_same, method_same, field_same}
use Rattle.merge_laws.proofs.lemmas.merged_places.Moving.{Kind, Stays}
use Rattle.merge_laws.proofs.lemmas.merged_places.Situations.{place, situation, Input, Core, Gone, HasNone}
use Rattle.merge_laws.proofs.lemmas.merged_places.Tables.{number_type, number_method, number_field, type_kind, method_kind, field_kind, type_left, method_left, field_left}
use Rattle.merge_laws.proofs.lemmas.merged_rows_move.Flags.{seen_stays, access_stays, flag_16, flag_32, flag_64, flag_256}

-- ---- a row of a table, in both worlds

module _ {R : Type 0} (rows : AsmRec → List R) where
  abbrev pub found : List AsmRec → RowAt → Option R
  found recs at = option_and_then (λ (rec : AsmRec). slice_get (rows rec) at.row) (slice_get recs at.asm)

  found_by : (recs : List AsmRec) (at : RowAt) (rec : AsmRec) → slice_get recs at.asm ≡ Some rec → found recs at ≡ slice_get (rows rec) at.row
  found_by recs at rec e = ap (option_and_then (λ (rec : AsmRec). slice_get (rows rec) at.row)) e

  none_by : (recs : List AsmRec) (at : RowAt) → HasNone (λ rec. length (rows rec)) recs at → (o : Option AsmRec) → slice_get recs at.asm ≡ o → option_and_then (λ (rec : AsmRec). slice_get (rows rec) at.row) o ≡ None
  none_by recs at none None e = refl
  none_by recs at none (Some rec) e = place_past (rows rec) at.row (none rec e)

  found_none : (recs : List AsmRec) (at : RowAt) → HasNone (λ rec. length (rows rec)) recs at → found recs at ≡ None
  found_none recs at none = none_by recs at none (slice_get recs at.asm) refl

module _ {R : Type 0} (m : Merge) (rows : AsmRec → List R) (number_item : ℕ → Item) (kind : Kind m (λ rec. length (rows rec)) number_item)
    (core : (r s : ℕ) → kind.core.to r ≡ Some s → slice_get (rows (left_core m)) s ≡ slice_get (rows (core_of m)) r) (Like : R → R → Type 0) (itself : (r : R) → Like r r)
    (left : (at : RowAt) (rec : AsmRec) (row : R) → IsThere (λ rec. length (rows rec)) (before m) at → suc at.asm < length (before m)
    → m.kept (number_item (number_at (λ rec. length (rows rec)) (before m) at)) ≡ true → slice_get (before m) at.asm ≡ Some rec → slice_get (rows rec) at.row ≡ Some row
    → (r : R) × (slice_get (rows m.left) (rank (keeps (λ rec. length (rows rec)) (before m) number_item m.kept) (number_at (λ rec. length (rows rec)) (before m) at)) ≡ Some r) × Like r row) where
  abbrev count : AsmRec → ℕ
  count rec = length (rows rec)

  abbrev moved : RowAt → RowAt
  moved at = place m count number_item kind at

  abbrev StaysThere : RowAt → Type 0
  StaysThere at = IsThere count (before m) at → Stays m count number_item kind at

  input_row : (at : RowAt) (row : R) → Input m count number_item kind at → found rows (before m) at ≡ Some row → (r : R) × (found rows (after m) (moved at) ≡ Some r) × Like r row
  input_row at row h e =
      let f : slice_get (rows h.there.rec) at.row ≡ Some row = sym (found_by rows (before m) at h.there.rec h.there.here) ∙ e in
      let l = left at h.there.rec row h.there h.earlier h.keeps_it h.there.here f in
      (l.0, ap (found rows (after m)) h.moved ∙ found_by rows (after m) (at_row 0 (rank (keeps count (before m) number_item m.kept) (number_at count (before m) at))) m.left (after_left m) ∙ l.1, l.2)

  input_none : (at : RowAt) → Input m count number_item kind at → found rows (before m) at ≡ None → ⊥
  input_none at h e =
      let past = none_length (rows h.there.rec) at.row (sym (found_by rows (before m) at h.there.rec h.there.here) ∙ e) in
      let lt = h.there.below in
      omega (arith, past, lt)
    where
      none_length : (xs : List R) (k : ℕ) → slice_get xs k ≡ None → length xs ≤ k
      none_length [] k e = omega arith
      none_length (x ∷ xs) zero e = absurd (cc)
      none_length (x ∷ xs) (suc k) e = let le = none_length xs k e in omega (arith, le)

  core_row : (at : RowAt) → Core m count number_item kind at → found rows (after m) (moved at) ≡ found rows (before m) at
  core_row at h =
      ap (found rows (after m)) h.moved ∙ found_by rows (after m) (at_row 1 h.row) (left_core m) (after_core m) ∙ core at.row h.row h.goes
      ∙ sym (found_by rows (before m) at (core_of m) (core_at m at h.last))

  gone_row : (at : RowAt) → Gone m count number_item kind at → found rows (after m) (moved at) ≡ None
  gone_row at h = found_none rows (after m) (moved at) h.none_after

  pub row_moved : (at : RowAt) (row : R) → StaysThere at → found rows (before m) at ≡ Some row → (r : R) × (found rows (after m) (moved at) ≡ Some r) × Like r row
  row_moved at row stays e = elim (situation m count number_item kind at stays) [
    | inl h ↦ input_row at row h e
    | inr other ↦ elim other [
      | inl h ↦ (row, core_row at h ∙ e, itself row)
      | inr h ↦ absurd (gone_none h)
    ]
  ]
    where
      gone_none : Gone m count number_item kind at → ⊥
      gone_none h = let bad : None ≡ Some row = sym (found_none rows (before m) at h.none_before) ∙ e in cc

  pub row_absent : (at : RowAt) → StaysThere at → found rows (before m) at ≡ None → found rows (after m) (moved at) ≡ None
  row_absent at stays e = elim (situation m count number_item kind at stays) [
    | inl h ↦ absurd (input_none at h e)
    | inr other ↦ elim other [ inl h ↦ core_row at h ∙ e | inr h ↦ gone_row at h ]
  ]

  test_by : (at : RowAt) (test : R → Bool) → ((r s : R) → Like r s → test r ≡ test s) → StaysThere at → (o : Option R) → found rows (before m) at ≡ o
      → list_any test (listed (found rows (after m) (moved at))) ≡ list_any test (listed o)
  test_by at test same stays None e = ap (λ (o : Option R). list_any test (listed o)) (row_absent at stays e)
  test_by at test same stays (Some row) e =
      let r = row_moved at row stays e in
      ap (λ (o : Option R). list_any test (listed o)) r.1 ∙ ap (λ (b : Bool). b || false) (same r.0 row r.2)

  -- what a test says of the row
  pub test_moved : (at : RowAt) (test : R → Bool) → ((r s : R) → Like r s → test r ≡ test s) → StaysThere at
      → list_any test (listed (found rows (after m) (moved at))) ≡ list_any test (listed (found rows (before m) at))
  test_moved at test same stays = test_by at test same stays (found rows (before m) at) refl

-- ---- types

pub record LikeType (t s : TypeDefRow) : Type 0 where
  pub interface : is_interface_row t ≡ is_interface_row s
  pub explicit : has_flag t.flags type_flag.EXPLICIT_LAYOUT ≡ has_flag s.flags type_flag.EXPLICIT_LAYOUT
  pub seen : bit_and t.flags 0x1000a0 ≡ bit_and s.flags 0x1000a0

pub type_itself : (t : TypeDefRow) → LikeType t t
type_itself t = record { interface = refl; explicit = refl; seen = refl }

sight_16 : (b : Bool) (flags : ℕ) → (if b then without 7 flags else flags) / 16 % 2 ≡ flags / 16 % 2
sight_16 true flags = flag_16 7 flags refl
sight_16 false flags = refl

sight_32 : (b : Bool) (flags : ℕ) → (if b then without 7 flags else flags) / 32 % 2 ≡ flags / 32 % 2
sight_32 true flags = flag_32 7 flags refl
sight_32 false flags = refl

sight_seen : (b : Bool) (flags : ℕ) → bit_and (if b then without 7 flags else flags) 0x1000a0 ≡ bit_and flags 0x1000a0
sight_seen true flags = seen_stays 7 0x1000a0 flags refl
sight_seen false flags = refl

pub type_like : (internal : Bool) (o : Output) (at : RowAt) (rec : AsmRec) (t : TypeDefRow) → LikeType (moved_type_row internal o at rec t) t
type_like internal o at rec t = record {
  interface = ap (λ (n : ℕ). nat_eq n 1) (sight_32 _ (without 0x40000 t.flags) ∙ flag_32 0x40000 t.flags refl);
  explicit = ap (λ (n : ℕ). nat_eq n 1) (sight_16 _ (without 0x40000 t.flags) ∙ flag_16 0x40000 t.flags refl);
  seen = sight_seen _ (without 0x40000 t.flags) ∙ seen_stays 0x40000 0x1000a0 t.flags refl;
}

-- ---- methods

pub record LikeMethod (r s : MethodDefRow) : Type 0 where
  pub name : r.name ≡ s.name
  pub virtual : is_virtual r ≡ is_virtual s
  pub static : is_static r ≡ is_static s
  pub new_slot : is_new_slot r ≡ is_new_slot s
  pub public : is_public r ≡ is_public s

pub method_itself : (r : MethodDefRow) → LikeMethod r r
method_itself r = record { name = refl; virtual = refl; static = refl; new_slot = refl; public = refl }

pub method_like : (rva : ℕ) (o : Output) (at : RowAt) (rec : AsmRec) (r : MethodDefRow) → LikeMethod (put_rva rva (moved_method_row o at rec r)) r
method_like rva o at rec r = record {
  name = refl;
  virtual = ap (λ (n : ℕ). nat_eq n 1) (flag_64 0x4000 r.flags refl);
  static = ap (λ (n : ℕ). nat_eq n 1) (flag_16 0x4000 r.flags refl);
  new_slot = ap (λ (n : ℕ). nat_eq n 1) (flag_256 0x4000 r.flags refl);
  public = ap (λ (n : ℕ). nat_eq n 6) (access_stays 0x4000 r.flags refl);
}

-- ---- fields

pub record LikeField (f g : FieldRow) : Type 0 where
  pub static : is_static_field f ≡ is_static_field g
  pub seen : bit_and f.flags 0x50 ≡ bit_and g.flags 0x50

pub field_itself : (f : FieldRow) → LikeField f f
field_itself f = record { static = refl; seen = refl }

pub field_like : (o : Output) (at : RowAt) (rec : AsmRec) (f : FieldRow) → LikeField (moved_field_row o at rec f) f
field_like o at rec f = record { static = ap (λ (n : ℕ). nat_eq n 1) (flag_16 0x1000 f.flags refl); seen = seen_stays 0x1000 0x50 f.flags refl }

-- ---- in a merge

module _ (m : Merge) (is : IsMerge m) where
  left_type : (at : RowAt) (rec : AsmRec) (row : TypeDefRow) → IsThere types_in (before m) at → suc at.asm < length (before m) → m.kept (number_type (number_at types_in (before m) at)) ≡ true
      → slice_get (before m) at.asm ≡ Some rec → slice_get rec.type_def at.row ≡ Some row
      → (r : TypeDefRow) × (slice_get m.left.type_def (rank (keeps types_in (before m) number_type m.kept) (number_at types_in (before m) at)) ≡ Some r) × LikeType r row
  left_type at rec row h lt k here e = (moved_type_row m.internal (output m) at rec row, type_left m is at rec row h lt k here e, type_like m.internal (output m) at rec row)

  left_method : (at : RowAt) (rec : AsmRec) (row : MethodDefRow) → IsThere methods_in (before m) at → suc at.asm < length (before m) → m.kept (number_method (number_at methods_in (before m) at)) ≡ true
      → slice_get (before m) at.asm ≡ Some rec → slice_get rec.method_def at.row ≡ Some row
      → (r : MethodDefRow) × (slice_get m.left.method_def (rank (keeps methods_in (before m) number_method m.kept) (number_at methods_in (before m) at)) ≡ Some r) × LikeMethod r row
  left_method at rec row h lt k here e =
      let l = method_left m is at rec row h lt k here e in (put_rva l.0 (moved_method_row (output m) at rec row), l.1, method_like l.0 (output m) at rec row)

  left_field : (at : RowAt) (rec : AsmRec) (row : FieldRow) → IsThere fields_in (before m) at → suc at.asm < length (before m) → m.kept (number_field (number_at fields_in (before m) at)) ≡ true
      → slice_get (before m) at.asm ≡ Some rec → slice_get rec.field at.row ≡ Some row
      → (r : FieldRow) × (slice_get m.left.field (rank (keeps fields_in (before m) number_field m.kept) (number_at fields_in (before m) at)) ≡ Some r) × LikeField r row
  left_field at rec row h lt k here e = (moved_field_row (output m) at rec row, field_left m is at rec row h lt k here e, field_like (output m) at rec row)

  abbrev pub type_place : RowAt → RowAt
  type_place at = place m types_in number_type (type_kind m is) at

  abbrev pub method_place : RowAt → RowAt
  method_place at = place m methods_in number_method (method_kind m is) at

  abbrev pub field_place : RowAt → RowAt
  field_place at = place m fields_in number_field (field_kind m is) at

  abbrev pub TypeStays : RowAt → Type 0
  TypeStays at = IsThere types_in (before m) at → Stays m types_in number_type (type_kind m is) at

  abbrev pub MethodStays : RowAt → Type 0
  MethodStays at = IsThere methods_in (before m) at → Stays m methods_in number_method (method_kind m is) at

  abbrev pub FieldStays : RowAt → Type 0
  FieldStays at = IsThere fields_in (before m) at → Stays m fields_in number_field (field_kind m is) at

  pub type_test : (at : RowAt) (test : TypeDefRow → Bool) → ((t s : TypeDefRow) → LikeType t s → test t ≡ test s) → TypeStays at
      → list_any test (listed (type_row_at (after m) (type_place at))) ≡ list_any test (listed (type_row_at (before m) at))
  type_test at test same stays = test_moved m (λ rec. rec.type_def) number_type (type_kind m is) (type_same m) LikeType type_itself left_type at test same stays

  pub method_row_moved : (at : RowAt) (r : MethodDefRow) → MethodStays at → method_row_at (before m) at ≡ Some r
      → (s : MethodDefRow) × (method_row_at (after m) (method_place at) ≡ Some s) × LikeMethod s r
  method_row_moved at r stays e = row_moved m (λ rec. rec.method_def) number_method (method_kind m is) (method_same m) LikeMethod method_itself left_method at r stays e

  pub method_row_absent : (at : RowAt) → MethodStays at → method_row_at (before m) at ≡ None → method_row_at (after m) (method_place at) ≡ None
  method_row_absent at stays e = row_absent m (λ rec. rec.method_def) number_method (method_kind m is) (method_same m) LikeMethod method_itself left_method at stays e

  pub instance_moved : (at : RowAt) → FieldStays at → is_instance_field (after m) (field_place at) ≡ is_instance_field (before m) at
  instance_moved at stays =
      test_moved m (λ rec. rec.field) number_field (field_kind m is) (field_same m) LikeField field_itself left_field at (λ f. not (is_static_field f)) (λ f g l. ap not l.static) stays

  -- a test of a type's row, by its assembly
  interface_by : (recs : List AsmRec) (at : RowAt) (o : Option AsmRec)
      → list_any (λ (rec : AsmRec). list_any is_interface_row (listed (slice_get rec.type_def at.row))) (listed o) ≡ list_any is_interface_row (listed (option_and_then (λ (rec : AsmRec). slice_get rec.type_def at.row) o))
  interface_by recs at None = refl
  interface_by recs at (Some rec) = or_none (list_any is_interface_row (listed (slice_get rec.type_def at.row)))
    where
      or_none : (b : Bool) → (b || false) ≡ b
      or_none true = refl
      or_none false = refl

  pub interface_moved : (at : RowAt) → TypeStays at → is_interface_at (after m) (type_place at) ≡ is_interface_at (before m) at
  interface_moved at stays =
      interface_by (after m) (type_place at) (slice_get (after m) (type_place at).asm) ∙ type_test at is_interface_row (λ t s l. l.interface) stays
      ∙ sym (interface_by (before m) at (slice_get (before m) at.asm))

  pub explicit_moved : (at : RowAt) → TypeStays at
      → list_any (λ (row : TypeDefRow). has_flag row.flags type_flag.EXPLICIT_LAYOUT) (listed (type_row_at (after m) (type_place at)))
      ≡ list_any (λ (row : TypeDefRow). has_flag row.flags type_flag.EXPLICIT_LAYOUT) (listed (type_row_at (before m) at))
  explicit_moved at stays = type_test at (λ row. has_flag row.flags type_flag.EXPLICIT_LAYOUT) (λ t s l. l.explicit) stays
