-- What a merge leaves of records is a record (II.22): each token names a row that is there, runs follow one another, sorted tables
-- are sorted. Rows are counted from 0 here, tokens and runs count them from 1.
use Rattle.std.specs.Prelude.{◌≡◌, ◌<◌, ◌≤◌, ℕ, suc, List, [], length, Option, Some, None, slice_get, Bool, true, IsTrue, Contains}
use Rattle.std.specs.Option.{is_some}
use Rattle.il_base.specs.declared.ids.TypeId.{TypeId}
use Rattle.il_base.specs.declared.cli_format.column.Column.TheVariants.{CodedOrNone}
use Rattle.il_base.specs.declared.cli_format.column.CodedIndex.TheVariants.{ResolutionScope}
use Rattle.il_base.specs.declared.world_model.types.GenericParamRow.{GenericParamRow}
use Rattle.il_base.specs.declared.world_model.members.PropertyMapRow.{PropertyMapRow}
use Rattle.il_base.specs.declared.world_model.members.EventMapRow.{EventMapRow}
use Rattle.il_base.specs.declared.world_model.types.TypeDefRow.{TypeDefRow}
use Rattle.il_base.specs.declared.world_model.record.AsmRec.{AsmRec}
use Rattle.il_base.specs.world_model.Records.{rows_in, Each, Names, IsRecord}
use Rattle.rules.specs.declared.link_rules.row_at.RowAt.{RowAt}
use Rattle.rules.specs.link_rules.Types.{at_row}
use Rattle.rules.specs.mark_rules.Places.{type_item}
use Rattle.rules.specs.merge_rules.Numbers.{Kept, kept_methods, kept_fields, kept_properties, kept_events}
use Rattle.rules.specs.merge_rules.Refs.{Output, is_reference, scope_type, assemblies_of, own_scope, type_refs, member_refs}
use Rattle.rules.specs.merge_rules.Rows.{class_token}
use Rattle.rules.specs.merge_rules.Restricted.{output_of, restricted}

-- ---- the inputs

-- All assemblies but the core library, which is the last, are records.
abbrev pub InputsAreRecords : List AsmRec → Type 0
InputsAreRecords recs = (a : ℕ) (rec : AsmRec) → suc a < length recs → slice_get recs a ≡ Some rec → IsRecord rec

-- The number of a generic parameter has 16 bits (II.22.20).
abbrev pub NumbersFit : List AsmRec → Type 0
NumbersFit recs = (a : ℕ) (rec : AsmRec) → slice_get recs a ≡ Some rec → Each (λ (row : GenericParamRow). row.number < 65536) rec.generic_param

-- ---- kept members go with what they belong to

-- A row of a table in whose run a member is, and that is kept.
pub record HasOwner {X : Type 0} (recs : List AsmRec) (rows : AsmRec → List X) (first end : X → ℕ) (keeps : ℕ → ℕ → X → Bool) (m : RowAt) : Type 0 where
  pub rec : AsmRec
  pub there : slice_get recs m.asm ≡ Some rec
  pub place : ℕ
  pub row : X
  pub is : slice_get (rows rec) place ≡ Some row
  pub begins : first row ≤ suc m.row
  pub ends : suc m.row < end row
  pub kept : keeps m.asm place row ≡ true

pub record OwnersAreKept (recs : List AsmRec) (kept : Kept) : Type 0 where
  pub fields : (m : RowAt) → Contains (kept_fields recs kept) m
      → HasOwner recs (λ rec. rec.type_def) (λ (t : TypeDefRow). t.field_list_first) (λ (t : TypeDefRow). t.field_list_end) (λ a k t. kept (type_item recs (at_row a k))) m
  pub methods : (m : RowAt) → Contains (kept_methods recs kept) m
      → HasOwner recs (λ rec. rec.type_def) (λ (t : TypeDefRow). t.method_list_first) (λ (t : TypeDefRow). t.method_list_end) (λ a k t. kept (type_item recs (at_row a k))) m
  pub properties : (m : RowAt) → Contains (kept_properties recs kept) m
      → HasOwner recs (λ rec. rec.property_map) (λ (t : PropertyMapRow). t.property_list_first) (λ (t : PropertyMapRow). t.property_list_end) (λ a k t. is_some (class_token recs kept a t.parent)) m
  pub events : (m : RowAt) → Contains (kept_events recs kept) m
      → HasOwner recs (λ rec. rec.event_map) (λ (t : EventMapRow). t.event_list_first) (λ (t : EventMapRow). t.event_list_end) (λ a k t. is_some (class_token recs kept a t.parent)) m

-- ---- references

-- Each type and each member that the output refers to has its row, and the scope of a type's row is a type with such a row, an
-- assembly, or one that may stay.
pub record ReferencesStand (o : Output) (left : AsmRec) : Type 0 where
  pub types : length left.type_ref ≡ length (type_refs o.recs o.mets)
  pub members : length left.member_ref ≡ length (member_refs o.mets)
  pub around : (t u : TypeId) → Contains (type_refs o.recs o.mets) t → scope_type o.recs t ≡ Some u → is_reference o.recs u ≡ true
  pub own : (t : TypeId) → Contains (type_refs o.recs o.mets) t → scope_type o.recs t ≡ None → assemblies_of o.recs t ≡ []
      → Names left (CodedOrNone ResolutionScope) (own_scope o.recs t)

-- No column is 0 where a row has to be named.
pub record NamesAll (left : AsmRec) : Type 0 where
  pub interfaces : Each (λ row. 1 ≤ row.interface) left.interface_impl
  pub parents : Each (λ row. 1 ≤ row.class) left.member_ref
  pub constructors : Each (λ row. 1 ≤ row.ctor) left.custom_attribute
  pub events : Each (λ row. 1 ≤ row.event_type) left.event
  pub bodies : Each (λ row. 1 ≤ row.body) left.method_impl
  pub declarations : Each (λ row. 1 ≤ row.declaration) left.method_impl
  pub methods : Each (λ row. 1 ≤ row.method) left.method_spec
  pub constraints : Each (λ row. 1 ≤ row.constraint) left.generic_param_constraint

-- Rows have numbers in tokens (II.22): 24 bits.
abbrev pub RowsFit : AsmRec → Type 0
RowsFit left = (t : ℕ) → rows_in left t < 16777216

-- ---- the law

abbrev pub RestrictedIsRecord : Type 0
RestrictedIsRecord =
    (internal : Bool) (recs : List AsmRec) (kept : Kept) (left : AsmRec) → restricted internal recs kept ≡ Some left → InputsAreRecords recs → NumbersFit recs → OwnersAreKept recs kept
    → ReferencesStand (output_of recs kept) left → NamesAll left → RowsFit left → IsRecord left
