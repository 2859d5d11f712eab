-- Where exactly what is marked is kept, and no marked item has a flaw, tokens of types in what is left name rows.
use Rattle.std.specs.Prelude.{◌≡◌, ◌<◌, ◌≤◌, ℕ, suc, List, length, Option, Some, None, slice_get, Bool, true, Contains}
use Rattle.il_base.specs.declared.ids.Item.{Item}
use Rattle.descriptor_file.specs.declared.root.Root.{Root}
use Rattle.il_base.specs.declared.world_model.record.AsmRec.{AsmRec}
use Rattle.il_base.specs.world_model.Records.{Each}
use Rattle.rules.specs.declared.link_rules.row_at.RowAt.{RowAt}
use Rattle.rules.specs.mark_rules.Naming.{type_token_part}
use Rattle.rules.specs.mark_rules.Shown.{parts_of_item}
use Rattle.rules.specs.mark_rules.Marking.{Marks}
use Rattle.rules.specs.mark_rules.BadItems.{IsFirstFlaw}
use Rattle.rules.specs.mark_rules.Places.{row_of}
use Rattle.rules.specs.merge_rules.Numbers.{Kept}
use Rattle.rules.specs.merge_rules.Keys.{TypeKey, type_key}
use Rattle.rules.specs.merge_rules.Order.{met_type}
use Rattle.rules.specs.merge_rules.Moved.{moved_type}
use Rattle.rules.specs.merge_rules.Restricted.{output_of, restricted}
use Rattle.merge_laws.specs.merged_record.Laws.{InputsAreRecords, ReferencesStand, NamesAll, RowsFit}
use Rattle.merge_laws.specs.merged_owners.Laws.{AreMarked, AreKept}

-- a token in a part of a kept item of an input, whose type is met by what is kept
pub record IsMet (recs : List AsmRec) (kept : Kept) (a : ℕ) (rec : AsmRec) (token : ℕ) : Type 0 where
  pub item : Item
  pub at : RowAt
  pub home : row_of recs item ≡ Some at
  pub keeps : kept item ≡ true
  pub asm : at.asm ≡ a
  pub there : slice_get recs a ≡ Some rec
  pub input : suc a < length recs
  pub place : ℕ
  pub offset : ℕ
  pub part : Contains (parts_of_item recs item at) (type_token_part recs a rec place offset token)
  pub met : (k : TypeKey) → type_key recs a rec token ≡ Some k → Contains (output_of recs kept).mets (met_type k)

abbrev pub TypeTokensStand : Type 0
TypeTokensStand =
    (internal : Bool) (recs : List AsmRec) (entry : Option RowAt) (roots : List Root) (kept : Kept) (left : AsmRec) → restricted internal recs kept ≡ Some left → AreMarked recs entry roots kept → AreKept recs entry roots kept
    → IsFirstFlaw recs entry (Marks recs entry roots) None → ReferencesStand (output_of recs kept) left → RowsFit left
    → (a : ℕ) (rec : AsmRec) (token : ℕ) → IsMet recs kept a rec token → 1 ≤ moved_type (output_of recs kept) a rec token

-- a property holds of the record that is left of records, where exactly the marked items are kept
abbrev pub OfMarked : (AsmRec → Type 0) → Type 0
OfMarked P =
    (internal : Bool) (recs : List AsmRec) (entry : Option RowAt) (roots : List Root) (kept : Kept) (left : AsmRec) → restricted internal recs kept ≡ Some left → InputsAreRecords recs → AreMarked recs entry roots kept
    → AreKept recs entry roots kept → IsFirstFlaw recs entry (Marks recs entry roots) None → ReferencesStand (output_of recs kept) left → RowsFit left → P left

-- three of the columns that `NamesAll` of merge_laws/specs/merged_record/Laws has
abbrev pub InterfacesNamed : Type 0
InterfacesNamed = OfMarked (λ left. Each (λ row. 1 ≤ row.interface) left.interface_impl)

abbrev pub EventsNamed : Type 0
EventsNamed = OfMarked (λ left. Each (λ row. 1 ≤ row.event_type) left.event)

abbrev pub ConstraintsNamed : Type 0
ConstraintsNamed = OfMarked (λ left. Each (λ row. 1 ≤ row.constraint) left.generic_param_constraint)

-- columns that name members: bodies of MethodImpl rows name some in every merge
abbrev pub BodiesNamed : Type 0
BodiesNamed =
    (internal : Bool) (recs : List AsmRec) (kept : Kept) (left : AsmRec) → restricted internal recs kept ≡ Some left → InputsAreRecords recs → ReferencesStand (output_of recs kept) left → RowsFit left
    → Each (λ row. 1 ≤ row.body) left.method_impl

abbrev pub DeclarationsNamed : Type 0
DeclarationsNamed = OfMarked (λ left. Each (λ row. 1 ≤ row.declaration) left.method_impl)

abbrev pub MethodsNamed : Type 0
MethodsNamed = OfMarked (λ left. Each (λ row. 1 ≤ row.method) left.method_spec)

abbrev pub ConstructorsNamed : Type 0
ConstructorsNamed = OfMarked (λ left. Each (λ row. 1 ≤ row.ctor) left.custom_attribute)

-- so all columns name rows where those of the parents of MemberRef rows do
abbrev pub NamesFollow : Type 0
NamesFollow = OfMarked (λ left. Each (λ row. 1 ≤ row.class) left.member_ref → NamesAll left)
