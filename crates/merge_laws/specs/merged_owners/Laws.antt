-- Where exactly what is marked is kept, members that are kept go with what they belong to (II.22.37, II.22.35, II.22.12).
use Rattle.std.specs.Prelude.{◌≡◌, ◌<◌, ℕ, suc, List, length, Option, Some, slice_get, Bool, true}
use Rattle.std.specs.List.{list_any}
use Rattle.std.specs.Option.{is_some}
use Rattle.il_base.specs.declared.ids.Item.{Item}
use Rattle.descriptor_file.specs.declared.root.Root.{Root}
use Rattle.il_base.specs.declared.world_model.members.PropertyMapRow.{PropertyMapRow}
use Rattle.il_base.specs.declared.world_model.members.EventMapRow.{EventMapRow}
use Rattle.il_base.specs.declared.world_model.record.AsmRec.{AsmRec}
use Rattle.rules.specs.declared.link_rules.row_at.RowAt.{RowAt}
use Rattle.rules.specs.link_rules.Members.{is_in_run, owns_method, owns_field, methods_in, fields_in}
use Rattle.rules.specs.mark_rules.Facts.Fact.{marked}
use Rattle.rules.specs.mark_rules.Places.{row_of, method_item, field_item, prop_item, event_item, props_in, events_in}
use Rattle.rules.specs.mark_rules.Marking.{Marks}
use Rattle.rules.specs.merge_rules.Numbers.{Kept}
use Rattle.merge_laws.specs.merged_record.Laws.{InputsAreRecords, OwnersAreKept}

-- ---- what belongs to something: some run has it

abbrev pub owns_property : ℕ → PropertyMapRow → Bool
owns_property row t = is_in_run t.property_list_first t.property_list_end row

abbrev pub owns_event : ℕ → EventMapRow → Bool
owns_event row t = is_in_run t.event_list_first t.event_list_end row

abbrev pub has_method : AsmRec → ℕ → Bool
has_method rec k = list_any (owns_method (suc k)) rec.type_def

abbrev pub has_field : AsmRec → ℕ → Bool
has_field rec k = list_any (owns_field (suc k)) rec.type_def

abbrev pub has_property : AsmRec → ℕ → Bool
has_property rec k = list_any (owns_property (suc k)) rec.property_map

abbrev pub has_event : AsmRec → ℕ → Bool
has_event rec k = list_any (owns_event (suc k)) rec.event_map

-- each row of an input that is marked belongs to something
abbrev pub Belongs : List AsmRec → Option RowAt → List Root → (AsmRec → ℕ) → (RowAt → Item) → (AsmRec → ℕ → Bool) → Type 0
Belongs recs entry roots count item has =
    (at : RowAt) (rec : AsmRec) → suc at.asm < length recs → slice_get recs at.asm ≡ Some rec → at.row < count rec → Marks recs entry roots (marked (item at)) → has rec at.row ≡ true

pub record MarkedBelong (recs : List AsmRec) (entry : Option RowAt) (roots : List Root) : Type 0 where
  pub methods : Belongs recs entry roots methods_in (method_item recs) has_method
  pub fields : Belongs recs entry roots fields_in (field_item recs) has_field
  pub properties : Belongs recs entry roots props_in (prop_item recs) has_property
  pub events : Belongs recs entry roots events_in (event_item recs) has_event

-- ---- what is kept

-- each kept item is needed from an entry and the elements of descriptors
abbrev pub AreMarked : List AsmRec → Option RowAt → List Root → Kept → Type 0
AreMarked recs entry roots kept = (i : Item) → kept i ≡ true → Marks recs entry roots (marked i)

-- each item of the world that is needed is kept
abbrev pub AreKept : List AsmRec → Option RowAt → List Root → Kept → Type 0
AreKept recs entry roots kept = (i : Item) → is_some (row_of recs i) ≡ true → Marks recs entry roots (marked i) → kept i ≡ true

-- ---- the laws

abbrev pub MembersBelong : Type 0
MembersBelong = (recs : List AsmRec) (entry : Option RowAt) (roots : List Root) → InputsAreRecords recs → MarkedBelong recs entry roots

abbrev pub OwnersStay : Type 0
OwnersStay =
    (recs : List AsmRec) (entry : Option RowAt) (roots : List Root) (kept : Kept) → InputsAreRecords recs → AreMarked recs entry roots kept → AreKept recs entry roots kept → OwnersAreKept recs kept
