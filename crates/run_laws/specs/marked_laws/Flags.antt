-- What is kept where the marked set is kept: the flags of a change (`rules/specs/change_rules/Change`), by which facts are marked.
use Rattle.std.specs.Prelude.{◌≡◌, ◌≤◌, ℕ, suc, List, length, Option, Some, slice_get, nat_le, Bool, true, false, not, ◌==◌, ◌&&◌, ◌||◌, IsTrue}
use Rattle.std.specs.List.{Contains, list_any, range_with_len}
use Rattle.std.specs.Option.{is_some, option_map}
use Rattle.il_base.specs.declared.ids.TypeId.{TypeId}
use Rattle.il_base.specs.declared.ids.MethodId.{MethodId}
use Rattle.il_base.specs.declared.ids.FieldId.{FieldId}
use Rattle.il_base.specs.declared.ids.Item.{Item}
use Rattle.il_base.specs.declared.ids.Item.TheVariants as item
use Rattle.il_base.specs.declared.table.TheConstants.{TYPE_DEF}
use Rattle.il_base.specs.declared.world_model.types.TypeDefRow.{TypeDefRow}
use Rattle.il_base.specs.declared.world_model.types.InterfaceImplRow.{InterfaceImplRow}
use Rattle.il_base.specs.declared.world_model.record.AsmRec.{AsmRec}
use Rattle.il_base.specs.world_model.Tokens.{token_of}
use Rattle.il_base.specs.declared.core_table.types.TheConstants.{TYPES}
use Rattle.rules.specs.declared.link_rules.row_at.RowAt.{RowAt}
use Rattle.rules.specs.link_rules.Types.{at_row}
use Rattle.rules.specs.link_rules.Members.{type_home}
use Rattle.rules.specs.link_rules.Cycles.{listed, same_row, is_static_field}
use Rattle.rules.specs.type_rules.Slots.{type_of_method}
use Rattle.rules.specs.type_rules.Rows.{rec_at, field_row_at, owner_of_field}
use Rattle.rules.specs.step_rules.CoreSearches.{searches}
use Rattle.rules.specs.view_rules.Members.{core_call}
use Rattle.base_laws.specs.walk_laws.Walks.{NestsTypes}
use Rattle.descriptor_file.specs.declared.root.Root.{Root}
use Rattle.rules.specs.mark_rules.Facts.{Fact}
use Rattle.rules.specs.mark_rules.Facts.Fact.{marked, instantiated, shown}
use Rattle.rules.specs.mark_rules.Places.{row_of, is_core, method_item, marks_type, marks_method, marks_field, impl_item}
use Rattle.rules.specs.mark_rules.Naming.{of_parts}
use Rattle.rules.specs.mark_rules.Shown.{parts_of_item}
use Rattle.rules.specs.mark_rules.Marking.{given, one, two, three}
use Rattle.rules.specs.change_rules.Change.{Keep}

-- A type of the core library after those of its table, which is a name that modifiers alone use (II.7.1.1). The output of a trim has
-- it where a modifier of what is kept names it.
abbrev pub is_added_row : List AsmRec → RowAt → Bool
is_added_row recs at = suc at.asm == length recs && nat_le (length TYPES) at.row

abbrev pub is_added : List AsmRec → Fact → Bool
is_added recs (marked (item.Typ t)) = list_any (is_added_row recs) (listed (type_home recs t))
is_added recs _ = false

-- the type that an interface row is of has its flag (II.22.23)
pub record OfClass (recs : List AsmRec) (has : Fact → Bool) (at : RowAt) : Type 0 where
  pub rec : AsmRec
  pub there : slice_get recs at.asm ≡ Some rec
  pub row : InterfaceImplRow
  pub is : slice_get rec.interface_impl at.row ≡ Some row
  pub class : ℕ
  pub named : (row.class == token_of TYPE_DEF (suc class)) ≡ true
  pub marks : IsTrue (has (marks_type recs (at_row at.asm class)))

-- of an interface row; nothing is asked of other items
abbrev pub HasClass : List AsmRec → (Fact → Bool) → Item → RowAt → Type 0
HasClass recs has (item.Impl r) at = OfClass recs has at
HasClass recs has _ at = Unit {0}

-- A flag for each fact, set for those that are given and for what the rules bring of facts whose flags are set. Such a type has its
-- flag where a part of an item with a flag names it: one that only a MethodImpl row of another class names isn't written.
pub record HasMarks (recs : List AsmRec) (entry : Option RowAt) (roots : List Root) (has : Fact → Bool) : Type 0 where
  pub start : (f : Fact) → IsTrue (given recs entry roots f) → is_added recs f ≡ false → IsTrue (has f)
  pub by_one : (a f : Fact) → IsTrue (has a) → Contains (one recs roots a) f → is_added recs f ≡ false → IsTrue (has f)
  pub by_two : (a b f : Fact) → IsTrue (has a) → IsTrue (has b) → Contains (two recs a b) f → is_added recs f ≡ false → IsTrue (has f)
  pub by_three : (a b c f : Fact) → IsTrue (has a) → IsTrue (has b) → IsTrue (has c) → Contains (three recs a b c) f → is_added recs f ≡ false → IsTrue (has f)
  pub by_part : (i : Item) (at : RowAt) (f : Fact) → IsTrue (has (marked i)) → row_of recs i ≡ Some at → HasClass recs has i at → Contains (of_parts (parts_of_item recs i at)) f → IsTrue (has f)
  -- a method's type
  pub by_owner : (at owner : RowAt) → IsTrue (has (marks_method recs at)) → row_of recs (method_item recs at) ≡ Some at → type_of_method recs at ≡ Some owner → IsTrue (has (marks_type recs owner))

abbrev pub type_numbered : ℕ → TypeId
type_numbered n = record { 0 = n }

abbrev pub method_numbered : ℕ → MethodId
method_numbered n = record { 0 = n }

abbrev pub field_numbered : ℕ → FieldId
field_numbered n = record { 0 = n }

abbrev pub is_core_type : List AsmRec → ℕ → Bool
is_core_type recs t = is_core recs (item.Typ (type_numbered t))

-- a type that isn't there: it has no objects, so it counts as made
abbrev pub is_absent : List AsmRec → ℕ → Bool
is_absent recs t = not (is_some (type_home recs (type_numbered t)))

-- ---- types whose initializer an access can begin: those of a marked method, or of a marked static field

abbrev pub is_of_type : RowAt → Option RowAt → Bool
is_of_type t owner = list_any (same_row t) (listed owner)

abbrev pub begun_by_method : List AsmRec → (Fact → Bool) → RowAt → ℕ → Bool
begun_by_method recs has t k = has (marks_method recs (at_row t.asm k)) && is_of_type t (type_of_method recs (at_row t.asm k))

abbrev pub begun_by_field : List AsmRec → (Fact → Bool) → RowAt → AsmRec → ℕ → Bool
begun_by_field recs has t rec k =
    has (marks_field recs (at_row t.asm k)) && list_any is_static_field (listed (field_row_at recs (at_row t.asm k))) && is_of_type t (option_map (at_row t.asm) (owner_of_field rec k))

abbrev pub begun_in : List AsmRec → (Fact → Bool) → RowAt → AsmRec → Bool
begun_in recs has t rec =
    list_any (begun_by_method recs has t) (range_with_len 0 (length rec.method_def)) || list_any (begun_by_field recs has t rec) (range_with_len 0 (length rec.field))

abbrev pub begun_at : List AsmRec → (Fact → Bool) → RowAt → Bool
begun_at recs has t = list_any (begun_in recs has t) (listed (rec_at recs t))

unfoldable pub begins : List AsmRec → (Fact → Bool) → ℕ → Bool
begins recs has t = list_any (begun_at recs has) (listed (type_home recs (type_numbered t)))

-- whether a method is a member of the core library that searches
abbrev pub searches_at : List AsmRec → ℕ → Bool
searches_at recs m = list_any searches (listed (core_call recs m))

-- ---- all flags; types of the core library count as made and shown

unfoldable pub keep_of : List AsmRec → (Fact → Bool) → Keep
keep_of recs has = record {
  typ = λ t. has (marked (item.Typ (type_numbered t)));
  method = λ m. has (marked (item.Method (method_numbered m)));
  field = λ f. has (marked (item.Field (field_numbered f)));
  made = λ t. is_core_type recs t || is_absent recs t || has (instantiated (type_numbered t));
  shown = λ t. has (marked (item.Typ (type_numbered t))) && (is_core_type recs t || has (shown (type_numbered t)));
  begun = λ t. has (marked (item.Typ (type_numbered t))) && begins recs has t;
  called = λ m. not (searches_at recs m);
}

-- interface rows
abbrev pub kept_of : List AsmRec → (Fact → Bool) → RowAt → Bool
kept_of recs has at = has (marked (impl_item recs at))

-- runs of methods end with their table, as those of files do (II.22.37)
abbrev pub RunsEnd : List AsmRec → Type 0
RunsEnd recs = (a k : ℕ) (rec : AsmRec) (t : TypeDefRow) → slice_get recs a ≡ Some rec → slice_get rec.type_def k ≡ Some t → t.method_list_end ≤ suc (length rec.method_def)

-- rows of NestedClass name types that are there, as those of files do (II.22.32)
abbrev pub NestsWithin : List AsmRec → Type 0
NestsWithin recs = (a : ℕ) (rec : AsmRec) → slice_get recs a ≡ Some rec → NestsTypes rec
