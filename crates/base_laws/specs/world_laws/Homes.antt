-- What the homes of a world tell: after the items of the kinds before it, each kind lists its items by their numbers, with the
-- assembly from 0 and the token of the row.
use Rattle.std.specs.Prelude.{◌≡◌, ℕ, suc, ◌+◌, List, length, Some, slice_get}
use Rattle.il_base.specs.declared.ids.Item.{Item}
use Rattle.il_base.specs.declared.ids.Item.TheVariants as item
use Rattle.il_base.specs.declared.table.TheConstants.{TYPE_DEF, FIELD, METHOD_DEF, INTERFACE_IMPL, EVENT, PROPERTY, ASSEMBLY}
use Rattle.il_base.specs.declared.world_model.record.AsmRec.{AsmRec}
use Rattle.il_base.specs.declared.world_model.world.Home.{Home}
use Rattle.il_base.specs.declared.world_model.world.World.{World}
use Rattle.il_base.specs.world_model.Tokens.{token_of}
use Rattle.il_base.specs.world_model.Worlds.{rows_before, types_in}
use Rattle.rules.specs.declared.link_rules.row_at.RowAt.{RowAt}
use Rattle.rules.specs.link_rules.Members.{home_from, methods_in, fields_in}
use Rattle.rules.specs.mark_rules.Places.{props_in, events_in, impls_in, row_of}

-- ---- where a kind begins

-- how many rows of a kind all assemblies have
abbrev pub rows_of : (AsmRec → ℕ) → List AsmRec → ℕ
rows_of count recs = rows_before count recs (length recs)

-- the items before a kind's first: those of the kinds before it, in the order assemblies, types, methods, fields, properties,
-- events, interface rows
abbrev pub before_types : List AsmRec → ℕ
before_types recs = length recs

abbrev pub before_methods : List AsmRec → ℕ
before_methods recs = before_types recs + rows_of types_in recs

abbrev pub before_fields : List AsmRec → ℕ
before_fields recs = before_methods recs + rows_of methods_in recs

abbrev pub before_props : List AsmRec → ℕ
before_props recs = before_fields recs + rows_of fields_in recs

abbrev pub before_events : List AsmRec → ℕ
before_events recs = before_props recs + rows_of props_in recs

abbrev pub before_impls : List AsmRec → ℕ
before_impls recs = before_events recs + rows_of events_in recs

abbrev pub item_count : List AsmRec → ℕ
item_count recs = before_impls recs + rows_of impls_in recs

-- ---- by kinds

abbrev pub home_at : Item → ℕ → RowAt → Home
home_at i table at = record { item = i; asm = record { 0 = at.asm }; token = token_of table (suc at.row) }

-- the items of one kind, of which the first has this place
abbrev pub TellsKind : List AsmRec → List Home → ℕ → (AsmRec → ℕ) → (ℕ → Item) → ℕ → Type 0
TellsKind recs homes start count item table =
    (n : ℕ) (at : RowAt) → home_from count 0 recs n ≡ Some at → slice_get homes (start + n) ≡ Some (home_at (item n) table at)

-- Each item has its place, and there are no others.
pub record TellsHomes (w : World) : Type 0 where
  pub assemblies : TellsKind w.recs w.homes 0 (λ rec. 1) (λ n. item.Asm (record { 0 = n })) ASSEMBLY
  pub types : TellsKind w.recs w.homes (before_types w.recs) types_in (λ n. item.Typ (record { 0 = n })) TYPE_DEF
  pub methods : TellsKind w.recs w.homes (before_methods w.recs) methods_in (λ n. item.Method (record { 0 = n })) METHOD_DEF
  pub fields : TellsKind w.recs w.homes (before_fields w.recs) fields_in (λ n. item.Field (record { 0 = n })) FIELD
  pub properties : TellsKind w.recs w.homes (before_props w.recs) props_in (λ n. item.Prop (record { 0 = n })) PROPERTY
  pub events : TellsKind w.recs w.homes (before_events w.recs) events_in (λ n. item.Event (record { 0 = n })) EVENT
  pub interfaces : TellsKind w.recs w.homes (before_impls w.recs) impls_in (λ n. item.Impl (record { 0 = n })) INTERFACE_IMPL
  pub count : length w.homes ≡ item_count w.recs

-- ---- by items

-- the place of an item among all
unfoldable pub place_of : List AsmRec → Item → ℕ
place_of recs (item.Asm a) = a.0
place_of recs (item.Typ t) = before_types recs + t.0
place_of recs (item.Method m) = before_methods recs + m.0
place_of recs (item.Field f) = before_fields recs + f.0
place_of recs (item.Prop p) = before_props recs + p.0
place_of recs (item.Event e) = before_events recs + e.0
place_of recs (item.Impl i) = before_impls recs + i.0

-- the table of an item's row (II.22)
unfoldable pub table_for : Item → ℕ
table_for (item.Asm a) = ASSEMBLY
table_for (item.Typ t) = TYPE_DEF
table_for (item.Method m) = METHOD_DEF
table_for (item.Field f) = FIELD
table_for (item.Prop p) = PROPERTY
table_for (item.Event e) = EVENT
table_for (item.Impl i) = INTERFACE_IMPL

-- at the place of an item of a row stands that row, as the rules of marking have it (`row_of`)
abbrev pub TellsItems : World → Type 0
TellsItems w = (i : Item) (at : RowAt) → row_of w.recs i ≡ Some at → slice_get w.homes (place_of w.recs i) ≡ Some (home_at i (table_for i) at)

-- a home of the list is that of its item, at the item's place
pub record IsHome (recs : List AsmRec) (place : ℕ) (h : Home) : Type 0 where
  pub at : RowAt
  pub row : row_of recs h.item ≡ Some at
  pub is : h ≡ home_at h.item (table_for h.item) at
  pub placed : place_of recs h.item ≡ place

abbrev pub ListsItems : World → Type 0
ListsItems w = (place : ℕ) (h : Home) → slice_get w.homes place ≡ Some h → IsHome w.recs place h
