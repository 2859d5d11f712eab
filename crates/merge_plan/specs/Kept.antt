-- Kept items by flags, and rows by their kinds.
use Rattle.std.specs.Prelude.{ℕ, ◌+◌, Bool, false, List, [], ◌∷◌, ◌++◌, map, unwrap_or, slice_get}
use Rattle.std.specs.List.{range_with_len}
use Rattle.il_base.specs.declared.bits.Bits.{Bits}
use Rattle.il_base.specs.declared.ids.Item.{Item}
use Rattle.il_base.specs.declared.ids.Item.TheVariants as item
use Rattle.il_base.specs.declared.world_model.record.AsmRec.{AsmRec}
use Rattle.il_base.specs.world_model.Worlds.{rows_before, types_in}
use Rattle.rules.specs.declared.link_rules.row_at.RowAt.{RowAt}
use Rattle.rules.specs.link_rules.Types.{at_row}
use Rattle.rules.specs.link_rules.Members.{methods_in, fields_in}
use Rattle.rules.specs.mark_rules.Places.{props_in, events_in, impls_in}
use Rattle.rules.specs.merge_rules.Numbers.{Kept}
use Rattle.rules.specs.merge_rules.Numbers as numbers
use Rattle.merge_plan.specs.declared.kept.KeptItems.{KeptItems}
use Rattle.merge_plan.specs.declared.kept.Kind.{Kind}
use Rattle.merge_plan.specs.declared.kept.Kind.TheVariants.{Types, Methods, Fields, Properties, Events, Interfaces}

abbrev pub has_flag : Bits → ℕ → Bool
has_flag bits n = unwrap_or (slice_get bits.flags n) false

-- the set of kept items, by flags
abbrev pub kept_by : KeptItems → Kept
kept_by k (item.Asm a) = has_flag k.assemblies a.0
kept_by k (item.Typ t) = has_flag k.types t.0
kept_by k (item.Method m) = has_flag k.methods m.0
kept_by k (item.Field f) = has_flag k.fields f.0
kept_by k (item.Prop p) = has_flag k.properties p.0
kept_by k (item.Event e) = has_flag k.events e.0
kept_by k (item.Impl i) = has_flag k.interfaces i.0

abbrev pub flags_of : KeptItems → Kind → Bits
flags_of k Types = k.types
flags_of k Methods = k.methods
flags_of k Fields = k.fields
flags_of k Properties = k.properties
flags_of k Events = k.events
flags_of k Interfaces = k.interfaces

-- the item of a kind with this id
abbrev pub item_of : Kind → ℕ → Item
item_of Types n = item.Typ (record { 0 = n })
item_of Methods n = item.Method (record { 0 = n })
item_of Fields n = item.Field (record { 0 = n })
item_of Properties n = item.Prop (record { 0 = n })
item_of Events n = item.Event (record { 0 = n })
item_of Interfaces n = item.Impl (record { 0 = n })

-- how many rows of a kind an assembly has
abbrev pub count_in : Kind → AsmRec → ℕ
count_in Types rec = types_in rec
count_in Methods rec = methods_in rec
count_in Fields rec = fields_in rec
count_in Properties rec = props_in rec
count_in Events rec = events_in rec
count_in Interfaces rec = impls_in rec

-- the item of a row
abbrev pub item_at : Kind → List AsmRec → RowAt → Item
item_at kind recs at = item_of kind (rows_before (count_in kind) recs at.asm + at.row)

-- the rows of a kind of all inputs
abbrev pub all_of_kind : Kind → List AsmRec → List RowAt
all_of_kind kind recs = numbers.rows_of_kind (count_in kind) recs

-- the kept rows of a kind: `kept_types`, `kept_methods` and so on
abbrev pub kept_of_kind : Kind → List AsmRec → Kept → List RowAt
kept_of_kind kind recs kept = numbers.kept_rows (count_in kind) (item_at kind recs) recs kept

-- a function applied to assemblies, which are numbered from a
abbrev pub all_from : {B : Type 0} → (ℕ → AsmRec → List B) → ℕ → List AsmRec → List B
all_from f a [] = []
all_from f a (rec ∷ recs) = f a rec ++ all_from f (a + 1) recs

-- the rows of an assembly
abbrev pub rows_of_one : (AsmRec → ℕ) → ℕ → AsmRec → List RowAt
rows_of_one count a rec = map (at_row a) (range_with_len 0 (count rec))
