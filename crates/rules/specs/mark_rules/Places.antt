-- Items by their rows, and rows by their items. Assemblies and rows are counted from 0; the core library is the last assembly.
use Rattle.std.specs.Prelude.{ℕ, suc, ◌+◌, List, length, Option, Some, None, slice_get, ◌==◌, Bool, true, if◌then◌else◌}
use Rattle.std.specs.List.{list_any}
use Rattle.il_base.specs.declared.ids.Item.{Item}
use Rattle.il_base.specs.declared.ids.Item.TheVariants as item
use Rattle.il_base.specs.declared.world_model.record.AsmRec.{AsmRec}
use Rattle.il_base.specs.world_model.Worlds.{rows_before, type_id}
use Rattle.rules.specs.declared.link_rules.row_at.RowAt.{RowAt}
use Rattle.rules.specs.link_rules.Types.{at_row}
use Rattle.rules.specs.link_rules.Members.{home_from, type_home, methods_in, fields_in}
use Rattle.rules.specs.link_rules.Cycles.{listed}
use Rattle.rules.specs.mark_rules.Facts.{Fact}
use Rattle.rules.specs.mark_rules.Facts.Fact.{marked}

-- ---- counts of rows, a kind each

abbrev pub props_in : AsmRec → ℕ
props_in rec = length rec.property

abbrev pub events_in : AsmRec → ℕ
events_in rec = length rec.event

abbrev pub impls_in : AsmRec → ℕ
impls_in rec = length rec.interface_impl

-- ---- an item of a row

abbrev pub type_item : List AsmRec → RowAt → Item
type_item recs at = item.Typ (type_id recs at.asm at.row)

abbrev pub method_item : List AsmRec → RowAt → Item
method_item recs at = item.Method (record { 0 = rows_before methods_in recs at.asm + at.row })

abbrev pub field_item : List AsmRec → RowAt → Item
field_item recs at = item.Field (record { 0 = rows_before fields_in recs at.asm + at.row })

abbrev pub prop_item : List AsmRec → RowAt → Item
prop_item recs at = item.Prop (record { 0 = rows_before props_in recs at.asm + at.row })

abbrev pub event_item : List AsmRec → RowAt → Item
event_item recs at = item.Event (record { 0 = rows_before events_in recs at.asm + at.row })

abbrev pub impl_item : List AsmRec → RowAt → Item
impl_item recs at = item.Impl (record { 0 = rows_before impls_in recs at.asm + at.row })

-- ---- the row of an item

abbrev pub asm_row : List AsmRec → ℕ → Option RowAt
asm_row recs a = if list_any (λ (rec : AsmRec). true) (listed (slice_get recs a)) then Some (at_row a 0) else None

unfoldable pub row_of : List AsmRec → Item → Option RowAt
row_of recs (item.Asm a) = asm_row recs a.0
row_of recs (item.Typ t) = type_home recs t
row_of recs (item.Method m) = home_from methods_in 0 recs m.0
row_of recs (item.Field f) = home_from fields_in 0 recs f.0
row_of recs (item.Prop p) = home_from props_in 0 recs p.0
row_of recs (item.Event e) = home_from events_in 0 recs e.0
row_of recs (item.Impl i) = home_from impls_in 0 recs i.0

-- whether an item is the core library's: it counts as marked everywhere, and is never written
unfoldable pub is_core : List AsmRec → Item → Bool
is_core recs i = list_any (λ (at : RowAt). suc at.asm == length recs) (listed (row_of recs i))

-- ---- facts of rows

abbrev pub marks_type : List AsmRec → RowAt → Fact
marks_type recs at = marked (type_item recs at)

abbrev pub marks_method : List AsmRec → RowAt → Fact
marks_method recs at = marked (method_item recs at)

abbrev pub marks_field : List AsmRec → RowAt → Fact
marks_field recs at = marked (field_item recs at)
