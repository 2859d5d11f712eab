-- The kinds of items that are rows of a table.
use Rattle.std.specs.Prelude.{ℕ, List, ◌+◌, length}
use Rattle.il_base.specs.declared.ids.Item.{Item}
use Rattle.il_base.specs.declared.ids.Item.TheVariants as item
use Rattle.il_base.specs.declared.world_model.record.AsmRec.{AsmRec}
use Rattle.il_base.specs.world_model.Worlds.{rows_before, types_in}
use Rattle.rules.specs.declared.link_rules.row_at.RowAt.{RowAt}
use Rattle.rules.specs.link_rules.Members.{methods_in, fields_in}
use Rattle.rules.specs.mark_rules.Places.{props_in, events_in, impls_in}
use Rattle.mark_parts.specs.declared.mark_facts.kinds.Kind.{Kind}
use Rattle.mark_parts.specs.declared.mark_facts.kinds.Kind.TheVariants as kind

abbrev pub count_in : Kind → AsmRec → ℕ
count_in kind.Type = types_in
count_in kind.Method = methods_in
count_in kind.Field = fields_in
count_in kind.Property = props_in
count_in kind.Event = events_in
count_in kind.Interface = impls_in

-- the item with a number among those of its kind
abbrev pub item_numbered : Kind → ℕ → Item
item_numbered kind.Type n = item.Typ (record { 0 = n })
item_numbered kind.Method n = item.Method (record { 0 = n })
item_numbered kind.Field n = item.Field (record { 0 = n })
item_numbered kind.Property n = item.Prop (record { 0 = n })
item_numbered kind.Event n = item.Event (record { 0 = n })
item_numbered kind.Interface n = item.Impl (record { 0 = n })

-- the item of a row
abbrev pub item_at : List AsmRec → Kind → RowAt → Item
item_at recs k at = item_numbered k (rows_before (count_in k) recs at.asm + at.row)
