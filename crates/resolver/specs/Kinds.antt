-- The kinds of items of a world: how many an assembly has, their ids, the table of their rows.
use Rattle.std.specs.Prelude.{ℕ, length}
use Rattle.il_base.specs.declared.table.TheConstants.{TYPE_DEF, FIELD, METHOD_DEF, INTERFACE_IMPL, EVENT, PROPERTY, ASSEMBLY}
use Rattle.il_base.specs.declared.ids.Item.{Item}
use Rattle.il_base.specs.declared.ids.Item.TheVariants as item
use Rattle.il_base.specs.declared.world_model.record.AsmRec.{AsmRec}
use Rattle.resolver.specs.declared.kind.Kind.{Kind}
use Rattle.resolver.specs.declared.kind.Kind.TheVariants as kind

abbrev pub count_in : Kind → AsmRec → ℕ
count_in kind.Asm rec = 1
count_in kind.Typ rec = length rec.type_def
count_in kind.Method rec = length rec.method_def
count_in kind.Field rec = length rec.field
count_in kind.Prop rec = length rec.property
count_in kind.Event rec = length rec.event
count_in kind.Impl rec = length rec.interface_impl

abbrev pub item_of : Kind → ℕ → Item
item_of kind.Asm n = item.Asm (record { 0 = n })
item_of kind.Typ n = item.Typ (record { 0 = n })
item_of kind.Method n = item.Method (record { 0 = n })
item_of kind.Field n = item.Field (record { 0 = n })
item_of kind.Prop n = item.Prop (record { 0 = n })
item_of kind.Event n = item.Event (record { 0 = n })
item_of kind.Impl n = item.Impl (record { 0 = n })

abbrev pub table_of : Kind → ℕ
table_of kind.Asm = ASSEMBLY
table_of kind.Typ = TYPE_DEF
table_of kind.Method = METHOD_DEF
table_of kind.Field = FIELD
table_of kind.Prop = PROPERTY
table_of kind.Event = EVENT
table_of kind.Impl = INTERFACE_IMPL
