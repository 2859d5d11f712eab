-- The tables whose rows are counted over all assemblies.
use Rattle.std.specs.Prelude.{ℕ, length}
use Rattle.il_base.specs.declared.world_model.record.AsmRec.{AsmRec}
use Rattle.il_base.specs.world_model.Worlds.{types_in}
use Rattle.rules.specs.link_rules.Members.{methods_in, fields_in}
use Rattle.type_tables.specs.declared.member_search.counted.Counted.{Counted}
use Rattle.type_tables.specs.declared.member_search.counted.Counted.TheVariants.{Types, Methods, Fields, Properties, Events}

abbrev pub count_in : Counted → AsmRec → ℕ
count_in Types rec = types_in rec
count_in Methods rec = methods_in rec
count_in Fields rec = fields_in rec
count_in Properties rec = length rec.property
count_in Events rec = length rec.event
