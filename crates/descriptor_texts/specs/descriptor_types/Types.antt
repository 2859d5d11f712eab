-- The types of a world by their names.
use Rattle.std.specs.Prelude.{List}
use Rattle.std.specs.List.{AllZip}
use Rattle.il_base.specs.declared.world_model.record.AsmRec.{AsmRec}
use Rattle.descriptor_texts.specs.declared.descriptor_types.types.DescriptorTypes.{DescriptorTypes}
use Rattle.descriptor_texts.specs.descriptor_types.Rows.{AreTypeRows}

abbrev pub AreTypes : List AsmRec → DescriptorTypes → Type 0
AreTypes recs d = AllZip AreTypeRows recs d.rows.items
