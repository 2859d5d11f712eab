-- The needs of a marked item by attributes, dependencies and descriptors.
use Rattle.std.specs.Prelude.{List, ◌++◌}
use Rattle.il_base.specs.declared.ids.Item.{Item}
use Rattle.il_base.specs.declared.world_model.record.AsmRec.{AsmRec}
use Rattle.descriptor_file.specs.declared.root.Root.{Root}
use Rattle.rules.specs.mark_rules.Facts.{Fact}
use Rattle.rules.specs.mark_rules.Attributes.{attribute_needs}
use Rattle.rules.specs.mark_rules.Dependencies.{dependency_needs}
use Rattle.rules.specs.mark_rules.Roots.{waiting_facts}

abbrev pub named_needs : List AsmRec → List Root → Item → List Fact
named_needs recs roots i = attribute_needs recs i ++ dependency_needs recs i ++ waiting_facts recs roots i
