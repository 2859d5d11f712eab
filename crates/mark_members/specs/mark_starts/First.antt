-- The items that are marked first.
use Rattle.std.specs.Prelude.{List, ◌∷◌, ◌++◌, map, Option}
use Rattle.il_base.specs.declared.ids.Item.TheVariants as item
use Rattle.il_base.specs.declared.world_model.record.AsmRec.{AsmRec}
use Rattle.rules.specs.declared.link_rules.row_at.RowAt.{RowAt}
use Rattle.rules.specs.link_rules.Cycles.{listed}
use Rattle.rules.specs.type_rules.Slots.{type_of_method}
use Rattle.rules.specs.mark_rules.Facts.{Fact}
use Rattle.rules.specs.mark_rules.Facts.Fact.{marked}
use Rattle.rules.specs.mark_rules.Places.{marks_method}
use Rattle.rules.specs.mark_rules.Roots.{module_facts, entry_facts}

-- a method is marked, where it is in a type's run
abbrev pub method_facts : List AsmRec → RowAt → List Fact
method_facts recs at = map (λ t. marks_method recs at) (listed (type_of_method recs at))

-- the primary assembly, its first type and the entry method
abbrev pub first_facts : List AsmRec → Option RowAt → List Fact
first_facts recs entry = marked (item.Asm (record { 0 = 0 })) ∷ module_facts recs ++ entry_facts recs entry
