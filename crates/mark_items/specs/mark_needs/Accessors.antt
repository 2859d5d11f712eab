-- What the rows of MethodSemantics have their methods for.
use Rattle.std.specs.Prelude.{ℕ, List, ◌++◌, map}
use Rattle.std.specs.List.{filter}
use Rattle.il_base.specs.declared.table.TheConstants.{EVENT, PROPERTY}
use Rattle.il_base.specs.declared.world_model.members.MethodSemanticsRow.{MethodSemanticsRow}
use Rattle.il_base.specs.declared.world_model.record.AsmRec.{AsmRec}
use Rattle.il_base.specs.world_model.Tokens.{index_in}
use Rattle.rules.specs.link_rules.Types.{at_row}
use Rattle.rules.specs.link_rules.Cycles.{listed}
use Rattle.rules.specs.mark_rules.Facts.{Fact}
use Rattle.rules.specs.mark_rules.Facts.Fact.{marked}
use Rattle.rules.specs.mark_rules.Places.{prop_item, event_item}
use Rattle.rules.specs.mark_rules.Properties.{is_there, property_owner, event_owner}

-- that the property, or the event, that a token names is marked, where a run has it
abbrev pub property_facts : List AsmRec → AsmRec → ℕ → ℕ → List Fact
property_facts recs rec asm association =
    map (λ k. marked (prop_item recs (at_row asm k))) (filter (λ k. is_there (property_owner rec k)) (listed (index_in PROPERTY association)))

abbrev pub event_facts : List AsmRec → AsmRec → ℕ → ℕ → List Fact
event_facts recs rec asm association =
    map (λ k. marked (event_item recs (at_row asm k))) (filter (λ k. is_there (event_owner rec k)) (listed (index_in EVENT association)))

abbrev pub association_facts : List AsmRec → AsmRec → ℕ → MethodSemanticsRow → List Fact
association_facts recs rec asm row = property_facts recs rec asm row.association ++ event_facts recs rec asm row.association
