-- The facts that are known, and the rules for a type and a slot.
use Rattle.std.specs.Prelude.{◌≡◌, ℕ, List, [], ◌∷◌, ◌++◌, Bool}
use Rattle.std.specs.List.{list_any, flat_map}
use Rattle.il_base.specs.declared.ids.Item.{Item}
use Rattle.il_base.specs.declared.world_model.expr.TypeExpr.{TypeExpr}
use Rattle.il_base.specs.declared.world_model.types.InterfaceImplRow.{InterfaceImplRow}
use Rattle.il_base.specs.declared.world_model.record.AsmRec.{AsmRec}
use Rattle.rules.specs.declared.link_rules.row_at.RowAt.{RowAt}
use Rattle.rules.specs.link_rules.Types.{at_row}
use Rattle.rules.specs.link_rules.Signatures.{token_type}
use Rattle.rules.specs.link_rules.Members.{good_type}
use Rattle.rules.specs.link_rules.Cycles.{listed, home_of}
use Rattle.closure.specs.Facts.{facts_in}
use Rattle.rules.specs.mark_rules.Facts.{Fact}
use Rattle.rules.specs.mark_rules.Facts.Fact.{marked}
use Rattle.rules.specs.mark_rules.Calls.{class_runs, class_fills, interface_runs, interface_fills}
use Rattle.mark_numbers.specs.Numbers.{number_there}
use Rattle.mark_numbers.specs.Starts.{AreNumbers}
use Rattle.mark_parts.specs.mark_tables.Assemblies.{all_of, IsMarker}
use Rattle.virtual_calls.specs.Slots.{AreSlots}
use Rattle.base_laws.specs.known_laws.Known.{slot_gives, own_slots, row_gives, own_rows, named_known, with_slots, with_rows}
use Rattle.marking.specs.declared.mark_known.known.Known.{Known}
use Rattle.marking.specs.declared.mark_known.slots.Rule.{Rule}
use Rattle.marking.specs.declared.mark_known.slots.Rule.TheVariants as rule

-- ---- known facts

-- an item is there, and the number of its fact is in a set
abbrev pub known_in : List AsmRec → (ℕ → Bool) → Item → Bool
known_in recs have i = list_any have (listed (number_there recs (marked i)))

abbrev pub recs_in : Known → List AsmRec
recs_in k = all_of k.marker.now

abbrev pub knows : Known → Item → Bool
knows k = known_in (recs_in k) (facts_in k.have.now)

pub record IsKnown (k : Known) : Type 0 where
  pub marker : IsMarker k.marker.now
  pub slots : AreSlots (all_of k.marker.now) k.slots.now
  pub numbers : AreNumbers k.numbers.now
  pub recs : k.numbers.now.world.now.recs ≡ all_of k.marker.now

-- ---- rules

abbrev pub class_by : Rule → List AsmRec → RowAt → RowAt → List Fact
class_by rule.Runs recs = class_runs recs
class_by rule.Fills recs = class_fills recs

abbrev pub interface_by : Rule → List AsmRec → RowAt → RowAt → RowAt → List Fact
interface_by rule.Runs recs = interface_runs recs
interface_by rule.Fills recs = interface_fills recs

-- the facts that follow from a type with the slots of these types
abbrev pub given_by : Known → Rule → RowAt → List RowAt → List Fact
given_by k rule t types =
    flat_map (λ c. flat_map (slot_gives (recs_in k) (knows k) (class_by rule (recs_in k) t)) (own_slots (recs_in k) c)) types
    ++ flat_map (λ c. flat_map (row_gives (recs_in k) (knows k) (interface_by rule (recs_in k) t)) (own_rows (recs_in k) c)) types

-- the facts that follow from a type with slots
abbrev pub slots_and_rows : Known → Rule → RowAt → List Fact
slots_and_rows k rule t = with_slots (recs_in k) (knows k) (class_by rule (recs_in k)) t ++ with_rows (recs_in k) (knows k) (interface_by rule (recs_in k)) t

-- ---- pieces

-- the definition of a type
abbrev pub homes : List AsmRec → TypeExpr → List RowAt
homes recs e = listed (home_of recs e)

abbrev pub row_at : ℕ → ℕ → InterfaceImplRow → List RowAt
row_at asm k row = at_row asm k ∷ []

-- the facts that an interface row of a marked type gives, by its number from 0
abbrev pub named_row : List AsmRec → (Item → Bool) → ℕ → AsmRec → ℕ → InterfaceImplRow → List Fact
named_row recs known a rec k row = flat_map (named_known recs known (at_row a k)) (listed (good_type (token_type recs a rec row.interface)))
