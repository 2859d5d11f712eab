-- Facts and parts of items as the definitions of marking have them.
use Rattle.std.specs.Prelude.{ℕ}
use Rattle.il_base.specs.declared.ids.TypeId.{TypeId}
use Rattle.il_base.specs.declared.ids.Item.TheVariants as item
use Rattle.il_base.specs.world_model.Worlds.{known_map}
use Rattle.rules.specs.mark_rules.Facts as rules
use Rattle.rules.specs.mark_rules.Naming as naming
use Rattle.mark_parts.specs.declared.mark_facts.fact.Fact.{Fact}
use Rattle.mark_parts.specs.declared.mark_facts.fact.Fact.TheVariants.{Marked, Instantiated, Reflected, Shown}
use Rattle.mark_parts.specs.declared.mark_facts.part.Named.{Named}
use Rattle.mark_parts.specs.declared.mark_facts.part.Named.TheVariants as named
use Rattle.mark_parts.specs.declared.mark_facts.part.Part.{Part}
use Rattle.mark_parts.specs.declared.mark_facts.exprs.Said.{Said}
use Rattle.mark_parts.specs.declared.mark_facts.exprs.Said.TheVariants as said

abbrev pub fact_told : Fact → rules.Fact
fact_told (Marked i) = rules.Fact.marked i
fact_told (Instantiated t) = rules.Fact.instantiated t
fact_told (Reflected i) = rules.Fact.reflected i
fact_told (Shown t) = rules.Fact.shown t

abbrev pub named_told : Named → naming.Named
named_told (named.Type e) = naming.Named.type e
named_told (named.Method u) = naming.Named.method u
named_told (named.Field u) = naming.Named.field u

abbrev pub part_told : Part → naming.Part
part_told p = record { token = p.token; at = p.at; named = known_map named_told p.named }

-- the fact on a type
abbrev pub said_of : Said → TypeId → rules.Fact
said_of said.Marked t = rules.Fact.marked (item.Typ t)
said_of said.Shown t = rules.Fact.shown t
