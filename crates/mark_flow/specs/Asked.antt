-- What a site asks for of a type, and the types that are known there, in parts.
use Rattle.std.specs.Prelude.{ℕ, List, [], suc, length, ◌==◌, if◌then◌else◌}
use Rattle.std.specs.List.{flat_map}
use Rattle.il_base.specs.declared.ids.TypeId.{TypeId}
use Rattle.il_base.specs.declared.world_model.record.AsmRec.{AsmRec}
use Rattle.rules.specs.link_rules.Members.{type_home}
use Rattle.rules.specs.link_rules.Cycles.{listed}
use Rattle.rules.specs.flow_rules.Sources.{type_of_text}
use Rattle.rules.specs.mark_rules.Facts.{Fact}
use Rattle.rules.specs.mark_rules.FlowMarks.{asked_members, reach, asked_of, known_types}
use Rattle.rules.specs.declared.flow_rules.source.Source.{Source}
use Rattle.rules.specs.declared.site_rules.target.Target.{Target}
use Rattle.rules.specs.declared.site_rules.site.Site.{Site}

abbrev pub reached_of : List AsmRec → Site → TypeId → List Fact
reached_of recs s t = flat_map reach (flat_map (asked_members recs s.names s.kinds) (listed (type_home recs t)))

-- the type that a text finds from an assembly, which isn't the core library
abbrev pub found_in : List AsmRec → List ℕ → ℕ → List TypeId
found_in recs text from = if suc from == length recs then [] else listed (type_of_text recs from text)

-- what a site asks for of the types that are known by a source
abbrev pub asked_by : List AsmRec → Site → Target → Source → List Fact
asked_by recs s to x = flat_map (asked_of recs s) (known_types recs to x)
