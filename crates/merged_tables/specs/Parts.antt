-- What the tables of an output are made of.
use Rattle.std.specs.Prelude.{◌≡◌, ◌++◌, List}
use Rattle.il_base.specs.declared.world_model.record.AsmRec.{AsmRec}
use Rattle.resolver.specs.type_links.Index.{IsIndex}
use Rattle.mark_parts.specs.mark_tables.Assemblies.{all_of, IsMarker}
use Rattle.rules.specs.merge_rules.Numbers.{Kept}
use Rattle.rules.specs.merge_rules.Order.{met_by_types}
use Rattle.rules.specs.merge_rules.Attributes.{met_by_attributes}
use Rattle.rules.specs.merge_rules.Refs.{Output}
use Rattle.merge_plan.specs.Kept.{kept_by}
use Rattle.merge_plan.specs.kept_tables.Kept.{AreKept}
use Rattle.merged_tables.specs.merged_members.Laws.{HaveTokens}
use Rattle.merged_tables.specs.merged_types.Laws.{IsPlanOf}
use Rattle.merged_tables.specs.declared.parts.OutputParts.{OutputParts}

-- `output_of`, with its parts in sight
abbrev pub output_by : List AsmRec → Kept → Output
output_by recs kept = record { recs = recs; kept = kept; mets = met_by_types recs kept ++ met_by_attributes recs kept }

-- the output of these assemblies and kept items
abbrev pub output_in : OutputParts → Output
output_in p = output_by p.recs.now (kept_by p.kept.now)

pub record AreOutputParts (p : OutputParts) : Type 0 where
  pub marker : IsMarker p.marker.now
  pub same : all_of p.marker.now ≡ p.recs.now
  pub index : IsIndex p.index.now
  pub all : p.index.now.all.now ≡ p.recs.now
  pub plan : IsPlanOf (output_in p) p.plan.now
  pub tables : AreKept p.recs.now (kept_by p.kept.now) p.tables.now
  pub tokens : HaveTokens (output_in p) p.tokens.now
