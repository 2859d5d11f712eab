-- The rows of an output, and the data that they are made of.
use Rattle.std.specs.Prelude.{◌≡◌, Bool, List, map}
use Rattle.il_base.specs.declared.world_model.extras.CustomAttributeRow.{CustomAttributeRow}
use Rattle.il_base.specs.declared.world_model.record.AsmRec.{AsmRec}
use Rattle.resolver.specs.type_links.Index.{IsIndex}
use Rattle.mark_parts.specs.mark_tables.Assemblies.{all_of}
use Rattle.rules.specs.merge_rules.Refs.{Output}
use Rattle.rules.specs.merge_rules.Attributes.{kept_attributes}
use Rattle.rules.specs.merge_rules.Moved.{moved_callee, kept_texts}
use Rattle.rules.specs.merge_rules.Restricted.{attribute_row, new_text}
use Rattle.merge_plan.specs.Kept.{kept_by}
use Rattle.merge_plan.specs.kept_tables.Kept.{AreKept}
use Rattle.token_keys.specs.world_keys.Keys.{IsWorldKeys}
use Rattle.reference_rows.specs.key_tokens.Keys.{AreKeyTokens}
use Rattle.reference_rows.specs.key_tokens.Laws.{AreKeysOf}
use Rattle.merged_tables.specs.merged_members.Laws.{HaveTokens}
use Rattle.restrict.specs.reference_tables.Tables.{AreTablesOf}
use Rattle.merged_tables.specs.merged_types.Laws.{IsPlanOf}
use Rattle.merged_tables.specs.Parts.{output_by}
use Rattle.merged_tables.specs.Rows.{AreMergedTables}
use Rattle.restrict.specs.declared.rows.Sources.{Sources}
use Rattle.restrict.specs.declared.rows.Naming.{Naming}
use Rattle.restrict.specs.declared.rows.OutputRows.{OutputRows}

-- the output of these assemblies and kept items
abbrev pub output_from : Sources → Output
output_from s = output_by s.index.now.all.now (kept_by s.kept.now)

pub record AreSources (s : Sources) : Type 0 where
  pub world : IsWorldKeys s.world
  pub index : IsIndex s.index.now
  pub same : all_of s.world.marker.now ≡ s.index.now.all.now
  pub keys : AreKeyTokens s.keys
  pub told : AreKeysOf (output_from s) s.keys
  pub plan : IsPlanOf (output_from s) s.plan.now
  pub tables : AreKept s.index.now.all.now (kept_by s.kept.now) s.tables.now

abbrev pub AreRowsOfAttributes : Output → List CustomAttributeRow → Type 0
AreRowsOfAttributes o rows = rows ≡ map (attribute_row o) (kept_attributes o.recs o.kept)

pub record IsNaming (o : Output) (n : Naming) : Type 0 where
  pub references : AreTablesOf o n.references
  pub tokens : HaveTokens o n.tokens.items

pub record AreOutputRows (internal : Bool) (o : Output) (first : AsmRec) (r : OutputRows) : Type 0 where
  pub entry : r.entry ≡ moved_callee o 0 first first.entry
  pub tables : AreMergedTables internal o r.tables
  pub references : AreTablesOf o r.references
  pub attributes : r.attributes ≡ map (attribute_row o) (kept_attributes o.recs o.kept)
  pub user : r.user ≡ map (new_text o) (kept_texts o)
