-- The TypeRef rows of all inputs.
use Rattle.std.specs.Prelude.{◌≡◌, List}
use Rattle.il_base.specs.declared.world_model.record.AsmRec.{AsmRec}
use Rattle.resolver.specs.type_links.Index.{IsIndex}
use Rattle.rules.specs.merge_rules.Absent.{type_count, reference_rows}
use Rattle.token_keys.specs.declared.absent_types.references.References.{References}
use Rattle.token_keys.specs.absent_types.Named.{AreNamed}

-- the records of all assemblies
abbrev pub recs_of : References → List AsmRec
recs_of r = r.index.now.all.now

pub record IsReferences (r : References) : Type 0 where
  pub index : IsIndex r.index.now
  pub rows : r.rows.items ≡ reference_rows (recs_of r)
  pub named : AreNamed (recs_of r) r.rows.items r.named
  pub types : r.types ≡ type_count (recs_of r)
