-- What is known of references.
use Rattle.std.specs.Prelude.{List, [], ◌∷◌, Some, None}
use Rattle.il_base.specs.declared.ids.TypeId.{TypeId}
use Rattle.il_base.specs.declared.world_model.assemblies.AssemblyRefRow.{AssemblyRefRow}
use Rattle.il_base.specs.declared.world_model.record.AsmRec.{AsmRec}
use Rattle.rules.specs.merge_rules.Refs.{scope_type, scope_of}
use Rattle.token_keys.specs.absent_types.References.{IsReferences}
use Rattle.token_keys.specs.core_scopes.Firsts.{AreScopes}
use Rattle.reference_rows.specs.declared.reference_scopes.scopes.Scopes.{Scopes}

-- the records of all assemblies
abbrev pub recs_of : Scopes → List AsmRec
recs_of s = s.references.index.now.all.now

pub record IsScopes (s : Scopes) : Type 0 where
  pub references : IsReferences s.references
  pub core : AreScopes (recs_of s) s.core

-- the assembly of a type of the core library; none where it is in another type
abbrev pub core_assemblies : List AsmRec → TypeId → List AssemblyRefRow
core_assemblies recs t = elim (scope_type recs t) [ Some around ↦ [] | None ↦ scope_of recs t ∷ [] ]
