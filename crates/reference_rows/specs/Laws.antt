-- With what the output refers to, the tokens and rows are its own.
use Rattle.std.specs.Prelude.{◌≡◌, List}
use Rattle.il_base.specs.declared.ids.TypeId.{TypeId}
use Rattle.il_base.specs.declared.world_model.assemblies.AssemblyRefRow.{AssemblyRefRow}
use Rattle.rules.specs.merge_rules.Numbers.{kept_types}
use Rattle.rules.specs.merge_rules.Refs.{Output, type_refs, assembly_refs, type_token, type_ref_rows}
use Rattle.reference_rows.specs.reference_assemblies.Assemblies.{assemblies_by}
use Rattle.reference_rows.specs.declared.tokens.TypeTokens.{TypeTokens}
use Rattle.reference_rows.specs.Types.{recs_in, type_token_by, type_ref_rows_by}

-- the assemblies, the types that have TypeRef rows, and the kept types of an output
pub record AreOf (o : Output) (t : TypeTokens) : Type 0 where
  pub recs : recs_in t ≡ o.recs
  pub refs : t.refs.now ≡ type_refs o.recs o.mets
  pub kept : t.kept.now ≡ kept_types o.recs o.kept

pub record AreTypesOf (o : Output) (t : TypeTokens) : Type 0 where
  pub tokens : (id : TypeId) → type_token_by t id ≡ type_token o id
  pub assemblies : assemblies_by (recs_in t) t.refs.now ≡ assembly_refs o.recs o.mets
  pub rows : (assemblies : List AssemblyRefRow) → assemblies ≡ assembly_refs o.recs o.mets → type_ref_rows_by t assemblies ≡ type_ref_rows o

abbrev pub TypesTell : Type 0
TypesTell = (o : Output) (t : TypeTokens) → AreOf o t → AreTypesOf o t
