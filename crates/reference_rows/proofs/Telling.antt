-- Tokens and rows over what code holds, and those of an output.
use Rattle.std.proofs.Common.{◌≡◌, List, map, Some, None}
use Rattle.std.specs.Prelude.{position, if◌then◌else◌}
use Rattle.std.specs.List.{flat_map}
use Rattle.std.specs.Option.{option_and_then}
use Rattle.il_base.specs.declared.ids.TypeId.{TypeId}
use Rattle.il_base.specs.declared.table.TheConstants.{TYPE_REF}
use Rattle.il_base.specs.declared.world_model.assemblies.AssemblyRefRow.{AssemblyRefRow}
use Rattle.rules.specs.link_rules.Members.{type_home}
use Rattle.rules.specs.link_rules.Cycles.{listed}
use Rattle.rules.specs.type_rules.Rows.{type_row_at}
use Rattle.rules.specs.merge_rules.Absent.{same_assembly, absent_row, reference_at}
use Rattle.rules.specs.merge_rules.Refs.{Output, same_id, each_once, is_reference, scope_type, assemblies_of, own_scope, first_or, row_token, assembly_refs, type_token, assembly_token, scope_token, type_ref_row, type_ref_rows}
use Rattle.reference_rows.specs.reference_assemblies.Assemblies.{assembly_token_by, assemblies_by}
use Rattle.reference_rows.specs.declared.tokens.TypeTokens.{TypeTokens}
use Rattle.reference_rows.specs.Types.{recs_in, kept_type_token, type_token_by, other_scope_by, scope_token_by, found_row, absent_ref, type_ref_by, type_ref_rows_by}
use Rattle.reference_rows.specs.Laws.{AreOf, AreTypesOf}

module _ (o : Output) (t : TypeTokens) (e : AreOf o t) where
  tokens_are : (id : TypeId) → type_token_by t id ≡ type_token o id
  unfolding type_token_by type_token
  tokens_are id = λ i. if is_reference (e.recs i) id then row_token TYPE_REF (position (same_id id) (e.refs i)) else kept_type_token (e.recs i) (e.kept i) id

  assemblies_are : assemblies_by (recs_in t) t.refs.now ≡ assembly_refs o.recs o.mets
  unfolding assembly_refs
  assemblies_are = λ i. each_once same_assembly (flat_map (assemblies_of (e.recs i)) (e.refs i))

  module _ (assemblies : List AssemblyRefRow) (a : assemblies ≡ assembly_refs o.recs o.mets) where
    other_are : (id : TypeId) → other_scope_by t assemblies id ≡ first_or (map (assembly_token o) (assemblies_of o.recs id)) (own_scope o.recs id)
    other_are id = λ i. first_or (map (assembly_token_by (a i)) (assemblies_of (e.recs i) id)) (own_scope (e.recs i) id)

    scope_is : (id : TypeId) → scope_token_by t assemblies id ≡ scope_token o id
    scope_is id = λ i. elim (scope_type (e.recs i) id) [ Some around ↦ tokens_are around i | None ↦ other_are id i ]

    row_is : (id : TypeId) → type_ref_by t assemblies id ≡ type_ref_row o id
    row_is id = λ i.
        elim (absent_row (e.recs i) id) [
          | Some at ↦ map (absent_ref (scope_is id i)) (listed (reference_at (e.recs i) at))
          | None ↦ map (found_row (scope_is id i)) (listed (option_and_then (type_row_at (e.recs i)) (type_home (e.recs i) id)))
        ]

    rows_are : type_ref_rows_by t assemblies ≡ type_ref_rows o
    unfolding type_ref_rows
    rows_are = λ i. flat_map (λ id. row_is id i) (e.refs i)

  pub all_tell : AreTypesOf o t
  all_tell = record { tokens = tokens_are; assemblies = assemblies_are; rows = rows_are }
