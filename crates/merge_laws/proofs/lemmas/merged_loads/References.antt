-- The values of reference rows fit their columns.
use Rattle.std.proofs.Common.{ℕ, List, [], ◌∷◌, map, Option, Some, None, refl, arith}
use Rattle.std.specs.Prelude.{slice_get, codes}
use Rattle.std.specs.List.{flat_map}
use Rattle.std.specs.Option.{option_and_then}
use Rattle.il_base.specs.declared.ids.TypeId.{TypeId}
use Rattle.il_base.specs.declared.table.TheConstants as table
use Rattle.il_base.specs.cli_format.Columns.{columns_of, schema}
use Rattle.il_base.specs.declared.world_model.assemblies.AssemblyRefRow.{AssemblyRefRow}
use Rattle.il_base.specs.declared.world_model.types.TypeDefRow.{TypeDefRow}
use Rattle.il_base.specs.declared.world_model.types.TypeRefRow.{TypeRefRow}
use Rattle.il_base.specs.declared.world_model.members.FieldRow.{FieldRow}
use Rattle.il_base.specs.declared.world_model.members.MethodDefRow.{MethodDefRow}
use Rattle.il_base.specs.declared.world_model.members.MemberRefRow.{MemberRefRow}
use Rattle.il_base.specs.declared.world_model.known.Known.TheVariants.{Good}
use Rattle.il_base.specs.declared.world_model.expr.MemberSig.TheVariants as member
use Rattle.il_base.specs.declared.world_model.record.AsmRec.{AsmRec}
use Rattle.il_base.specs.world_model.Tokens.{index_in}
use Rattle.rules.specs.declared.link_rules.row_at.RowAt.{RowAt}
use Rattle.rules.specs.link_rules.Members.{type_home}
use Rattle.rules.specs.link_rules.Cycles.{listed}
use Rattle.rules.specs.type_rules.Rows.{rec_at, type_row_at, each_row}
use Rattle.rules.specs.merge_rules.Absent.{bare, same_assembly, reference_at, assembly_scope, absent_row}
use Rattle.rules.specs.merge_rules.Numbers.{inputs}
use Rattle.rules.specs.merge_rules.Refs.{Output, scope_type, type_refs, names_core_type, system_runtime, scope_of, assemblies_of, assembly_refs, own_method_sig, own_field_sig, method_at, field_at, MemberKey, a_method, a_field, an_absent, member_refs, new_sig, new_method_sig, key_token, found_ref, absent_ref, type_ref_row, type_ref_rows, parent_token, method_name, field_name, member_ref_row, member_ref_rows}
use Rattle.file_laws.specs.written_tables.Written.{IsText}
use Rattle.merge_laws.proofs.lemmas.merged_record.Lists.{place_in, and_then_some, an_input}
use Rattle.merge_laws.proofs.lemmas.merged_loads.Lists.{Every, every_none, every_one, every_flat, every_map, every_if, every_listed, every_each, every_once, first_holds}
use Rattle.merge_laws.proofs.lemmas.merged_loads.Texts.{is_text, empty_text, option_text}
use Rattle.merge_laws.proofs.lemmas.merged_loads.Names.{RefNamed, ScopeFits, Named, type_named}
use Rattle.merge_laws.proofs.lemmas.merged_loads.MetNames.{MetNamed, MemberNamed, members_named}

abbrev pub MemberRefNamed : MemberRefRow → Type 0
MemberRefNamed row = IsText row.name

module _ (o : Output) (named : Every Named o.recs) where
  -- ---- types

  found_named : (t : TypeId) → Every RefNamed (map (found_ref o t) (listed (option_and_then (type_row_at o.recs) (type_home o.recs t))))
  found_named t =
      every_map RefNamed (found_ref o t) (listed (option_and_then (type_row_at o.recs) (type_home o.recs t)))
      (every_listed (λ (row : TypeDefRow). RefNamed (found_ref o t row)) (option_and_then (type_row_at o.recs) (type_home o.recs t))
      (λ row e. let at = and_then_some (type_row_at o.recs) (type_home o.recs t) row e in let n = type_named o.recs at.0 row named at.2 in (n.0, n.1)))

  absent_named : (t : TypeId) (at : RowAt) → Every RefNamed (map (absent_ref o t) (listed (reference_at o.recs at)))
  absent_named t at =
      every_map RefNamed (absent_ref o t) (listed (reference_at o.recs at))
      (every_listed (λ (row : TypeRefRow). RefNamed (absent_ref o t row)) (reference_at o.recs at)
      (λ row e.
      let r = and_then_some (λ (rec : AsmRec). slice_get rec.type_ref at.row) (rec_at o.recs at) row e in
      let n = (named r.0 (place_in o.recs at.asm r.0 r.1)).refs row (place_in r.0.type_ref at.row row r.2) in (n.0, n.1)))

  ref_by : (t : TypeId) (x : Option RowAt)
      → Every RefNamed (elim x [ Some at ↦ map (absent_ref o t) (listed (reference_at o.recs at)) | None ↦ map (found_ref o t) (listed (option_and_then (type_row_at o.recs) (type_home o.recs t))) ])
  ref_by t (Some at) = absent_named t at
  ref_by t None = found_named t

  pub refs_named : Every RefNamed (type_ref_rows o)
  unfolding type_ref_rows
  refs_named = every_flat RefNamed (type_ref_row o) (type_refs o.recs o.mets) (λ t c. ref_by t (absent_row o.recs t))

  -- ---- assemblies

  bare_fits : (row : AssemblyRefRow) → ScopeFits row → ScopeFits (bare row)
  unfolding columns_of schema
  bare_fits row h = (h.0, (h.1.0, (h.1.1.0, (h.1.1.1.0, (h.1.1.1.1.0, (tt, (h.1.1.1.1.1.1.0, (h.1.1.1.1.1.1.1.0, (tt, tt)))))))))

  runtime_text : IsText (codes "System.Runtime")
  runtime_text = is_text (codes "System.Runtime") refl refl

  runtime_fits : ScopeFits system_runtime
  unfolding columns_of schema
  runtime_fits = (omega arith, (omega arith, (omega arith, (omega arith, (omega arith, (tt, (runtime_text, (empty_text, (tt, tt)))))))))

  naming_fits : (t : TypeId) (a : ℕ) (rec : AsmRec) (k : ℕ) (row : TypeRefRow) → Named rec → Every ScopeFits (names_core_type o.recs t a rec k row)
  naming_fits t a rec k row own =
      every_if ScopeFits _ (listed (option_and_then (slice_get rec.assembly_ref) (index_in table.ASSEMBLY_REF row.resolution_scope))) []
      (every_listed ScopeFits (option_and_then (slice_get rec.assembly_ref) (index_in table.ASSEMBLY_REF row.resolution_scope))
      (λ scope e. let p = and_then_some (slice_get rec.assembly_ref) (index_in table.ASSEMBLY_REF row.resolution_scope) scope e in own.scopes scope (place_in rec.assembly_ref p.0 scope p.2)))
      (every_none ScopeFits)

  scope_fits : (t : TypeId) → ScopeFits (scope_of o.recs t)
  unfolding scope_of
  scope_fits t =
      let all : List AssemblyRefRow = flat_map (λ (x : ℕ × AsmRec). each_row (names_core_type o.recs t x.0 x.1) x.1.type_ref) (inputs o.recs) in
      bare_fits _
      (first_holds ScopeFits all system_runtime
      (every_flat ScopeFits (λ (x : ℕ × AsmRec). each_row (names_core_type o.recs t x.0 x.1) x.1.type_ref) (inputs o.recs)
      (λ x c.
      let i = an_input o.recs x c in
      every_each ScopeFits (names_core_type o.recs t x.0 x.1) 0 x.1.type_ref (λ k row d. naming_fits t x.0 x.1 k row (named x.1 (place_in o.recs x.0 x.1 i.there)))))
      runtime_fits)

  assembly_fits : (at : RowAt) → Every ScopeFits (map bare (listed (assembly_scope o.recs at)))
  assembly_fits at =
      every_map ScopeFits bare (listed (assembly_scope o.recs at))
      (every_listed (λ (row : AssemblyRefRow). ScopeFits (bare row)) (assembly_scope o.recs at)
      (λ row e.
      let r = and_then_some (λ (ref : TypeRefRow). option_and_then (λ (rec : AsmRec). option_and_then (slice_get rec.assembly_ref) (index_in table.ASSEMBLY_REF ref.resolution_scope)) (rec_at o.recs at)) (reference_at o.recs at) row e in
      let q = and_then_some (λ (rec : AsmRec). option_and_then (slice_get rec.assembly_ref) (index_in table.ASSEMBLY_REF r.0.resolution_scope)) (rec_at o.recs at) row r.2 in
      let p = and_then_some (slice_get q.0.assembly_ref) (index_in table.ASSEMBLY_REF r.0.resolution_scope) row q.2 in
      bare_fits row ((named q.0 (place_in o.recs at.asm q.0 q.1)).scopes row (place_in q.0.assembly_ref p.0 row p.2))))

  around_by : (t : TypeId) (x : Option TypeId) → Every ScopeFits (elim x [ Some around ↦ [] | None ↦ scope_of o.recs t ∷ [] ])
  around_by t (Some around) = every_none ScopeFits
  around_by t None = every_one ScopeFits (scope_of o.recs t) (scope_fits t)

  scopes_by : (t : TypeId) (x : Option RowAt)
      → Every ScopeFits (elim x [ Some at ↦ map bare (listed (assembly_scope o.recs at)) | None ↦ elim (scope_type o.recs t) [ Some around ↦ [] | None ↦ scope_of o.recs t ∷ [] ] ])
  scopes_by t (Some at) = assembly_fits at
  scopes_by t None = around_by t (scope_type o.recs t)

  pub scopes_fit : Every ScopeFits (assembly_refs o.recs o.mets)
  unfolding assembly_refs
  scopes_fit =
      every_once ScopeFits same_assembly [] (flat_map (assemblies_of o.recs) (type_refs o.recs o.mets)) (every_none ScopeFits)
      (every_flat ScopeFits (assemblies_of o.recs) (type_refs o.recs o.mets) (λ t c. scopes_by t (absent_row o.recs t)))

  -- ---- members

  method_text : (at : RowAt) → IsText (method_name o.recs at)
  method_text at =
      option_text (λ (rec : AsmRec). flat_map (λ (m : MethodDefRow). m.name) (listed (slice_get rec.method_def at.row))) (rec_at o.recs at)
      (λ rec e. option_text (λ (m : MethodDefRow). m.name) (slice_get rec.method_def at.row) (λ m f. (named rec (place_in o.recs at.asm rec e)).methods m (place_in rec.method_def at.row m f)))

  field_text : (at : RowAt) → IsText (field_name o.recs at)
  field_text at =
      option_text (λ (rec : AsmRec). flat_map (λ (f : FieldRow). f.name) (listed (slice_get rec.field at.row))) (rec_at o.recs at)
      (λ rec e. option_text (λ (f : FieldRow). f.name) (slice_get rec.field at.row) (λ m f. (named rec (place_in o.recs at.asm rec e)).fields m (place_in rec.field at.row m f)))

  member_named : (m : MemberKey) → MemberNamed m → Every MemberRefNamed (member_ref_row o m)
  member_named (a_method m e) h =
      every_flat MemberRefNamed (λ at. map (λ s. record { class = parent_token o e; name = method_name o.recs at; signature = Good (member.Method (new_method_sig o s)) }) (own_method_sig o.recs at)) (listed (method_at o.recs m))
      (λ at c. every_map MemberRefNamed (λ s. record { class = parent_token o e; name = method_name o.recs at; signature = Good (member.Method (new_method_sig o s)) }) (own_method_sig o.recs at) (λ s d. method_text at))
  member_named (a_field f e) h =
      every_flat MemberRefNamed (λ at. map (λ s. record { class = parent_token o e; name = field_name o.recs at; signature = Good (member.Field (new_sig o s)) }) (own_field_sig o.recs at)) (listed (field_at o.recs f))
      (λ at c. every_map MemberRefNamed (λ s. record { class = parent_token o e; name = field_name o.recs at; signature = Good (member.Field (new_sig o s)) }) (own_field_sig o.recs at) (λ s d. field_text at))
  member_named (an_absent p name s) h = every_one MemberRefNamed (record { class = key_token o p; name = name; signature = Good (member.Method (new_method_sig o s)) }) h

  module _ (mets : Every MetNamed o.mets) where
    pub member_refs_named : Every MemberRefNamed (member_ref_rows o)
    unfolding member_ref_rows
    member_refs_named = every_flat MemberRefNamed (member_ref_row o) (member_refs o.mets) (λ m c. member_named m (members_named o.mets mets m c))
