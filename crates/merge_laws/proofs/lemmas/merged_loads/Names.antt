-- The names in a world are texts: those of files' records, and those of the core library with the names that modifiers use.
use Rattle.std.proofs.Common.{◌≡◌, ℕ, suc, List, [], ◌∷◌, ◌++◌, map, Bool, Some, refl}
use Rattle.std.specs.Prelude.{slice_get, codes, if◌then◌else◌}
use Rattle.std.specs.List.{Contains, list_any}
use Rattle.std.specs.Option.{option_and_then}
use Rattle.il_base.specs.declared.table.TheConstants.{TYPE_REF}
use Rattle.il_base.specs.cli_format.Columns.{columns_of, schema}
use Rattle.il_base.specs.declared.world_model.types.TypeDefRow.{TypeDefRow}
use Rattle.il_base.specs.declared.world_model.types.TypeRefRow.{TypeRefRow}
use Rattle.il_base.specs.declared.world_model.members.FieldRow.{FieldRow}
use Rattle.il_base.specs.declared.world_model.members.MethodDefRow.{MethodDefRow}
use Rattle.il_base.specs.declared.world_model.members.MemberRefRow.{MemberRefRow}
use Rattle.il_base.specs.declared.world_model.assemblies.AssemblyRow.{AssemblyRow}
use Rattle.il_base.specs.declared.world_model.assemblies.AssemblyRefRow.{AssemblyRefRow}
use Rattle.il_base.specs.declared.world_model.record.AsmRec.{AsmRec}
use Rattle.il_base.specs.world_model.Tokens.{index_in}
use Rattle.il_base.specs.declared.core_table.types.TheConstants.{TYPES}
use Rattle.il_base.specs.core_table.Record.{core_record, record_with, assembly_row, type_rows}
use Rattle.rules.specs.declared.link_rules.core_type_name.CoreTypeName.{CoreTypeName}
use Rattle.rules.specs.declared.link_rules.row_at.RowAt.{RowAt}
use Rattle.rules.specs.link_rules.Types.{scope_assembly}
use Rattle.rules.specs.link_rules.Cycles.{add_new, add_all}
use Rattle.rules.specs.link_rules.CoreNames.{all_modifiers, is_missing, same_core_name, missing_name, missing_at, missing_in, missing_from, missing_names, added_row, core_with}
use Rattle.rules.specs.link_rules.Linked.{assemblies}
use Rattle.rules.specs.type_rules.Rows.{rec_at, type_row_at}
use Rattle.rules.specs.record_layout.Rows.{assembly_ref_values}
use Rattle.file_laws.specs.written_tables.Written.{IsText}
use Rattle.file_laws.specs.layout_laws.Columns.{FitsColumns}
use Rattle.merge_laws.proofs.lemmas.merged_record.Lists.{first_in, later_in, place_in, and_then_some}
use Rattle.merge_laws.proofs.lemmas.merged_loads.Lists.{Every, every_none, every_one, every_join, every_flat, every_map, every_if, every_option}
use Rattle.merge_laws.proofs.lemmas.merged_loads.Texts.{is_text}
use Rattle.merge_laws.proofs.lemmas.merged_loads.CoreNames.{TypeNamed, core_types_named, core_fields_named, core_methods_named}
use Rattle.merge_laws.proofs.lemmas.merged_loads.FileRows.{FileFits}

abbrev pub RefNamed : TypeRefRow → Type 0
RefNamed row = IsText row.name × IsText row.namespace

abbrev pub ScopeFits : AssemblyRefRow → Type 0
ScopeFits row = FitsColumns (columns_of 0x23) (assembly_ref_values row)

pub record Named (rec : AsmRec) : Type 0 where
  pub types : Every TypeNamed rec.type_def
  pub refs : Every RefNamed rec.type_ref
  pub fields : Every (λ (row : FieldRow). IsText row.name) rec.field
  pub methods : Every (λ (row : MethodDefRow). IsText row.name) rec.method_def
  pub members : Every (λ (row : MemberRefRow). IsText row.name) rec.member_ref
  pub assemblies : Every (λ (row : AssemblyRow). IsText row.name) rec.assembly
  pub scopes : Every ScopeFits rec.assembly_ref

-- ---- a file's record

input_named : (rec : AsmRec) → FileFits rec → Named rec
unfolding columns_of schema
input_named rec fits = record {
  types = λ row c. let f = fits.type_defs row c in (f.1.0, f.1.1.0);
  refs = λ row c. let f = fits.type_refs row c in (f.1.0, f.1.1.0);
  fields = λ row c. (fits.fields row c).1.0;
  methods = λ row c. (fits.methods row c).1.1.1.0;
  members = λ row c. (fits.member_refs row c).1.0;
  assemblies = λ row c. (fits.assemblies row c).1.1.1.1.1.1.1.0;
  scopes = fits.assembly_refs;
}

-- ---- names that only modifiers use

abbrev CoreNamed : CoreTypeName → Type 0
CoreNamed x = IsText x.name × IsText x.namespace

every_new : (b : Bool) (xs : List CoreTypeName) (x : CoreTypeName) → Every CoreNamed xs → CoreNamed x → Every CoreNamed (if b then xs else xs ++ x ∷ [])
every_new b xs x g h = every_if CoreNamed b xs (xs ++ x ∷ []) g (every_join CoreNamed xs (x ∷ []) g (every_one CoreNamed x h))

every_added : (same : CoreTypeName → CoreTypeName → Bool) (xs ys : List CoreTypeName) → Every CoreNamed xs → Every CoreNamed ys → Every CoreNamed (add_all same xs ys)
every_added same xs [] g h = g
every_added same xs (y ∷ ys) g h = every_added same (add_new same xs y) ys (every_new (list_any (same y) xs) xs y g (h y (first_in y ys))) (λ z c. h z (later_in y ys z c))

every_missing : (all : List AsmRec) (a : ℕ) (recs : List AsmRec) → ((rec : AsmRec) → Contains recs rec → Every RefNamed rec.type_ref) → Every CoreNamed (missing_from all a recs)
every_missing all a [] h = every_none CoreNamed
every_missing all a (rec ∷ recs) h =
    every_join CoreNamed (missing_in all a rec) (missing_from all (suc a) recs)
    (every_flat CoreNamed (missing_at all a rec) (all_modifiers rec)
    (λ token c. every_option CoreNamed (missing_name all a rec) (option_and_then (slice_get rec.type_ref) (index_in TYPE_REF token))
    (λ row e.
    let k = and_then_some (slice_get rec.type_ref) (index_in TYPE_REF token) row e in
    let named = h rec (first_in rec recs) row (place_in rec.type_ref k.0 row k.2) in
    every_if CoreNamed (is_missing all (scope_assembly all a rec row) row.namespace row.name) (record { namespace = row.namespace; name = row.name } ∷ []) []
    (every_one CoreNamed (record { namespace = row.namespace; name = row.name }) (named.0, named.1)) (every_none CoreNamed))))
    (every_missing all (suc a) recs (λ r c. h r (later_in rec recs r c)))

-- ---- the core library

assembly_named : IsText (codes "System.Private.CoreLib")
assembly_named = is_text (codes "System.Private.CoreLib") refl refl

core_refs : Every RefNamed core_record.type_ref
unfolding core_record record_with
core_refs = every_none RefNamed

core_named : (names : List CoreTypeName) → Every CoreNamed names → Named (core_with core_record names)
unfolding core_with core_record record_with assembly_row
core_named names h = record {
  types = every_join TypeNamed (type_rows 1 1 TYPES) (map (added_row core_record) names) (core_types_named 1 1 TYPES) (every_map TypeNamed (added_row core_record) names h);
  refs = every_none RefNamed;
  fields = core_fields_named TYPES;
  methods = core_methods_named TYPES;
  members = every_none (λ (row : MemberRefRow). IsText row.name);
  assemblies = every_one (λ (row : AssemblyRow). IsText row.name) assembly_row assembly_named;
  scopes = every_none ScopeFits;
}

-- ---- the world

pub world_named : (inputs : List AsmRec) → ((rec : AsmRec) → Contains inputs rec → FileFits rec) → Every Named (assemblies inputs)
unfolding assemblies missing_names
world_named inputs files =
    let named : Every Named inputs = λ rec c. input_named rec (files rec c) in
    let all : List AsmRec = inputs ++ core_record ∷ [] in
    let refs : Every (λ (rec : AsmRec). Every RefNamed rec.type_ref) all =
    every_join (λ (rec : AsmRec). Every RefNamed rec.type_ref) inputs (core_record ∷ []) (λ rec c. (named rec c).refs) (every_one (λ (rec : AsmRec). Every RefNamed rec.type_ref) core_record core_refs) in
    let names : Every CoreNamed (missing_names all) = every_added same_core_name [] (missing_from all 0 all) (every_none CoreNamed) (every_missing all 0 all refs) in
    every_join Named inputs (core_with core_record (missing_names all) ∷ []) named (every_one Named (core_with core_record (missing_names all)) (core_named (missing_names all) names))

-- ---- rows at places

pub type_named : (recs : List AsmRec) (at : RowAt) (row : TypeDefRow) → Every Named recs → type_row_at recs at ≡ Some row → TypeNamed row
type_named recs at row named e =
    let r = and_then_some (λ (rec : AsmRec). slice_get rec.type_def at.row) (rec_at recs at) row e in
    (named r.0 (place_in recs at.asm r.0 r.1)).types row (place_in r.0.type_def at.row row r.2)
