-- The types that references name (II.22.38, II.22.14). A TypeRef row goes by its scope, an assembly by its simple name. A type goes
-- by its namespace, name and encloser, or through the assemblies that forward it. Assemblies and rows are counted from 0; the last
-- assembly is the core library.
use Rattle.std.specs.Prelude.{ℕ, zero, suc, ◌-◌, List, [], ◌∷◌, length, Option, Some, None, slice_get, position, nat_le, ◌==◌, ◌&&◌, Bool, true, false, if◌then◌else◌}
use Rattle.std.specs.Option.{option_map, option_and_then}
use Rattle.il_base.specs.declared.world_model.types.TypeDefRow.{TypeDefRow}
use Rattle.il_base.specs.declared.world_model.types.TypeRefRow.{TypeRefRow}
use Rattle.il_base.specs.declared.world_model.types.NestedClassRow.{NestedClassRow}
use Rattle.il_base.specs.declared.world_model.types.ExportedTypeRow.{ExportedTypeRow}
use Rattle.il_base.specs.declared.world_model.assemblies.AssemblyRow.{AssemblyRow}
use Rattle.il_base.specs.declared.world_model.assemblies.AssemblyRefRow.{AssemblyRefRow}
use Rattle.il_base.specs.declared.world_model.record.AsmRec.{AsmRec}
use Rattle.il_base.specs.world_model.Tokens.{token_of, table_of, index_in}
use Rattle.il_base.specs.world_model.Core.{same_name, is_core_name}
use Rattle.il_base.specs.world_model.Worlds.{row_below, types_in, type_id}
use Rattle.il_base.specs.declared.ids.TypeId.{TypeId}
use Rattle.il_base.specs.declared.table.TheConstants.{MODULE, TYPE_REF, TYPE_DEF, ASSEMBLY_REF}
use Rattle.il_base.specs.declared.core_table.types.TheConstants.{TYPE_COUNT}
use Rattle.rules.specs.declared.link_rules.row_at.RowAt.{RowAt}

abbrev pub or_else : {A : Type 0} → Option A → Option A → Option A
or_else None other = other
or_else (Some x) other = Some x

abbrev pub at_row : ℕ → ℕ → RowAt
at_row a k = record { asm = a; row = k }

-- ---- assemblies

abbrev pub has_name : List ℕ → List AssemblyRow → Bool
has_name name [] = false
has_name name (row ∷ rows) = same_name row.name name

abbrev pub is_called : List ℕ → AsmRec → Bool
is_called name rec = has_name name rec.assembly

-- the place of the core library, where this is one of its reference names
abbrev pub core_named : List AsmRec → List ℕ → Option ℕ
core_named recs name = if is_core_name name then Some (length recs - 1) else None

-- the first assembly of this name, else the core library where it is a name of that
unfoldable pub assembly_named : List AsmRec → List ℕ → Option ℕ
assembly_named recs name = or_else (position (is_called name) recs) (core_named recs name)

-- the assembly that an AssemblyRef row names
abbrev pub assembly_at : List AsmRec → AsmRec → ℕ → Option ℕ
assembly_at recs rec k = option_and_then (λ (row : AssemblyRefRow). assembly_named recs row.name) (slice_get rec.assembly_ref k)

-- ---- nesting (II.22.32)

abbrev pub encloser_in : ℕ → List NestedClassRow → Option ℕ
encloser_in token [] = None
encloser_in token (row ∷ rows) = if row.nested_class == token then index_in TYPE_DEF row.enclosing_class else encloser_in token rows

-- the type that encloses a type, None for a type that isn't nested
unfoldable pub encloser : AsmRec → ℕ → Option ℕ
encloser rec k = encloser_in (token_of TYPE_DEF (suc k)) rec.nested_class

abbrev pub same_place : Option ℕ → Option ℕ → Bool
same_place None None = true
same_place None (Some k) = false
same_place (Some j) None = false
same_place (Some j) (Some k) = j == k

-- ---- type definitions by name

-- the place of a type by its name among these rows, of which the first has the place k
abbrev pub type_from : AsmRec → Option ℕ → List ℕ → List ℕ → ℕ → List TypeDefRow → Option ℕ
type_from rec around namespace name k [] = None
type_from rec around namespace name k (t ∷ ts) =
    if same_name t.name name && same_name t.namespace namespace && same_place (encloser rec k) around then Some k
    else type_from rec around namespace name (suc k) ts

-- the first type of an assembly with this namespace, name and encloser
unfoldable pub type_in : AsmRec → Option ℕ → List ℕ → List ℕ → Option ℕ
type_in rec around namespace name = type_from rec around namespace name 0 rec.type_def

-- ---- types that an assembly forwards (II.22.14)

abbrev pub is_forwarded : List ℕ → List ℕ → ExportedTypeRow → Bool
is_forwarded namespace name row =
    same_name row.name name && same_name row.namespace namespace && table_of row.implementation == ASSEMBLY_REF

abbrev pub forwarder_in : List ℕ → List ℕ → List ExportedTypeRow → Option ℕ
forwarder_in namespace name [] = None
forwarder_in namespace name (row ∷ rows) =
    if is_forwarded namespace name row then index_in ASSEMBLY_REF row.implementation else forwarder_in namespace name rows

-- the assembly to which an assembly forwards the type of this name
unfoldable pub forwarded_to : List AsmRec → AsmRec → List ℕ → List ℕ → Option ℕ
forwarded_to recs rec namespace name = option_and_then (assembly_at recs rec) (forwarder_in namespace name rec.exported_type)

-- The type of this name that isn't nested, in an assembly or in the one that it is forwarded to, over at most n assemblies.
-- A longer chain of forwarders comes back to an assembly, and finds nothing.
unfoldable pub top_type : List AsmRec → ℕ → List ℕ → List ℕ → ℕ → Option RowAt
top_type recs zero namespace name a = None
top_type recs (suc n) namespace name a =
    option_and_then
    (λ (rec : AsmRec). or_else (option_map (at_row a) (type_in rec None namespace name)) (option_and_then (top_type recs n namespace name) (forwarded_to recs rec namespace name)))
    (slice_get recs a)

-- ---- where the forwarders of a name end

abbrev pub ends_from : ℕ → (ℕ → Option ℕ) → Option ℕ → Option ℕ → Option ℕ
ends_from a next (Some k) to = None
ends_from a next None None = Some a
ends_from a next None (Some b) = next b

-- The assembly to which a name is forwarded and which doesn't forward it, over at most n assemblies. Where an assembly on the
-- way has a type of this name the search ends there, with a type; a chain that comes back to an assembly ends nowhere.
unfoldable pub ends_at : List AsmRec → ℕ → List ℕ → List ℕ → ℕ → Option ℕ
ends_at recs zero namespace name a = None
ends_at recs (suc n) namespace name a =
    option_and_then
    (λ (rec : AsmRec). ends_from a (ends_at recs n namespace name) (type_in rec None namespace name) (forwarded_to recs rec namespace name))
    (slice_get recs a)

-- ---- type references

-- the assembly of a TypeRef row's scope; 0 and a Module token are the assembly itself
abbrev pub scope_assembly : List AsmRec → ℕ → AsmRec → TypeRefRow → Option ℕ
scope_assembly recs a rec row =
    if table_of row.resolution_scope == MODULE then Some a
    else option_and_then (assembly_at recs rec) (index_in ASSEMBLY_REF row.resolution_scope)

abbrev pub nested_type : List AsmRec → List ℕ → List ℕ → Option RowAt → Option RowAt
nested_type recs namespace name None = None
nested_type recs namespace name (Some around) =
    option_map (at_row around.asm) (option_and_then (λ rec. type_in rec (Some around.row) namespace name) (slice_get recs around.asm))

-- the type that a reference to a type that isn't nested names, by the assembly of its scope; 0 and a Module token are the assembly
-- itself
abbrev pub type_of_scope : List AsmRec → ℕ → AsmRec → TypeRefRow → Option RowAt
type_of_scope recs a rec row =
    if table_of row.resolution_scope == MODULE then top_type recs (length recs) row.namespace row.name a
    else option_and_then (top_type recs (length recs) row.namespace row.name) (option_and_then (assembly_at recs rec) (index_in ASSEMBLY_REF row.resolution_scope))

-- the type that a reference names, by the type that encloses it or by an assembly
abbrev pub ref_type_by : List AsmRec → ℕ → AsmRec → TypeRefRow → (ℕ → Option RowAt) → Option ℕ → Option RowAt
ref_type_by recs a rec row outer (Some j) = nested_type recs row.namespace row.name (outer j)
ref_type_by recs a rec row outer None = type_of_scope recs a rec row

-- The type that a TypeRef row of an assembly names, over at most n rows. A chain of scopes that is longer than the table
-- comes back to a row, and names nothing.
unfoldable pub ref_type : List AsmRec → ℕ → AsmRec → ℕ → ℕ → Option RowAt
ref_type recs a rec zero k = None
ref_type recs a rec (suc n) k =
    option_and_then (λ (row : TypeRefRow). ref_type_by recs a rec row (ref_type recs a rec n) (index_in TYPE_REF row.resolution_scope)) (slice_get rec.type_ref k)

abbrev pub ref_at : List AsmRec → ℕ → AsmRec → ℕ → Option RowAt
ref_at recs a rec k = ref_type recs a rec (length rec.type_ref) k

-- ---- types that only modifiers find (II.7.1.1)

-- a row of the core library after those of its table: a name that a modifier uses was added there
abbrev pub is_added : List AsmRec → RowAt → Bool
is_added recs at = suc at.asm == length recs && nat_le TYPE_COUNT at.row

abbrev pub listed_at : List AsmRec → RowAt → Option RowAt
listed_at recs at = if is_added recs at then None else Some at

abbrev pub added_at : List AsmRec → RowAt → Option RowAt
added_at recs at = if is_added recs at then Some at else None

-- the definition that a TypeRef row names, for all but a modifier
unfoldable pub ref_definition : List AsmRec → ℕ → AsmRec → ℕ → Option RowAt
ref_definition recs a rec k = option_and_then (listed_at recs) (ref_at recs a rec k)

-- the type that a TypeRef row names for a modifier alone
unfoldable pub added_type : List AsmRec → ℕ → AsmRec → ℕ → Option TypeId
added_type recs a rec k = option_map (λ (at : RowAt). type_id recs at.asm at.row) (option_and_then (added_at recs) (ref_at recs a rec k))

-- ---- tokens

-- the definition that a TypeDef or TypeRef token of an assembly names
unfoldable pub definition_at : List AsmRec → ℕ → AsmRec → ℕ → Option RowAt
definition_at recs a rec token =
    if table_of token == TYPE_DEF then option_map (at_row a) (row_below (types_in rec) (index_in TYPE_DEF token))
    else option_and_then (ref_definition recs a rec) (index_in TYPE_REF token)

-- the type that a TypeRef token of an assembly names for a modifier alone
unfoldable pub added_by : List AsmRec → ℕ → AsmRec → ℕ → Option TypeId
added_by recs a rec token = option_and_then (added_type recs a rec) (index_in TYPE_REF token)
